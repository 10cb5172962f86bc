use Rattle.std.proofs.Common.{◌∙◌, ap}
use Rattle.dw_ctype.specs.Types.{dimensions_of}
use Rattle.dw_ctype.proofs.Appending.{puts_text}
use Rattle.dw_ctype.proofs.Gathered.{kept_dimensions}
use Rattle.dw_ctype.proofs.dimension.push_each_dimension.Goals as goal

pub returns-in-Some : goal.returns-in-Some
returns-in-Some c =
    puts_text (ap dimensions_of c.deref.ensures.value ∙ kept_dimensions c.args.kept.now.items c.args.id c.args.array.now c.in-Some.parts.now c.requires.there c.in-Some.ensures c.requires.kind) c.push_dimensions_of.ensures
