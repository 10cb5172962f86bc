use Rattle.std.proofs.Common.{◌≡◌, false, codes}
use Rattle.std.proofs.lemmas.Str.Pattern.{starts_text}
use Rattle.dw_cli.specs.Words.{begins_with}
use Rattle.dw_cli.proofs.word.attribute_of.Goals as goal

pub returns-in-None : goal.returns-in-None
returns-in-None c =
    let lacks : false ≡ begins_with (codes "DW_AT_") c.args.word.now = starts_text false (codes "DW_AT_") c.args.word.now (c.in-None.ensures.cases) in
    record { exact = rw (← lacks) c.offset_of.ensures.exact }
