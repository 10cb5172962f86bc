use Rattle.std.proofs.Common.{◌∙◌}
use Rattle.dw_abbrev.proofs.PlaceLemmas.{found_alike}
use Rattle.dw_abbrev.proofs.decls.Decls.has.Goals as goal

pub returns : goal.returns
returns c =
    c.is_some.ensures ∙ found_alike c.args.self.now c.args.code c.index_of.result c.index_of.ensures.apart c.index_of.ensures.found c.index_of.ensures.none
