use Rattle.std.proofs.Common.{subst}
use Rattle.dw_abbrev.specs.FewPairs.{FewPairs, few_pairs}
use Rattle.dw_abbrev.proofs.table.Table.pairs_are_few.Goals as goal

pub returns : goal.returns
returns c = subst FewPairs c.self.view_is (few_pairs _ c.self.invariant.fits)
