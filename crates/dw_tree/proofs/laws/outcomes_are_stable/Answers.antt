use Rattle.dw_tree.specs.DecideTree.{tree_stays}
use Rattle.dw_tree.proofs.laws.outcomes_are_stable.Goals as goal

pub returns : goal.returns
returns c = tree_stays
