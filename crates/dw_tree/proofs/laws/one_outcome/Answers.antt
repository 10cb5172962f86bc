use Rattle.dw_leb.specs.Laws.{one_answer}
use Rattle.dw_tree.specs.DecideTree.{tree_decides}
use Rattle.dw_tree.proofs.laws.one_outcome.Goals as goal

pub returns : goal.returns
returns c = λ k t room. one_answer _ _ (tree_decides k t room)
