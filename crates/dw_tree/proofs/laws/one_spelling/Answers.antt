use Rattle.dw_leb.specs.PartLaws.{one_front}
use Rattle.dw_tree.specs.DecideTree.{tree_decides}
use Rattle.dw_tree.proofs.laws.one_spelling.Goals as goal

pub returns : goal.returns
returns c = λ k t room. one_front _ _ (tree_decides k t room)
