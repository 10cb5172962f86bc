use Rattle.dw_tree.specs.Paths.{lent_by_path}
use Rattle.dw_tree.proofs.laws.entries_are_by_paths.Goals as goal

pub returns : goal.returns
returns c = lent_by_path
