use Rattle.std.proofs.Common.{◌+◌, length}
use Rattle.dw_tree.specs.Offsets.{one_path, tree_codes}
use Rattle.dw_tree.specs.Spelling.{tree_bytes}
use Rattle.dw_tree.specs.Lent.{entries_of}
use Rattle.dw_tree.specs.Rising.{entries_rise, rises, one_at}
use Rattle.dw_tree.proofs.laws.offsets_are_distinct.Goals as goal

pub returns-clause-entries : goal.returns-clause-entries
returns-clause-entries c = λ u room e f fits one two same.
    one_at u.start (u.start + length (tree_bytes u.context u.table u.root)) (entries_of u) (entries_rise u.context u.table u.root (tree_codes u.context u.table room u.root fits) u.start 1) e f one two same

pub returns-clause-rise : goal.returns-clause-rise
returns-clause-rise c = λ u room i j d fits lt inside.
    rises u.start (u.start + length (tree_bytes u.context u.table u.root)) (entries_of u) (entries_rise u.context u.table u.root (tree_codes u.context u.table room u.root fits) u.start 1) i j d lt inside

pub returns-clause-paths : goal.returns-clause-paths
returns-clause-paths c = λ k t room x fits. one_path k t x (tree_codes k t room x fits)
