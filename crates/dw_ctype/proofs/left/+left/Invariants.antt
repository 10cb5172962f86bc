use Rattle.std.proofs.Common.{◌+◌, ◌*◌}
use Rattle.dw_ctype.proofs.left.+left.Given as goal

abbrev pub decreases-left : goal.decreases-left
decreases-left l = 4 * l.depth

abbrev pub decreases-left_of_entry : goal.decreases-left_of_entry
decreases-left_of_entry l = 4 * l.depth + 3

abbrev pub decreases-left_of_inner : goal.decreases-left_of_inner
decreases-left_of_inner l = 4 * l.depth + 1

abbrev pub decreases-left_of_marked : goal.decreases-left_of_marked
decreases-left_of_marked l = 4 * l.depth + 1

abbrev pub decreases-left_of_qualified : goal.decreases-left_of_qualified
decreases-left_of_qualified l = 4 * l.depth + 2

abbrev pub decreases-left_and_word : goal.decreases-left_and_word
decreases-left_and_word l = 4 * l.depth + 1

abbrev pub decreases-word_and_left : goal.decreases-word_and_left
decreases-word_and_left l = 4 * l.depth + 1
