use Rattle.std.proofs.Common.{◌≡◌, ◌++◌, length}
use Rattle.dw_abbrev.proofs.shared.share_all.Given as goal

-- the runs before these are in the list
abbrev pub invariant-loop-part : goal.invariant-loop-part
invariant-loop-part l = l.list.items ++ l.left ≡ l.fn.list.items ++ l.runs

abbrev pub decreases-loop-part : goal.decreases-loop-part
decreases-loop-part l = length l.left
