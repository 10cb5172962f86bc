use Rattle.std.proofs.Common.{◌≡◌, ◌+◌, length}
use Rattle.dw_tree.specs.Lent.{children_of}
use Rattle.dw_ctype.proofs.parts.has_many.Given as goal

-- as many children were looked at as were taken of 32
abbrev pub invariant-loop-child : goal.invariant-loop-child
invariant-loop-child l = length (children_of l.fn.entry) + l.left ≡ length l._child-iterator + 32
