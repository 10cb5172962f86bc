use Rattle.dw_tree.specs.Lent.{children_of}
use Rattle.dw_ctype.specs.Types.{dimensions_of}
use Rattle.dw_ctype.proofs.Appending.{Reaches}
use Rattle.dw_ctype.proofs.dimension.push_dimensions_among.Given as goal

-- the dimensions of the children that are left are still to come
abbrev pub invariant-loop-child : goal.invariant-loop-child
invariant-loop-child l = Reaches l.fn.out l.out (dimensions_of l.child-iterator) (dimensions_of (children_of l.fn.array))
