use Rattle.std.proofs.Common.{◌≡◌, ◌++◌}
use Rattle.dw_tree.specs.Lent.{children_of}
use Rattle.dw_ctype.specs.Parts.{parameter_types}
use Rattle.dw_ctype.proofs.parts.push_parameter_types.Given as goal

-- the types of the parameters so far stand before those of the children that are left
abbrev pub invariant-loop-child : goal.invariant-loop-child
invariant-loop-child l = l.types.items ++ parameter_types l.fn.section.items l.fn.item l.child-iterator ≡ l.fn.types.items ++ parameter_types l.fn.section.items l.fn.item (children_of l.fn.function)
