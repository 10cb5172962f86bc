use Rattle.std.proofs.Common.{◌≡◌, ◌++◌}
use Rattle.dw_tree.specs.Lent.{children_of}
use Rattle.dw_ctype.specs.Parts.{shown_among}
use Rattle.dw_ctype.specs.Types.{kind_of}
use Rattle.dw_ctype.proofs.parts.shown_of.Given as goal

-- those that are shown stand before those of the children that are left
abbrev pub invariant-loop-child : goal.invariant-loop-child
invariant-loop-child l = l.shown.items ++ shown_among (kind_of l.fn.entry) l.child-iterator ≡ shown_among (kind_of l.fn.entry) (children_of l.fn.entry)
