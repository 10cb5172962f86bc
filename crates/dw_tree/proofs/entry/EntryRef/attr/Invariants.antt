use Rattle.std.proofs.Common.{◌≡◌, length}
use Rattle.dw_tree.specs.Lent.{attributes_of, first_named}
use Rattle.dw_tree.proofs.entry.EntryRef.attr.Given as goal

-- the attributes before have other names
abbrev pub invariant-loop-first : goal.invariant-loop-first
invariant-loop-first l = first_named l.name (attributes_of l.self) ≡ first_named l.name l.attrs

abbrev pub decreases-loop-first : goal.decreases-loop-first
decreases-loop-first l = length l.attrs
