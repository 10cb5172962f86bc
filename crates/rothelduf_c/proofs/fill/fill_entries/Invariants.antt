use Rattle.std.proofs.Common.{◌≡◌, ◌≤◌, ◌++◌, length, take, map}
use Rattle.dw_tree.specs.Lent.{entries_of}
use Rattle.dw_unit.specs.Unit.{tree_of}
use Rattle.rothelduf_c.specs.Seen.{seen_entry}
use Rattle.rothelduf_c.proofs.fill.fill_entries.Given as goal

abbrev pub invariant-loop-entry : goal.invariant-loop-entry
invariant-loop-entry l = (l.n ≤ length l.out) × (length l.out ≡ length l.fn.out) × (l.n ≡ length l.yielded) × (take l.n l.out ≡ map seen_entry l.yielded) × (entries_of (tree_of l.fn.unit) ≡ l.yielded ++ l.entry-iterator)
