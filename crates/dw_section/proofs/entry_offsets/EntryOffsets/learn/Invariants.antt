use Rattle.std.proofs.Common.{ℕ}
use Rattle.dw_tree.specs.Lent.{entries_of}
use Rattle.dw_unit.specs.Unit.{tree_of}
use Rattle.dw_section.specs.EntryOffsets.{AreEntryOffsets}
use Rattle.dw_section.proofs.Marked.{IsFound}
use Rattle.dw_section.proofs.entry_offsets.EntryOffsets.learn.Given as goal

-- what is known begins in the unit, and so does what is left
abbrev pub invariant-loop-entry : goal.invariant-loop-entry
invariant-loop-entry l = record {
  known : AreEntryOffsets l.fn.unit l.self;
  left : (offset : ℕ) → IsFound offset l.entry-iterator → IsFound offset (entries_of (tree_of l.fn.unit));
}
