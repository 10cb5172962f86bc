use Rattle.std.proofs.Common.{◌≡◌, ◌++◌, length}
use Rattle.std.specs.List.{AllByRecursion}
use Rattle.dw_section.specs.EntryOffsets.{AreEntryOffsets}
use Rattle.dw_check.specs.Findings.{entries_findings, unit_findings}
use Rattle.dw_check.specs.Repeats.{AreRepeats}
use Rattle.dw_check.specs.Place.{unit_in}
use Rattle.dw_check.proofs.Entries.{IsOf}
use Rattle.dw_check.proofs.section.check_unit.Given as goal

-- the findings of the root and of the entries before these are there
abbrev pub invariant-loop-entry : goal.invariant-loop-entry
invariant-loop-entry l = record {
  so_far : l.fn.found.items ++ unit_findings (unit_in l.fn.place) ≡ l.found.items ++ entries_findings (unit_in l.fn.place) l.entry-iterator;
  repeats : AreRepeats l.fn.place.unit.now.table l.kept.entries;
  begins : AreEntryOffsets l.fn.place.unit.now l.begins;
  left : AllByRecursion (IsOf l.fn.place.unit.now) l.entry-iterator;
}

abbrev pub decreases-loop-entry : goal.decreases-loop-entry
decreases-loop-entry l = length l.entry-iterator
