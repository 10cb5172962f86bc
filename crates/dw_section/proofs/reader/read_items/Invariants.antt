use Rattle.std.proofs.Common.{◌≡◌, ◌^◌, ◌-◌, None, length}
use Rattle.dw_leb.specs.Watch.{inner_of, fault_of}
use Rattle.dw_section.specs.Section.{section_bytes}
use Rattle.dw_section.proofs.SectionReads.{TakenSoFar}
use Rattle.dw_section.proofs.reader.read_items.Given as goal

-- exactly the bytes of the items so far were taken of the reader
abbrev pub invariant-loop-taken : goal.invariant-loop-taken
invariant-loop-taken g l = record {
  taken : TakenSoFar l.fn.versions l.fn.order l.fn.tables (g.R.Read.remaining (inner_of l.fn.reader)) (g.R.Read.remaining (inner_of l.reader)) l.section;
  tables : l.tables ≡ l.fn.tables;
  clear : fault_of l.reader ≡ None;
}

-- a section stays below 2 ^ 63 bytes
abbrev pub decreases-loop-taken : goal.decreases-loop-taken
decreases-loop-taken g l = 2 ^ 63 - length (section_bytes l.section)
