use Rattle.std.proofs.Common.{◌≡◌, ◌<◌, ◌≤◌, ◌+◌, ◌++◌, None, List, ℕ, length, take}
use Rattle.std.specs.Io.KnownBytes.{Consumes}
use Rattle.dw_leb.specs.Watch.{inner_of, fault_of}
use Rattle.dw_unit.specs.Unit.{left_behind}
use Rattle.dw_feed.specs.Feed.{behind, StartsWith}
use Rattle.dw_feed.specs.BodyFeed.{PartialUnit, Reading, SameUnit, started, stream}
use Rattle.dw_feed.proofs.reader.body_through.Given as goal

-- what was taken of the reader is what the feed took, and the front of the chunk
abbrev pub invariant-loop-unit : goal.invariant-loop-unit
invariant-loop-unit g l = record {
  at : (now : PartialUnit) × (l.feed ≡ Reading now) × SameUnit (started l.fn.header l.fn.unit_length l.fn.table.value) now;
  taken : (bytes : List ℕ) × Consumes (behind l.fn.first (g.R.Read.remaining (inner_of l.fn.reader))) (g.R.Read.remaining (inner_of l.reader)) bytes × (stream at.0 ++ take l.got l.chunk ≡ stream (started l.fn.header l.fn.unit_length l.fn.table.value) ++ bytes)
      × (length bytes + l.left ≡ left_behind l.fn.header l.fn.unit_length) × StartsWith l.fn.first bytes;
  chunk : (length l.chunk ≡ length l.fn.chunk) × (l.got ≤ length l.fn.chunk) × (0 < length l.fn.chunk);
  clear : fault_of l.reader ≡ None;
}

abbrev pub decreases-loop-unit : goal.decreases-loop-unit
decreases-loop-unit g l = l.left
