use Rattle.std.proofs.Common.{◌≡◌, ◌<◌, ◌+◌, ◌++◌, List, ℕ, None, length}
use Rattle.std.specs.Io.KnownBytes.{Consumes}
use Rattle.dw_leb.specs.Watch.{inner_of, fault_of}
use Rattle.dw_feed.proofs.bytes.read_through.Given as goal

-- what was taken stands behind what was held
abbrev pub invariant-loop-left : goal.invariant-loop-left
invariant-loop-left g l =
    record {
      taken : (got : List ℕ) × (l.bytes.items ≡ l.fn.bytes.items ++ got) × (length got + l.left ≡ l.most) × Consumes (g.R.Read.remaining (inner_of l.fn.reader)) (g.R.Read.remaining (inner_of l.reader)) got;
      chunk : (length l.chunk ≡ length l.fn.chunk) × (0 < length l.fn.chunk);
      clear : fault_of l.reader ≡ None;
    }

abbrev pub decreases-loop-left : goal.decreases-loop-left
decreases-loop-left g l = l.left
