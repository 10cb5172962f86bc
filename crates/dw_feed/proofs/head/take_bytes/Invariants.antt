use Rattle.std.proofs.Common.{◌≡◌, ◌++◌, ℕ, List, length}
use Rattle.dw_feed.specs.HeaderCut.{IsCut}
use Rattle.dw_feed.proofs.head.take_bytes.Given as goal

-- these bytes of the piece were taken, and the others are left
abbrev pub invariant-loop-byte : goal.invariant-loop-byte
invariant-loop-byte l = record {
  so_far : (done : List ℕ) × (l.fn.piece ≡ done ++ l.left) × (l.taken.items ≡ l.fn.taken.items ++ done);
  cut : IsCut l.fn.versions l.fn.order l.taken.items;
}

abbrev pub decreases-loop-byte : goal.decreases-loop-byte
decreases-loop-byte l = length l.left
