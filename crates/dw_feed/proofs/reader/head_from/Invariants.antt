use Rattle.std.proofs.Common.{◌≡◌, None, List, ℕ, ◌-◌, length}
use Rattle.std.specs.Io.KnownBytes.{Consumes}
use Rattle.dw_leb.specs.Watch.{inner_of, fault_of}
use Rattle.dw_feed.specs.Feed.{behind, StartsWith, InUnit}
use Rattle.dw_feed.specs.HeadFeed.{Reading, taken_of}
use Rattle.dw_feed.proofs.reader.head_from.Given as goal

-- what was taken of the reader is what the feed took
abbrev pub invariant-loop-got : goal.invariant-loop-got
invariant-loop-got g l = record {
  taken : (bytes : List ℕ) × (l.feed.state ≡ Reading bytes) × Consumes (behind (taken_of l.fn.feed.state) (g.R.Read.remaining (inner_of l.fn.reader))) (g.R.Read.remaining (inner_of l.reader)) bytes × InUnit l.fn.feed.order bytes (length bytes) × StartsWith (taken_of l.fn.feed.state) bytes;
  order_is : l.feed.order ≡ l.fn.feed.order;
  versions_is : l.feed.versions ≡ l.fn.feed.versions;
  room : length l.part ≡ 8;
  clear : fault_of l.reader ≡ None;
}

abbrev pub decreases-loop-got : goal.decreases-loop-got
decreases-loop-got g l = 40 - length (taken_of l.feed.state)
