-- What a feed says that it holds, as the counts of the definitions, and their bounds.
use Rattle.std.specs.Prelude.{ℕ, ◌*◌, ◌≤◌, List, [], ◌++◌, length}
use Rattle.dw_tree.specs.Tree.{nesting}
use Rattle.dw_feed.specs.declared.held.Held.{Held}
use Rattle.dw_feed.specs.BodyFeed.{BodyFeed, Reading, Refused, Finished, part}
use Rattle.dw_feed.specs.FeedInvariant.{body_so_far}
use Rattle.dw_feed.specs.HeldCounts.{HeldCounts}

abbrev pub held_of : Held → HeldCounts
held_of h = record { pending = h.pending; nested = h.nested; entries = h.entries; values = h.values; pool = h.pool }

-- of a unit of which so many bytes were taken behind its header
pub record HeldWithin (taken : ℕ) (h : HeldCounts) : Type 0 where
  pub pending : h.pending ≤ 16
  pub nested : h.nested ≤ nesting
  pub entries : h.entries ≤ taken
  pub values : h.values ≤ 1024 * h.entries
  pub pool : h.pool ≤ taken

-- the widths of the padding's nulls that a feed took; none once an answer was not More
abbrev pub padding_of : BodyFeed → List ℕ
padding_of (Reading g) = g.padding
padding_of (Refused f) = []
padding_of Finished = []

-- the bytes that a feed took of its pieces: those before its place and those of the field there, and none of the
-- header; none once an answer was not More
abbrev pub taken_by : BodyFeed → ℕ
taken_by (Reading g) = length (body_so_far g ++ part g)
taken_by (Refused f) = 0
taken_by Finished = 0
