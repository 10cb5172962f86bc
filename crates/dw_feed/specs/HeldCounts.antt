-- What a feed holds, counted.
use Rattle.std.specs.Prelude.{ℕ, ◌+◌, List, length}
use Rattle.dw_tree.specs.Place.{Place}
use Rattle.dw_tree.specs.Counts.{unfinished_entries, entries_counted, values_counted}
use Rattle.dw_tree.specs.PoolBytes.{held_in}
use Rattle.dw_feed.specs.BodyFeed.{PartialUnit, BodyFeed, Reading, Refused, Finished}

-- the bytes that are kept of a number or length field; the entries whose subtree hasn't ended; the entries; their
-- values, but for a partial one; the bytes of texts and blocks
pub record HeldCounts : Type 0 where
  pub pending : ℕ
  pub nested : ℕ
  pub entries : ℕ
  pub values : ℕ
  pub pool : ℕ

-- at a place, with these bytes
abbrev pub held_at : Place → List ℕ → HeldCounts
held_at p bytes = record {
  pending = length bytes;
  nested = length p.spot.above + unfinished_entries p.unfinished;
  entries = entries_counted p;
  values = values_counted p;
  pool = length (held_in p);
}

abbrev pub held_by : PartialUnit → HeldCounts
held_by g = held_at g.place g.pending

abbrev pub nothing_held : HeldCounts
nothing_held = record { pending = 0; nested = 0; entries = 0; values = 0; pool = 0 }

-- nothing once an answer was not More
abbrev pub held : BodyFeed → HeldCounts
held (Reading g) = held_by g
held (Refused f) = nothing_held
held Finished = nothing_held
