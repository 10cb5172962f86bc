-- The fields that stand whole in a piece, below an open entry: each one is a step of the feed.
use Rattle.std.specs.Prelude.{◌≡◌, ℕ, ◌<◌, ◌≤◌, List, [], ◌++◌, length, drop, Option, Some, None}
use Rattle.dw_form.specs.Form.{Attribute}
use Rattle.dw_leb.specs.Reader.{Found}
use Rattle.dw_tree.specs.Steps.{partial_in}
use Rattle.dw_unit.specs.Draft.{given}
use Rattle.dw_feed.specs.BodyFeed.{PartialUnit, part}
use Rattle.dw_feed.specs.BodyView.{drafted}
use Rattle.dw_feed.specs.FeedInvariant.{left, moved_to}
use Rattle.dw_feed.specs.FeedSteps.{At}
use Rattle.dw_feed.specs.FieldSteps.{HasPart}
use Rattle.dw_feed.specs.FieldTurns.{turns}
use Rattle.dw_feed.specs.PlainFeed.{field_at}
use Rattle.dw_feed.specs.ValueSteps.{behind_value}

-- nothing is there of the field at the place, a partial value aside
pub record NoneKept (g : PartialUnit) : Type 0 where
  pub unnamed : g.named ≡ None
  pub none_to_come : g.to_come ≡ 0
  pub none_pending : g.pending ≡ []

-- The value at the front of these bytes is the field at the place, and the draft has it; or nothing was changed.
abbrev pub NextSays : PartialUnit → List ℕ → Option ℕ → PartialUnit → Type 0
NextSays g bytes (Some size) new =
    (v : Attribute) × (field_at g bytes (left g) ≡ Found (behind_value g v) size) × (size ≤ length bytes)
    × (new ≡ moved_to (given v (drafted g)).place g.padding g)
NextSays g bytes None new = new ≡ g

-- Fields were taken, one behind the other, each whole: wherever the feed was in a piece, it is now in the same piece,
-- with these bytes left of those; and no more fields may still come.
pub record TakesOn (g : PartialUnit) (b : List ℕ) (new : PartialUnit) (rest : List ℕ) : Type 0 where
  pub at : (g0 : PartialUnit) (piece : List ℕ) → At g0 piece g (part g ++ b) → At g0 piece new (part new ++ rest)
  pub has : HasPart new
  pub none_there : part new ≡ []
  pub same_table : new.table ≡ g.table
  pub within : length rest ≤ length b
  pub fewer : turns new (length rest) ≤ turns g (length b)

-- The null at the front of these bytes, or the code there and the first values of the entry that it begins, are the
-- next fields: so many bytes, and the draft has them. Or nothing was changed.
abbrev pub EntrySays : PartialUnit → List ℕ → Option ℕ → PartialUnit → Type 0
EntrySays g b (Some size) new =
    (0 < size) × (size ≤ length b) × TakesOn g b new (drop size b) × NoneKept new
    × (partial_in new.place.unfinished ≡ None)
EntrySays g b None new = new ≡ g
