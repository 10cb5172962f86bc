-- The laws of the unit's end, and of what a feed holds.
use Rattle.std.specs.Prelude.{◌≡◌, ◌≤◌, ℕ, ◌+◌, ◌<◌, List, ◌++◌, length}
use Rattle.std.specs.List.{AllByRecursion}
use Rattle.dw_leb.specs.declared.errors.Reason.{Reason}
use Rattle.dw_leb.specs.declared.errors.Reason.TheVariants.{Truncated}
use Rattle.dw_leb.specs.declared.errors.SectionId.{SectionId}
use Rattle.dw_leb.specs.declared.errors.SectionId.TheVariants.{Info}
use Rattle.dw_leb.specs.declared.order.Order.{Order}
use Rattle.dw_leb.specs.declared.order.Format.{Format}
use Rattle.dw_leb.specs.Part.{Taken}
use Rattle.dw_leb.specs.Number.{initial_length, length_limit, length_size}
use Rattle.dw_header.specs.declared.versions.Versions.{Versions}
use Rattle.dw_header.specs.declared.versions.Versions.TheVariants.{Five}
use Rattle.dw_unit.specs.Unit.{FailsUnder}
use Rattle.dw_feed.specs.BodyFeed.{PartialUnit, Reading, part, stream, SameUnit}
use Rattle.dw_feed.specs.BodyFeedView.{IsBodyFeed}
use Rattle.dw_feed.specs.HeldCounts.{held_by}

-- the bytes begin with a length field, and hold all that it tells
abbrev pub HoldsUnit : Order → List ℕ → Type 0
HoldsUnit order bytes =
    (x : Format × ℕ) × Taken (initial_length order 0) bytes length_limit x (length_size x.0)
    × (length_size x.0 + x.1 ≤ length bytes)

-- they have no fault of an input that ends too early
abbrev pub NoneIsCutUnder : Versions → Type 0
NoneIsCutUnder versions =
    (order : Order) (abbreviations bytes : List ℕ) (offset : ℕ) → HoldsUnit order bytes
    → FailsUnder versions order abbreviations bytes Info offset Truncated → ⊥

-- their fault is that of the bytes with whatever follows
abbrev pub FaultsStayInsideUnder : Versions → Type 0
FaultsStayInsideUnder versions =
    (order : Order) (abbreviations bytes tail : List ℕ) (s : SectionId) (offset : ℕ) (reason : Reason)
    → HoldsUnit order bytes → FailsUnder versions order abbreviations bytes s offset reason
    → FailsUnder versions order abbreviations (bytes ++ tail) s offset reason

-- and where something follows, the fault is one of the bytes without it
abbrev pub FaultsComeFromInsideUnder : Versions → Type 0
FaultsComeFromInsideUnder versions =
    (order : Order) (abbreviations bytes tail : List ℕ) (s : SectionId) (offset : ℕ) (reason : Reason)
    → AllByRecursion (λ b. b < 256) abbreviations → AllByRecursion (λ b. b < 256) bytes
    → HoldsUnit order bytes → FailsUnder versions order abbreviations (bytes ++ tail) s offset reason
    → FailsUnder versions order abbreviations bytes s offset reason

-- ---- where version 5 alone is accepted

abbrev pub NoneIsCut : Type 0
NoneIsCut = NoneIsCutUnder Five

abbrev pub FaultsStayInside : Type 0
FaultsStayInside = FaultsStayInsideUnder Five

abbrev pub FaultsComeFromInside : Type 0
FaultsComeFromInside = FaultsComeFromInsideUnder Five

-- ---- what a feed holds

-- these hold the same: the same bytes of the field at their place, and by each of the numbers as much
pub record HoldsSame (g h : PartialUnit) : Type 0 where
  pub part : part g ≡ part h
  pub held : held_by g ≡ held_by h

-- feeds of one unit that took the same bytes hold the same, however these were cut into pieces
abbrev pub StreamTellsHeld : Type 0
StreamTellsHeld =
    (g h : PartialUnit) → SameUnit g h → IsBodyFeed (Reading g) → IsBodyFeed (Reading h) → stream g ≡ stream h
    → HoldsSame g h
