-- What is taken of a reader for a header, and for the bytes behind it, each pushed into its feed.
use Rattle.std.specs.Prelude.{◌≡◌, ◌≢◌, ◌≤◌, ◌+◌, ℕ, List, ◌++◌, length, Option, ◌⊎◌}
use Rattle.std.specs.Io.KnownBytes.{Consumes, IsAtEnd}
use Rattle.dw_leb.specs.declared.errors.Reason.TheVariants.{Truncated}
use Rattle.dw_leb.specs.declared.errors.ReadError.{ReadError}
use Rattle.dw_leb.specs.declared.errors.ReadError.TheVariants as reads
use Rattle.dw_leb.specs.declared.order.Order.{Order}
use Rattle.dw_leb.specs.Number.{length_size}
use Rattle.dw_header.specs.declared.versions.Versions.{Versions}
use Rattle.dw_header.specs.Header.{Header}
use Rattle.dw_header.specs.HeaderPlace.{HeaderFaultUnder}
use Rattle.dw_unit.specs.Unit.{WholeUnit, bytes_of, UnitFits, left_behind}
use Rattle.dw_feed.specs.Feed.{behind, StartsWith, InUnit, Takes}
use Rattle.dw_feed.specs.HeadFeed.{IsHeader}
use Rattle.dw_feed.specs.BodyFeed.{PartialUnit, BreaksAt, stream}

-- ---- the header

-- exactly the bytes of a header were taken, of which these were taken before
abbrev pub TakesHeader : Versions → Order → List ℕ → Option (List ℕ) → Option (List ℕ) → Header × ℕ → Type 0
TakesHeader versions order taken old new x =
    (bytes : List ℕ) × IsHeader versions order bytes x.0 x.1 × Consumes (behind taken old) new bytes
    × StartsWith taken bytes

-- the same, where these bytes of what follows it were taken too
abbrev pub TakesHeaderWith : Versions → Order → List ℕ → List ℕ → Option (List ℕ) → Option (List ℕ) → Header × ℕ
    → Type 0
TakesHeaderWith versions order taken first old new x =
    (bytes : List ℕ) × IsHeader versions order bytes x.0 x.1 × Consumes (behind taken old) (behind first new) bytes
    × StartsWith taken (bytes ++ first) × (length bytes + length first ≤ length_size x.0.format + x.1)

-- no header is read: a fault is that of all that the reader had left
abbrev pub IsHeaderError : Versions → Order → List ℕ → ReadError → Type 0
IsHeaderError versions order all (reads.Fault f) = HeaderFaultUnder versions order all f
IsHeaderError versions order all reads.NoMemory = ⊥
IsHeaderError versions order all (reads.Io kind) = Unit {0}

-- and no byte was taken past the unit's end
abbrev pub TakesNoHeader : Versions → Order → List ℕ → Option (List ℕ) → Option (List ℕ) → ReadError → Type 0
TakesNoHeader versions order taken old new e =
    (all : List ℕ) × (h : Takes (behind taken old) new all) × IsHeaderError versions order all e
    × InUnit order all (length h.taken) × StartsWith taken all

-- ---- what follows it

-- exactly the bytes of the unit behind what was taken of it, the first of which were taken before
pub record TakesBody (g : PartialUnit) (first : List ℕ) (old new : Option (List ℕ)) (u : WholeUnit) : Type 0 where
  pub taken : List ℕ
  pub consumed : Consumes (behind first old) new taken
  pub front : StartsWith first taken
  pub header_is : u.header ≡ g.header
  pub table_is : u.table ≡ g.table
  pub fits : UnitFits u
  pub whole : stream g ++ taken ≡ bytes_of u

-- no unit is read: a fault is that of what was taken, and no more bytes would mend it, or there are no more
abbrev pub IsBodyError : PartialUnit → List ℕ → Option (List ℕ) → ReadError → Type 0
IsBodyError g taken new (reads.Fault f) = BreaksAt g (stream g ++ taken) f × ((f.reason ≢ Truncated) ⊎ IsAtEnd new)
IsBodyError g taken new reads.NoMemory = Unit {0}
IsBodyError g taken new (reads.Io kind) = Unit {0}

-- and no byte was taken past the unit's end
abbrev pub TakesNoBody : PartialUnit → List ℕ → Option (List ℕ) → Option (List ℕ) → ReadError → Type 0
TakesNoBody g first old new e =
    (taken : List ℕ) × Consumes (behind first old) new taken × (length taken ≤ left_behind g.header g.unit_length)
    × IsBodyError g taken new e × StartsWith first taken
