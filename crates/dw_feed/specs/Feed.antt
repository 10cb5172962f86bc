-- What a read of a unit answers and takes.
use Rattle.std.specs.Prelude.{◌≡◌, ◌≢◌, ℕ, ◌+◌, ◌≤◌, ◌<◌, List, [], ◌∷◌, ◌++◌, length, take, Option, Some, None, Bool, true, false, Result, Ok, Err, ◌⊎◌}
use Rattle.std.specs.Io.KnownBytes.{Consumes, IsAtEnd}
use Rattle.dw_leb.specs.declared.errors.ReadError.{ReadError}
use Rattle.dw_leb.specs.declared.errors.ReadError.TheVariants as reads
use Rattle.dw_leb.specs.declared.order.Order.{Order}
use Rattle.dw_leb.specs.declared.order.Format.{Format}
use Rattle.dw_leb.specs.Part.{Taken}
use Rattle.dw_leb.specs.Number.{initial_length, length_limit, length_size}
use Rattle.dw_leb.specs.Watch.{ConsumesUpTo}
use Rattle.dw_header.specs.declared.versions.Versions.{Versions}
use Rattle.dw_header.specs.declared.versions.Versions.TheVariants.{Five}
use Rattle.dw_unit.specs.Unit.{WholeUnit, bytes_of, UnitAtUnder, FailsUnder}

-- All that a reader had left. A reader that doesn't tell its bytes had some.
abbrev pub Had : Option (List ℕ) → List ℕ → Type 0
Had None all = Unit {0}
Had (Some bytes) all = bytes ≡ all

-- what a reader had left, behind bytes that were taken of it before
abbrev pub behind : List ℕ → Option (List ℕ) → Option (List ℕ)
behind taken None = None
behind taken (Some bytes) = Some (taken ++ bytes)

-- they begin with these bytes
abbrev pub StartsWith : List ℕ → List ℕ → Type 0
StartsWith front all = (more : List ℕ) × (all ≡ front ++ more)

-- the four bytes that begin a length of the 64-bit format
abbrev pub escape : List ℕ
escape = 255 ∷ 255 ∷ 255 ∷ 255 ∷ []

-- so many bytes are at most the length field: four bytes, and eight more where those are ff ff ff ff
abbrev pub InField : List ℕ → ℕ → Type 0
InField all n = (n ≤ 4) ⊎ ((n ≤ 12) × (take 4 all ≡ escape))

-- so many bytes are at most the length field, or at most the unit whose length it tells
abbrev pub InUnit : Order → List ℕ → ℕ → Type 0
InUnit order all n =
    InField all n
    ⊎ ((x : Format × ℕ) × Taken (initial_length order 0) all length_limit x (length_size x.0)
    × (n ≤ length_size x.0 + x.1))

-- they begin with a length field, and are no more than the unit whose length it tells
abbrev pub BeginsUnit : Order → List ℕ → Type 0
BeginsUnit order bytes =
    (x : Format × ℕ) × Taken (initial_length order 0) bytes length_limit x (length_size x.0)
    × (length bytes ≤ length_size x.0 + x.1)

-- of all that a reader had left some bytes were taken
pub record Takes (old new : Option (List ℕ)) (all : List ℕ) : Type 0 where
  pub taken : List ℕ
  pub rest : List ℕ
  pub had : Had old all
  pub split : all ≡ taken ++ rest
  pub consumed : Consumes old new taken

-- the unit stands at the front of all that the reader had left, and exactly its bytes were taken
abbrev pub TakesUnitUnder : Versions → List ℕ → Order → Option (List ℕ) → Option (List ℕ) → WholeUnit → Type 0
TakesUnitUnder versions abbreviations order old new u =
    (all : List ℕ) × Had old all × UnitAtUnder versions abbreviations order all u (length (bytes_of u))
    × Consumes old new (bytes_of u)

-- a fault is the first one of all that the reader had left
abbrev pub IsFeedErrorUnder : Versions → List ℕ → Order → List ℕ → ReadError → Type 0
IsFeedErrorUnder versions abbreviations order all (reads.Fault f) =
    FailsUnder versions order abbreviations all f.section f.offset f.reason
IsFeedErrorUnder versions abbreviations order all reads.NoMemory = Unit {0}
IsFeedErrorUnder versions abbreviations order all (reads.Io kind) = Unit {0}

-- no unit is read: what the error tells, and that no byte was taken past the unit's end
abbrev pub TakesNoUnitUnder : Versions → List ℕ → Order → Option (List ℕ) → Option (List ℕ) → ReadError → Type 0
TakesNoUnitUnder versions abbreviations order old new e =
    (all : List ℕ) × (h : Takes old new all) × IsFeedErrorUnder versions abbreviations order all e
    × InUnit order all (length h.taken)

-- the same, where bytes were taken before
abbrev pub TakesNoUnitBehind : Versions → List ℕ → Order → List ℕ → Option (List ℕ) → Option (List ℕ) → ReadError
    → Type 0
TakesNoUnitBehind versions abbreviations order taken old new e =
    (all : List ℕ) × (h : Takes (behind taken old) new all) × IsFeedErrorUnder versions abbreviations order all e
    × InUnit order all (length h.taken) × StartsWith taken all

-- ---- where version 5 alone is accepted

abbrev pub TakesUnit : List ℕ → Order → Option (List ℕ) → Option (List ℕ) → WholeUnit → Type 0
TakesUnit = TakesUnitUnder Five

abbrev pub IsFeedError : List ℕ → Order → List ℕ → ReadError → Type 0
IsFeedError = IsFeedErrorUnder Five

abbrev pub TakesNoUnit : List ℕ → Order → Option (List ℕ) → Option (List ℕ) → ReadError → Type 0
TakesNoUnit = TakesNoUnitUnder Five

-- ---- how it is read

-- a read of up to so many bytes fails: at most those were taken
abbrev pub FailsUpTo : Option (List ℕ) → Option (List ℕ) → ℕ → ReadError → Type 0
FailsUpTo old new most (reads.Fault f) = ⊥
FailsUpTo old new most reads.NoMemory = ConsumesUpTo old new most
FailsUpTo old new most (reads.Io kind) = ConsumesUpTo old new most

-- what a read of up to so many bytes puts behind those that are held: all of them, or all that the reader had left
abbrev pub ReadsUpTo : {X : Type 0} → List ℕ → List ℕ → Option (List ℕ) → Option (List ℕ) → ℕ → Result X ReadError
    → Type 0
ReadsUpTo held now old new most (Ok x) =
    (got : List ℕ) × (now ≡ held ++ got) × (length got ≤ most) × Consumes old new got
    × ((length got ≡ most) ⊎ IsAtEnd new)
ReadsUpTo held now old new most (Err e) = FailsUpTo old new most e

-- what one read of up to so many bytes puts behind those that are held: some of them, or none where the reader had no
-- more
abbrev pub ReadsSome : {X : Type 0} → List ℕ → List ℕ → Option (List ℕ) → Option (List ℕ) → ℕ → Result X ReadError
    → Type 0
ReadsSome held now old new most (Ok x) =
    (got : List ℕ) × (now ≡ held ++ got) × (length got ≤ most) × Consumes old new got
    × (0 < most → length got ≡ 0 → IsAtEnd new)
ReadsSome held now old new most (Err e) = FailsUpTo old new most e

-- what is held after such a read failed: what was held, and behind it what was taken. Where a growth was refused, the
-- bytes are lost for which it was wanted.
abbrev pub HoldsTaken : List ℕ → List ℕ → Option (List ℕ) → Option (List ℕ) → ReadError → Type 0
HoldsTaken held now old new (reads.Fault f) = ⊥
HoldsTaken held now old new reads.NoMemory = (got lost : List ℕ) × (now ≡ held ++ got) × Consumes old new (got ++ lost)
HoldsTaken held now old new (reads.Io kind) = (got : List ℕ) × (now ≡ held ++ got) × Consumes old new got

-- the whole of a length field: twelve bytes, or four that are not ff ff ff ff
abbrev pub IsField : List ℕ → Type 0
IsField bytes = ((length bytes ≡ 4) × (bytes ≢ escape)) ⊎ (length bytes ≡ 12)

-- a read of a length field fails: at most the field was taken
abbrev pub FailsInField : Option (List ℕ) → Option (List ℕ) → ReadError → Type 0
FailsInField old new (reads.Fault f) = ⊥
FailsInField old new reads.NoMemory = (all : List ℕ) × (h : Takes old new all) × InField all (length h.taken)
FailsInField old new (reads.Io kind) = (all : List ℕ) × (h : Takes old new all) × InField all (length h.taken)

-- what a read of a length field gives: the whole field, or all that the reader had left
abbrev pub ReadsField : {X : Type 0} → (X → List ℕ) → Option (List ℕ) → Option (List ℕ) → Result X ReadError → Type 0
ReadsField view old new (Ok x) =
    Consumes old new (view x) × InField (view x) (length (view x)) × (IsField (view x) ⊎ IsAtEnd new)
ReadsField view old new (Err e) = FailsInField old new e

-- whether these are the bytes that begin a length of the 64-bit format
abbrev pub IsEscape : List ℕ → Bool → Type 0
IsEscape bytes true = bytes ≡ escape
IsEscape bytes false = bytes ≢ escape
