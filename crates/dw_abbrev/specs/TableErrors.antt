-- What the reading of a table tells.
use Rattle.std.specs.Prelude.{◌≡◌, ◌<◌, ℕ, false, List, length, drop}
use Rattle.dw_leb.specs.declared.errors.ReadError.{ReadError}
use Rattle.dw_leb.specs.declared.errors.ReadError.TheVariants as reads
use Rattle.dw_leb.specs.declared.errors.SectionId.TheVariants as sections
use Rattle.dw_leb.specs.Part.{Taken}
use Rattle.dw_leb.specs.Number.{Unsigned, uleb}
use Rattle.dw_abbrev.specs.Table.{Table, TableBreaks, is_null, unbounded}
use Rattle.dw_abbrev.specs.ReadTable.{read_table}
use Rattle.dw_abbrev.specs.Place.{Gives}

-- An error of reading the table at an offset: a fault tells where the table breaks, and why. A reading without a reader
-- has no reader's error.
abbrev pub IsTableError : List ℕ → ℕ → ReadError → Type 0
IsTableError abbreviations offset (reads.Fault f) =
    (f.section ≡ sections.Abbrev) × TableBreaks abbreviations offset f.offset f.reason
IsTableError abbreviations offset reads.NoMemory = Unit {0}
IsTableError abbreviations offset (reads.Io kind) = ⊥

-- the plain reader finds the table at the place
abbrev pub IsScan : List ℕ → ℕ → Table → Type 0
IsScan abbreviations at t = (next : ℕ) × Gives read_table abbreviations at t next

abbrev pub refused_memory : ReadError
refused_memory = reads.NoMemory

-- a declaration begins at the offset: there stands a code other than 0
pub record Declares (abbreviations : List ℕ) (offset : ℕ) : Type 0 where
  pub inside : offset < length abbreviations
  pub code : Unsigned
  pub some : is_null code ≡ false
  pub size : ℕ
  pub taken : Taken uleb (drop offset abbreviations) (unbounded abbreviations) code size

abbrev pub IsFault : ReadError → Type 0
IsFault (reads.Fault f) = Unit {0}
IsFault reads.NoMemory = ⊥
IsFault (reads.Io kind) = ⊥
