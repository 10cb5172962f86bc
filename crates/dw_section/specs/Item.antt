-- Items of a section: how one is spelled, of which kind it is, where it breaks (sections 7.5 and 7.5.1; of version 4,
-- section 7.5.1.1 of DWARF 4).
use Rattle.std.specs.Prelude.{◌≡◌, ℕ, ◌+◌, ◌<◌, Bool, true, false, List, ◌++◌, length, Option, Some, None, nat_lt, nat_le, ◌==◌, ◌&&◌, ◌⊎◌, if◌then◌else◌}
use Rattle.dw_leb.specs.declared.errors.Reason.{Reason}
use Rattle.dw_leb.specs.declared.errors.Reason.TheVariants.{Truncated}
use Rattle.dw_leb.specs.declared.errors.SectionId.{SectionId}
use Rattle.dw_leb.specs.declared.errors.SectionId.TheVariants.{Info, Abbrev}
use Rattle.dw_leb.specs.declared.order.Order.{Order}
use Rattle.dw_leb.specs.declared.order.Format.{Format}
use Rattle.dw_leb.specs.Part.{Part, Taken, ◌then◌, optional}
use Rattle.dw_leb.specs.Number.{fixed, length_field, initial_length, length_limit, length_size}
use Rattle.dw_abbrev.specs.Table.{TableAt}
use Rattle.dw_header.specs.declared.versions.Versions.{Versions}
use Rattle.dw_header.specs.declared.versions.Versions.TheVariants.{Five, FourAndFive}
use Rattle.dw_header.specs.Header.{Accepts}
use Rattle.dw_unit.specs.Unit.{WholeUnit, UnitFits, FailsUnder, body_bytes, bytes_of}

-- a unit with its table, or bytes that are kept as they are, the length field included
pub data Item : Type 0 where
  Known : WholeUnit → Item
  Other : List ℕ → Item

-- the one spelling of an item
abbrev pub item_bytes : Item → List ℕ
item_bytes (Known u) = bytes_of u
item_bytes (Other bytes) = bytes

-- ---- of which kind an item is

-- a version, and a unit type where the version is 5
abbrev pub VersionAndType : Type 0
VersionAndType = ℕ × Option ℕ

-- the least unit_length that an item of a known kind may have
abbrev pub least_length : Versions → ℕ
least_length Five = 3
least_length FourAndFive = 2

-- a version, and a unit type where the version is 5 and there is room for one; nothing where there is none for a
-- version
abbrev pub version_and_type_if : Order → Bool → Bool → Part (Option VersionAndType)
version_and_type_if order room room_for_type =
    optional room (fixed order 2 then λ version. optional (version == 5 && room_for_type) (fixed order 1))

-- what shows the kind of an item with n bytes behind its length field
abbrev pub version_and_type : Versions → Order → ℕ → Part (Option VersionAndType)
version_and_type versions order n = version_and_type_if order (nat_le (least_length versions) n) (nat_le 3 n)

-- the unit types of the standard that are no split units'
abbrev pub is_type : Option ℕ → Bool
is_type None = false
is_type (Some x) = nat_lt 0 x && nat_lt x 5

abbrev pub is_four : Versions → ℕ → Bool
is_four Five version = false
is_four FourAndFive version = version == 4

abbrev pub is_known : Versions → Option VersionAndType → Bool
is_known versions None = false
is_known versions (Some m) = if is_four versions m.0 then true else is_type m.1

-- behind a length n the bytes show whether the item is of a known kind
pub record ShowsKind (versions : Versions) (order : Order) (n : ℕ) (bytes : List ℕ) (known : Bool) : Type 0 where
  pub seen : Option VersionAndType
  pub size : ℕ
  pub taken : Taken (version_and_type versions order n) bytes n seen size
  pub is : is_known versions seen ≡ known

-- ---- which items fit at a start

-- An initial length n at a start is spelled at the front: so the item's end is judged from the section's first byte.
pub record HasInitialLength (order : Order) (start : ℕ) (bytes : List ℕ) (format : Format) (n : ℕ) (rest : List ℕ)
    : Type 0 where
  pub fits : (initial_length order start).Fits (format, n)
  pub split : bytes ≡ (length_field order).spell (format, n) ++ rest

-- a length at the start, and as many bytes, which show no known kind
pub record OtherFits (versions : Versions) (order : Order) (start : ℕ) (bytes : List ℕ) : Type 0 where
  pub format : Format
  pub content : List ℕ
  pub begins : HasInitialLength order start bytes format (length content) content
  pub kind : ShowsKind versions order (length content) content false

-- a unit of a version that is accepted, whose length is one at the start
pub record KnownFits (versions : Versions) (order : Order) (start : ℕ) (u : WholeUnit) : Type 0 where
  pub order_is : u.header.order ≡ order
  pub accepted : Accepts versions u.header.kind
  pub fits : UnitFits u
  pub length_fits : (initial_length order start).Fits (u.header.format, length (body_bytes u))

-- an item that begins there, whatever abbreviation section there is
abbrev pub ItemFits : Versions → Order → ℕ → Item → Type 0
ItemFits versions order start (Known u) = KnownFits versions order start u
ItemFits versions order start (Other bytes) = OtherFits versions order start bytes

-- the abbreviation section holds the table of a unit at its header's offset
abbrev pub HoldsTable : List ℕ → Item → Type 0
HoldsTable abbreviations (Known u) = TableAt abbreviations u.header.abbrev_offset u.table
HoldsTable abbreviations (Other bytes) = Unit {0}

-- ---- where an item breaks; the offset counts from the section's first byte

-- the length
abbrev pub LengthBreaks : Order → ℕ → List ℕ → ℕ → Reason → Type 0
LengthBreaks order start bytes offset reason =
    (own : ℕ) × (offset ≡ start + own) × (initial_length order start).Break bytes length_limit own reason

-- behind it, what shows the kind
abbrev pub KindBreaks : Versions → Order → ℕ → List ℕ → ℕ → Reason → Type 0
KindBreaks versions order start bytes offset reason =
    (format : Format) × (n : ℕ) × (rest : List ℕ) × (own : ℕ) × HasInitialLength order start bytes format n rest
    × (offset ≡ start + length_size format + own) × (version_and_type versions order n).Break rest n own reason

-- the bytes of an item of no known kind are cut: one field, at its first byte
abbrev pub OtherCut : Versions → Order → ℕ → List ℕ → ℕ → Reason → Type 0
OtherCut versions order start bytes offset reason =
    (format : Format) × (n : ℕ) × (rest : List ℕ) × HasInitialLength order start bytes format n rest
    × ShowsKind versions order n rest false
    × (length rest < n) × (offset ≡ start + length_size format) × (reason ≡ Truncated)

-- the item is of a known kind
abbrev pub IsKnown : Versions → Order → ℕ → List ℕ → Type 0
IsKnown versions order start bytes =
    (format : Format) × (n : ℕ) × (rest : List ℕ) × HasInitialLength order start bytes format n rest
    × ShowsKind versions order n rest true

-- an item of a known kind has the first fault of a unit that stands alone, moved by the start
abbrev pub UnitFails : Versions → Order → List ℕ → ℕ → List ℕ → ℕ → Reason → Type 0
UnitFails versions order abbreviations start bytes offset reason =
    IsKnown versions order start bytes
    × ((own : ℕ) × (offset ≡ start + own) × FailsUnder versions order abbreviations bytes Info own reason)

-- the one fault of an item that can't be read; a table's is not moved
abbrev pub ItemFails : Versions → Order → List ℕ → ℕ → List ℕ → SectionId → ℕ → Reason → Type 0
ItemFails versions order abbreviations start bytes Info offset reason =
    LengthBreaks order start bytes offset reason
    ⊎ (KindBreaks versions order start bytes offset reason
    ⊎ (OtherCut versions order start bytes offset reason
    ⊎ UnitFails versions order abbreviations start bytes offset reason))
ItemFails versions order abbreviations start bytes Abbrev offset reason =
    IsKnown versions order start bytes × FailsUnder versions order abbreviations bytes Abbrev offset reason
