-- Unit headers (section 7.5.1; of version 4, section 7.5.1.1 of DWARF 4).
use Rattle.std.specs.Prelude.{◌≤◌, ◌<◌, ◌^◌, ℕ, List, [], ◌∷◌, Option, Some, None, Bool, true, false, nat_lt, ◌==◌, if◌then◌else◌, ◌&&◌}
use Rattle.dw_leb.specs.declared.errors.Reason.{Reason}
use Rattle.dw_leb.specs.declared.errors.Reason.TheVariants.{BadVersion, BadUnitType, BadAddressSize}
use Rattle.dw_leb.specs.Part.{Part, ◌then◌, judged, seen, nothing}
use Rattle.dw_leb.specs.declared.order.Order.{Order}
use Rattle.dw_leb.specs.declared.order.Format.{Format}
use Rattle.dw_leb.specs.Number.{offset_size, fixed}
use Rattle.dw_form.specs.declared.shape.Ctx.{Ctx}
use Rattle.dw_header.specs.declared.kind.Kind.{Kind}
use Rattle.dw_header.specs.declared.kind.Kind.TheVariants.{Compile, Partial, TypeUnit, Skeleton, Four}
use Rattle.dw_header.specs.declared.versions.Versions.{Versions}
use Rattle.dw_header.specs.declared.versions.Versions.TheVariants.{Five, FourAndFive}

pub record Header : Type 0 where
  pub order : Order
  pub format : Format
  pub kind : Kind
  pub address_size : ℕ
  pub abbrev_offset : ℕ

-- the header of these fields
abbrev pub header_of : Order → Format → Kind → ℕ → ℕ → Header
header_of order format kind address_size abbrev_offset =
    record {
      order = order;
      format = format;
      kind = kind;
      address_size = address_size;
      abbrev_offset = abbrev_offset;
    }

-- the version of a unit of this kind
abbrev pub version_of : Kind → ℕ
version_of Compile = 5
version_of (TypeUnit signature offset) = 5
version_of Partial = 5
version_of (Skeleton id) = 5
version_of Four = 4

-- a unit of this kind is of a version that is accepted
abbrev pub Accepts : Versions → Kind → Type 0
Accepts FourAndFive kind = Unit {0}
Accepts Five Compile = Unit {0}
Accepts Five (TypeUnit signature offset) = Unit {0}
Accepts Five Partial = Unit {0}
Accepts Five (Skeleton id) = Unit {0}
Accepts Five Four = ⊥

-- the fewest versions that accept a unit of this kind
abbrev pub versions_for : Kind → Versions
versions_for Compile = Five
versions_for (TypeUnit signature offset) = Five
versions_for Partial = Five
versions_for (Skeleton id) = Five
versions_for Four = FourAndFive

-- the unit type; version 4 has none
abbrev pub kind_number : Kind → ℕ
kind_number Compile = 1
kind_number (TypeUnit signature offset) = 2
kind_number Partial = 3
kind_number (Skeleton id) = 4
kind_number Four = 0

abbrev pub kind_fields : Kind → List ℕ
kind_fields Compile = []
kind_fields (TypeUnit signature offset) = signature ∷ offset ∷ []
kind_fields Partial = []
kind_fields (Skeleton id) = id ∷ []
kind_fields Four = []

-- the sizes of the fields that a unit type adds
abbrev pub added_sizes : Format → ℕ → List ℕ
added_sizes format kind = if kind == 2 then 8 ∷ offset_size format ∷ [] else (if kind == 4 then 8 ∷ [] else [])

abbrev pub first_and_rest : List ℕ → Option (ℕ × List ℕ)
first_and_rest [] = None
first_and_rest (x ∷ xs) = Some (x, xs)

abbrev pub no_more : List ℕ → Option (Unit {0})
no_more [] = Some tt
no_more (x ∷ xs) = None

-- numbers of these sizes, one after the other
abbrev pub numbers : Order → List ℕ → Part (List ℕ)
numbers order [] = seen no_more nothing
numbers order (n ∷ ns) = seen first_and_rest (fixed order n then λ _. numbers order ns)

-- versions that are accepted
abbrev pub bad_version_under : Versions → ℕ → Option Reason
bad_version_under Five x = if x == 5 then None else Some BadVersion
bad_version_under FourAndFive x = if x == 5 then None else (if x == 4 then None else Some BadVersion)

abbrev pub bad_type : ℕ → Option Reason
bad_type x = if nat_lt 0 x && nat_lt x 5 then None else Some BadUnitType

abbrev pub bad_address_size : ℕ → Option Reason
bad_address_size x = if nat_lt 0 x && nat_lt x 9 then None else Some BadAddressSize

-- what the fields of a header say; the kind tells which fields there are
pub record Fields : Type 0 where
  pub kind : Kind
  pub address_size : ℕ
  pub abbrev_offset : ℕ

-- what follows version 5: unit type, address size, abbreviation offset, and what the type adds
abbrev pub FiveFields : Type 0
FiveFields = ℕ × (ℕ × (ℕ × List ℕ))

abbrev pub five_part : Order → Format → Part FiveFields
five_part order format =
    judged (fixed order 1) bad_type
    then λ kind. judged (fixed order 1) bad_address_size
    then λ _. fixed order (offset_size format)
    then λ _. numbers order (added_sizes format kind)

abbrev pub five_values : ℕ → ℕ → ℕ → List ℕ → Option FiveFields
five_values number address_size abbrev_offset added = Some (number, (address_size, (abbrev_offset, added)))

abbrev pub five_view : Kind → ℕ → ℕ → Option FiveFields
five_view Compile a o = five_values 1 a o []
five_view (TypeUnit signature offset) a o = five_values 2 a o (signature ∷ offset ∷ [])
five_view Partial a o = five_values 3 a o []
five_view (Skeleton id) a o = five_values 4 a o (id ∷ [])
five_view Four a o = None

-- what follows version 4: abbreviation offset and address size
abbrev pub FourFields : Type 0
FourFields = ℕ × ℕ

abbrev pub four_part : Order → Format → Part FourFields
four_part order format = fixed order (offset_size format) then λ _. judged (fixed order 1) bad_address_size

abbrev pub four_values : ℕ → ℕ → Option FourFields
four_values abbrev_offset address_size = Some (abbrev_offset, address_size)

abbrev pub four_view : Kind → ℕ → ℕ → Option FourFields
four_view Compile a o = None
four_view (TypeUnit signature offset) a o = None
four_view Partial a o = None
four_view (Skeleton id) a o = None
four_view Four a o = four_values o a

-- what follows a version that is 4, or isn't
abbrev pub fields_behind : Order → Format → Bool → Part Fields
fields_behind order format true = seen (λ f. four_view f.kind f.address_size f.abbrev_offset) (four_part order format)
fields_behind order format false = seen (λ f. five_view f.kind f.address_size f.abbrev_offset) (five_part order format)

abbrev pub with_version : Fields → Option (ℕ × Fields)
with_version f = Some (version_of f.kind, f)

-- The version, and what follows it. What is accepted says nothing of how the fields are spelled.
abbrev pub fields_under : Versions → Order → Format → Part Fields
fields_under versions order format =
    seen with_version
    (judged (fixed order 2) (bad_version_under versions) then λ version. fields_behind order format (version == 4))

-- the same where version 5 alone is accepted
abbrev pub fields : Order → Format → Part Fields
fields = fields_under Five

abbrev pub fields_of : Header → Fields
fields_of h = record { kind = h.kind; address_size = h.address_size; abbrev_offset = h.abbrev_offset }

abbrev pub context_of : Header → Ctx
context_of h = record { order = h.order; format = h.format; address_size = h.address_size }

-- the fields of a kind fit their sizes
abbrev pub KindFits : Format → Kind → Type 0
KindFits format (TypeUnit signature offset) = (signature < 2 ^ 64) × (offset < 256 ^ offset_size format)
KindFits format (Skeleton id) = id < 2 ^ 64
KindFits format _ = Unit {0}

-- what has a spelling: an address has 1 to 8 bytes, and each offset fits the format's size
pub record HeaderFits (h : Header) : Type 0 where
  pub some : 1 ≤ h.address_size
  pub most : h.address_size ≤ 8
  pub offset : h.abbrev_offset < 256 ^ offset_size h.format
  pub kind : KindFits h.format h.kind
