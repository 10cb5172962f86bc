-- Abbreviation tables (section 7.5.3).
use Rattle.std.specs.Prelude.{◌≡◌, ℕ, suc, ◌+◌, ◌<◌, Bool, false, List, [], ◌∷◌, ◌++◌, length, drop, Option, Some, None, nat_lt, ◌==◌, if◌then◌else◌, ◌||◌, ◌&&◌, ◌⊎◌, map}
use Rattle.dw_leb.specs.Constants.{DW_FORM_implicit_const}
use Rattle.dw_leb.specs.declared.errors.Reason.{Reason}
use Rattle.dw_leb.specs.declared.errors.Reason.TheVariants.{BadChildren, HalfPair, DuplicateCode, TooManyPairs, AbbrevOffset}
use Rattle.dw_leb.specs.Part.{Part, ◌then◌, judged, seen, optional}
use Rattle.dw_leb.specs.declared.order.Order.TheVariants.{Little}
use Rattle.dw_leb.specs.Number.{Unsigned, Signed, fixed, uleb, sleb}
use Rattle.dw_leb.specs.Repeat.{repeated}

-- an attribute specification; a constant stands with the form implicit_const
pub record Pair : Type 0 where
  pub name : Unsigned
  pub form : Unsigned
  pub constant : Option Signed

-- zeros: the widths of the ending pair
pub record Declaration : Type 0 where
  pub code : Unsigned
  pub tag : Unsigned
  pub children : Bool
  pub pairs : List Pair
  pub name_zero : ℕ
  pub form_zero : ℕ

pub record Table : Type 0 where
  pub declarations : List Declaration
  pub last_zero : ℕ

abbrev pub is_null : Unsigned → Bool
is_null u = u.value == 0

-- a zero of its own width
abbrev pub IsZero : Unsigned → Type 0
IsZero u = u.value ≡ 0

-- the most pairs that a declaration has
abbrev pub most_pairs : ℕ
most_pairs = 1024

abbrev pub half : Unsigned × Unsigned → Option Reason
half x =
    if is_null x.0 then (if is_null x.1 then None else Some HalfPair) else (if is_null x.1 then Some HalfPair else None)

abbrev pub is_end : Unsigned × Unsigned → Bool
is_end x = is_null x.0 && is_null x.1

-- a pair after so many others: the ending pair doesn't count
abbrev pub too_many : ℕ → Unsigned × Unsigned → Option Reason
too_many before x = if is_end x || nat_lt before most_pairs then None else Some TooManyPairs

-- why a pair is refused: as half a pair first
abbrev pub first_of : {X : Type 0} → Option X → Option X → Option X
first_of (Some reason) later = Some reason
first_of None later = later

abbrev pub refused_pair : ℕ → Unsigned × Unsigned → Option Reason
refused_pair before x = first_of (half x) (too_many before x)

-- pairs of name and form, with a constant after form 0x21, until the pair 0, 0
abbrev pub pairs : Part (List ((Unsigned × Unsigned) × Option Signed) × (Unsigned × Unsigned))
pairs =
    repeated (λ before. judged (judged (uleb then λ _. uleb) half) (too_many (length before))) is_end
    (λ x. optional (x.1.value == DW_FORM_implicit_const) sleb)

abbrev pub bad_flag : ℕ → Option Reason
bad_flag x = if nat_lt x 2 then None else Some BadChildren

-- a tag, a byte that says whether there are children, and pairs
abbrev pub described : Part (Unsigned × (ℕ × (List ((Unsigned × Unsigned) × Option Signed) × (Unsigned × Unsigned))))
described = uleb then λ _. judged (fixed Little 1) bad_flag then λ _. pairs

abbrev pub Described : Type 0
Described = Unsigned × (ℕ × (List ((Unsigned × Unsigned) × Option Signed) × (Unsigned × Unsigned)))

abbrev pub is_among : ℕ → List (Unsigned × Described) → Bool
is_among code [] = false
is_among code (x ∷ xs) = (code == x.0.value) || is_among code xs

abbrev pub repeats : List (Unsigned × Described) → Unsigned → Option Reason
repeats before code = if is_among code.value before then Some DuplicateCode else None

-- declarations by code, until a code 0
abbrev pub declarations : Part (List (Unsigned × Described) × Unsigned)
declarations = repeated (λ before. judged uleb (repeats before)) is_null (λ _. described)

-- ---- the same with names

abbrev pub pair_parts : Pair → (Unsigned × Unsigned) × Option Signed
pair_parts p = ((p.name, p.form), p.constant)

abbrev pub zero_of : ℕ → Unsigned
zero_of width = record { value = 0; width = width }

-- what stands behind the code
abbrev pub described_of : Declaration → Described
described_of d =
    (d.tag, ((if d.children then 1 else 0), (map pair_parts d.pairs, (zero_of d.name_zero, zero_of d.form_zero))))

abbrev pub declaration_parts : Declaration → Unsigned × Described
declaration_parts d = (d.code, described_of d)

abbrev pub table_parts : Table → Option (List (Unsigned × Described) × Unsigned)
table_parts t = Some (map declaration_parts t.declarations, zero_of t.last_zero)

-- an abbreviation table
unfoldable pub table : Part Table
table = seen table_parts declarations

-- a list is never so long
abbrev pub unbounded : List ℕ → ℕ
unbounded bytes = length bytes + 16

-- the table t stands in the section at the offset
pub record TableAt (abbreviations : List ℕ) (offset : ℕ) (t : Table) : Type 0 where
  pub inside : offset < length abbreviations
  pub fits : table.Fits t
  pub rest : List ℕ
  pub split : drop offset abbreviations ≡ table.spell t ++ rest

-- the table at the offset breaks; the broken field's offset counts from the section's first byte
abbrev pub TableBreaks : List ℕ → ℕ → ℕ → Reason → Type 0
TableBreaks abbreviations offset at reason =
    (length abbreviations < suc offset) × (at ≡ offset) × (reason ≡ AbbrevOffset)
    ⊎ (offset < length abbreviations)
    × ((own : ℕ) × (at ≡ offset + own) × table.Break (drop offset abbreviations) (unbounded abbreviations) own reason)

-- the declaration of a code
abbrev pub declared_in : List Declaration → ℕ → Option Declaration
declared_in [] code = None
declared_in (d ∷ ds) code = if code == d.code.value then Some d else declared_in ds code

abbrev pub declared : Table → ℕ → Option Declaration
declared t code = declared_in t.declarations code
