-- Units built by calls: how a call changes a unit under construction, and why it is refused. Each refusal is the first
-- that holds, in the order of the lines.
use Rattle.std.specs.Prelude.{◌≡◌, ℕ, ◌==◌, ◌↔◌, Bool, true, false, List, [], ◌∷◌, ◌++◌, length, Option, Some, None, is_some, nat_le, if◌then◌else◌, not, ◌&&◌, IsTrue}
use Rattle.std.proofs.Common.{refl}
use Rattle.std.specs.Coded.{Coded, code_by, coded×, coded_list, coded_ℕ}
use Rattle.dw_leb.specs.Number.{Unsigned}
use Rattle.dw_form.specs.Form.{Attribute}
use Rattle.dw_abbrev.specs.Build.{is_width}
use Rattle.dw_abbrev.specs.Table.{Table, declared, is_null}
use Rattle.dw_tree.specs.Tree.{leaf, values, declared_pairs, declares_children, nesting}
use Rattle.dw_tree.specs.Spelling.{entry_bytes}
use Rattle.dw_tree.specs.Codes.{table_code}
use Rattle.dw_tree.specs.Place.{Spot, add, enter, leave, Place, place_code}
use Rattle.dw_tree.specs.Emptiness.{is_bare}
use Rattle.dw_unit.specs.declared.refusal.Refusal.{Refusal}
use Rattle.dw_unit.specs.declared.refusal.Refusal.TheVariants.{UnknownCode, WrongValues, NotOpen, Open, TooDeep, TooLong, SecondRoot, NoRoot, BadWidth, NoMemory}
use Rattle.dw_header.specs.Header.{Header, context_of}
use Rattle.dw_unit.specs.Unit.{WholeUnit}
use Rattle.dw_unit.specs.UnitView.{header_code}
use Rattle.dw_unit.specs.Draft.{Drafted, finished, passes_limit}

-- a unit under construction: a header with its table, a tree with one open place, and the widths of the nulls behind
-- the root
pub record Building : Type 0 where
  pub header : Header
  pub table : Table
  pub spot : Spot
  pub padding : List ℕ

abbrev spot_code : Coded Spot
spot_code = code_by Place place_code (λ s. record { spot = s; unfinished = None }) (λ p. p.spot) (λ _. refl)

abbrev pub building_code : Coded Building
building_code =
    code_by (Header × (Table × (Spot × List ℕ)))
    (coded× header_code (coded× table_code (coded× spot_code (coded_list coded_ℕ))))
    (λ b. (b.header, (b.table, (b.spot, b.padding))))
    (λ p. record { header = p.0; table = p.1.0; spot = p.1.1.0; padding = p.1.1.1 }) (λ _. refl)

-- as a draft whose entries all have their values
abbrev pub draft_of : Building → Drafted
draft_of b =
    record
    { header = b.header; table = b.table; place = record { spot = b.spot; unfinished = None }; padding = b.padding }

abbrev pub building_of : Drafted → Building
building_of d = record { header = d.header; table = d.table; spot = d.place.spot; padding = d.padding }

-- ---- what the calls do

-- an entry with children is open, another one is closed at once
abbrev pub with_entry : Bool → Unsigned → List Attribute → Spot → Spot
with_entry true code vs s = enter code vs s
with_entry false code vs s = add (leaf code vs) s

abbrev pub opened : Unsigned → List Attribute → Building → Building
opened code vs b =
    record {
      header = b.header;
      table = b.table;
      spot = with_entry (declares_children (declared b.table code.value)) code vs b.spot;
      padding = b.padding;
    }

abbrev pub closed : ℕ → Building → Building
closed width b = record { header = b.header; table = b.table; spot = leave width b.spot; padding = b.padding }

abbrev pub padded : ℕ → Building → Building
padded width b = record { header = b.header; table = b.table; spot = b.spot; padding = b.padding ++ width ∷ [] }

-- the unit, where its root is closed
abbrev pub whole_of : Building → Option WholeUnit
whole_of b = finished (draft_of b)

-- ---- why they are refused

-- an entry is open
abbrev pub is_open : Spot → Bool
is_open s = not (length s.above == 0)

-- with so many bytes more it would be too long
abbrev pub is_too_long : Building → ℕ → Bool
is_too_long b count = passes_limit (draft_of b) count

abbrev pub length_refusal : Building → ℕ → Option Refusal
length_refusal b count = if is_too_long b count then Some TooLong else None

-- one more null of this width
abbrev pub null_refusal : Building → ℕ → Option Refusal
null_refusal b width = if is_width width then length_refusal b width else Some BadWidth

abbrev pub close_refusal : Building → ℕ → Option Refusal
close_refusal b width = if is_open b.spot then null_refusal b width else Some NotOpen

abbrev pub finish_refusal : Building → Option Refusal
finish_refusal b = if is_bare b.spot then Some NoRoot else if is_open b.spot then Some Open else None

abbrev pub or_else : Option Refusal → Option Refusal → Option Refusal
or_else (Some refusal) next = Some refusal
or_else None next = next

abbrev pub pad_refusal : Building → ℕ → Option Refusal
pad_refusal b width = or_else (finish_refusal b) (null_refusal b width)

-- one more entry: where it would stand
abbrev pub place_refusal : Spot → Option Refusal
place_refusal s =
    if is_open s then (if nat_le nesting (length s.above) then Some TooDeep else None) else if is_bare s then None
    else Some SecondRoot

-- the table declares entries of this code; none has the code of a null
abbrev pub is_known : Table → Unsigned → Bool
is_known t code = not (is_null code) && is_some (declared t code.value)

-- the values have a spelling under the declaration of the code, one for each of its pairs
abbrev pub ValuesFit : Building → Unsigned → List Attribute → Type 0
ValuesFit b code vs = (values (context_of b.header) (declared_pairs (declared b.table code.value))).Fits vs

abbrev pub entry_size : Building → Unsigned → List Attribute → ℕ
entry_size b code vs = length (entry_bytes (context_of b.header) b.table code vs)

abbrev pub code_refusal : Table → Unsigned → Option Refusal
code_refusal t code = if is_known t code then None else Some UnknownCode

-- by its values; fits says whether they have a spelling
abbrev pub values_refusal : Building → Unsigned → List Attribute → Bool → Option Refusal
values_refusal b code vs fits = if fits then length_refusal b (entry_size b code vs) else Some WrongValues

abbrev pub ValuesRefused : Building → Unsigned → List Attribute → Option Refusal → Type 0
ValuesRefused b code vs refusal =
    (fits : Bool) × (IsTrue fits ↔ ValuesFit b code vs) × (refusal ≡ values_refusal b code vs fits)

-- a refusal, and where there is none what is judged next
abbrev pub Then : Option Refusal → (Option Refusal → Type 0) → Option Refusal → Type 0
Then (Some first) Next refusal = refusal ≡ Some first
Then None Next refusal = Next refusal

abbrev pub EntryRefused : Building → Unsigned → List Attribute → Option Refusal → Type 0
EntryRefused b code vs = Then (code_refusal b.table code) (ValuesRefused b code vs)

-- this is why one more entry is refused: where it would stand, its code, its values, the unit's length
abbrev pub OpenRefused : Building → Unsigned → List Attribute → Option Refusal → Type 0
OpenRefused b code vs = Then (place_refusal b.spot) (EntryRefused b code vs)

-- what is refused for no other reason, is refused for want of memory
abbrev pub or_memory : Option Refusal → Refusal
or_memory (Some refusal) = refusal
or_memory None = NoMemory
