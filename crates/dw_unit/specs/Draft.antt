-- A unit under construction, step by step: what each call makes of it, and what is true of it.
use Rattle.std.specs.Prelude.{◌≡◌, ℕ, ◌+◌, ◌<◌, ◌^◌, Bool, true, false, List, [], ◌∷◌, ◌++◌, length, Option, None, option_map, nat_le, IsSome, IfSome}
use Rattle.std.proofs.Common.{refl}
use Rattle.std.specs.Coded.{Coded, code_by, coded×, coded_list, coded_ℕ}
use Rattle.dw_leb.specs.declared.order.Format.{Format}
use Rattle.dw_leb.specs.declared.order.Format.TheVariants.{Dwarf32, Dwarf64}
use Rattle.dw_leb.specs.Number.{Unsigned}
use Rattle.dw_form.specs.declared.shape.Ctx.{Ctx}
use Rattle.dw_form.specs.Form.{Attribute}
use Rattle.dw_abbrev.specs.Table.{Table, declared}
use Rattle.dw_tree.specs.Tree.{Tree, Forest, none, more, declared_pairs, nulls, AreNulls}
use Rattle.dw_tree.specs.Codes.{table_code}
use Rattle.dw_tree.specs.Place.{Frame, Spot, nowhere, UnfinishedEntry, Place, place_code}
use Rattle.dw_tree.specs.Emptiness.{is_bare}
use Rattle.dw_tree.specs.Steps.{Growing, begun_at, with_value, partial_in, partial_attribute, started as started_at, extended as extended_at, ended as ended_at, closed_at, undone as undone_at, end_of, whole_tree, NextFits, next_bytes, FirstsFit}
use Rattle.dw_header.specs.Header.{Header, HeaderFits, context_of}
use Rattle.dw_unit.specs.Unit.{WholeUnit}
use Rattle.dw_unit.specs.UnitView.{header_code}
use Rattle.dw_header.specs.HeaderPlace.{header_size}

-- a header with its table, a tree with one open place, and the widths of the nulls behind the root
pub record Drafted : Type 0 where
  pub header : Header
  pub table : Table
  pub place : Place
  pub padding : List ℕ

abbrev pub drafted_code : Coded Drafted
drafted_code =
    code_by (Header × (Table × (Place × List ℕ)))
    (coded× header_code (coded× table_code (coded× place_code (coded_list coded_ℕ))))
    (λ d. (d.header, (d.table, (d.place, d.padding))))
    (λ p. record { header = p.0; table = p.1.0; place = p.1.1.0; padding = p.1.1.1 }) (λ _. refl)

-- its tree, whose root begins behind the header
abbrev pub tree_in : Drafted → Growing
tree_in d = record { context = context_of d.header; table = d.table; start = header_size d.header; place = d.place }

-- the count of its bytes: header, entries and nulls, and what the unfinished entry has so far; those of a partial value
-- aside
abbrev pub drafted_size : Drafted → ℕ
drafted_size d = end_of (tree_in d) + length (nulls d.padding)

-- ---- what the calls do

abbrev pub empty : Header → Table → Drafted
empty header table =
    record { header = header; table = table; place = record { spot = nowhere; unfinished = None }; padding = [] }

-- its tree goes on at this place
abbrev pub with_place : Place → Drafted → Drafted
with_place p d = record { header = d.header; table = d.table; place = p; padding = d.padding }

-- an entry of this code begins
abbrev pub begun : Unsigned → Drafted → Drafted
begun code d = with_place (begun_at code (tree_in d)).place d

-- the unfinished entry is given its next value
abbrev pub given : Attribute → Drafted → Drafted
given v d = with_place (with_value v (tree_in d)).place d

-- it is given these values, one after the other
abbrev pub given_each : List Attribute → Drafted → Drafted
given_each [] d = d
given_each (v ∷ vs) d = given_each vs (given v d)

-- a text or block begins as its next value, of which no bytes are there yet
abbrev pub started : Option Unsigned → Option ℕ → Drafted → Drafted
started via width d = with_place (started_at via width (tree_in d)).place d

-- more of its bytes are there
abbrev pub extended : List ℕ → Drafted → Drafted
extended bytes d = with_place (extended_at bytes (tree_in d)).place d

-- it has all its bytes
abbrev pub ended : Drafted → Drafted
ended d = with_place (ended_at (tree_in d)).place d

-- the innermost open entry is closed
abbrev pub closed : ℕ → Drafted → Drafted
closed width d = with_place (closed_at width (tree_in d)).place d

-- one more null stands behind the root
abbrev pub padded : ℕ → Drafted → Drafted
padded width d = record { header = d.header; table = d.table; place = d.place; padding = d.padding ++ width ∷ [] }

-- the unfinished entry is taken back
abbrev pub undone : Drafted → Drafted
undone d = with_place (undone_at (tree_in d)).place d

-- the unit, where its root is closed
abbrev pub finished : Drafted → Option WholeUnit
finished d =
    option_map (λ (x : Tree). record { header = d.header; table = d.table; root = x; padding = d.padding })
    (whole_tree d.place.spot.above d.place.spot.left d.place.unfinished)

-- ---- what the caller has tested

-- the least count of bytes that no unit of the format has: its length would reach 0xfffffff0, or it would pass 2 ^ 63 -
-- 1
abbrev pub size_limit : Format → ℕ
size_limit Dwarf32 = 4 + 0xfffffff0
size_limit Dwarf64 = 2 ^ 63

-- with so many bytes more it would be too long
abbrev pub passes_limit : Drafted → ℕ → Bool
passes_limit d count = nat_le (size_limit d.header.format) (drafted_size d + count)

-- an entry at the place isn't a second root
abbrev pub IsOnlyRoot : Spot → Type 0
IsOnlyRoot s = s.above ≡ [] → is_bare s ≡ true

-- the bytes of a value, as the next one of the unfinished entry
abbrev pub value_bytes : Drafted → Attribute → List ℕ
value_bytes d v = next_bytes (context_of d.header) d.table d.place.unfinished v

-- the partial text or block, with its bytes so far
abbrev pub partial_of : Drafted → Option Attribute
partial_of d = option_map partial_attribute (partial_in d.place.unfinished)

-- it has a spelling as the next value of the unfinished entry, and the unit isn't too long with it
abbrev pub PartialFits : Drafted → Type 0
PartialFits d = IfSome (partial_of d) (λ v. NextFits (context_of d.header) d.table d.place.unfinished v)

abbrev pub PartialShort : Drafted → Type 0
PartialShort d = IfSome (partial_of d) (λ v. passes_limit d (length (value_bytes d v)) ≡ false)

-- ---- what is kept

-- at most one root: the outermost chain has one entry, which is open, or is closed, or none
abbrev pub AtMostOne : Forest → Type 0
AtMostOne none = Unit {0}
AtMostOne (more x none) = Unit {0}
AtMostOne (more x (more y ts)) = ⊥

abbrev pub NoneBefore : List Frame → Forest → Type 0
NoneBefore [] ts = ts ≡ none
NoneBefore (f ∷ fs) ts = NoneBefore fs f.left

abbrev pub HasOneRoot : List Frame → Forest → Type 0
HasOneRoot [] ts = AtMostOne ts
HasOneRoot (f ∷ fs) ts = NoneBefore fs f.left

-- an unfinished entry: it is declared, has a place, and the values that it was given have a spelling
pub record IsUnfinished (k : Ctx) (t : Table) (s : Spot) (r : UnfinishedEntry) : Type 0 where
  pub known : IsSome (declared t r.code.value)
  pub only : IsOnlyRoot s
  pub prefix : FirstsFit k (declared_pairs (declared t r.code.value)) r.values

-- the tree and the count of the bytes of the padding's nulls are those of the unit, which has a spelling so far and
-- isn't too long
pub record IsDrafted (d : Drafted) (tree : Growing) (padded : ℕ) : Type 0 where
  pub header_fits : HeaderFits d.header
  pub tree_is : tree ≡ tree_in d
  pub one_root : HasOneRoot d.place.spot.above d.place.spot.left
  pub unfinished : IfSome d.place.unfinished (IsUnfinished (context_of d.header) d.table d.place.spot)
  pub nulls_fit : AreNulls d.padding
  pub counted : padded ≡ length (nulls d.padding)
  pub short : drafted_size d < size_limit d.header.format
