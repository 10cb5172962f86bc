-- A tree that grows, as contracts see it, and what each call does to it.
use Rattle.std.specs.Prelude.{◌≡◌, ℕ, ◌+◌, ◌==◌, List, [], ◌∷◌, ◌++◌, length, take, drop, slice_get, Option, Some, None, Bool, true, false, option_map}
use Rattle.std.proofs.Common.{refl}
use Rattle.std.specs.Coded.{Coded, code_by, coded×, coded_ℕ}
use Rattle.dw_leb.specs.Number.{Unsigned, uleb}
use Rattle.dw_form.specs.declared.shape.Ctx.{Ctx}
use Rattle.dw_form.specs.Form.{Attribute, attribute}
use Rattle.dw_form.specs.StoredView.{text_or_block}
use Rattle.dw_form.specs.HeadFront.{front_bytes}
use Rattle.dw_form.specs.HeadSize.{is_plain}
use Rattle.dw_abbrev.specs.Table.{Pair, Declaration, Table, declared}
use Rattle.dw_tree.specs.Tree.{Tree, leaf, Forest, none, more, values, declared_pairs}
use Rattle.dw_tree.specs.Row.{rows_bytes}
use Rattle.dw_tree.specs.Place.{Frame, Spot, nowhere, add, enter, leave, rows_before, PartialValue, UnfinishedEntry, Place, place_code}
use Rattle.dw_tree.specs.Codes.{context_code, table_code, tree_code}

-- a tree under construction, whose root begins at this offset of its unit
pub record Growing : Type 0 where
  pub context : Ctx
  pub table : Table
  pub start : ℕ
  pub place : Place

-- one that has no entry yet
abbrev pub nothing_grown : Ctx → Table → ℕ → Growing
nothing_grown context table start =
    record { context = context; table = table; start = start; place = record { spot = nowhere; unfinished = None } }

abbrev pub growing_code : Coded Growing
growing_code =
    code_by (Ctx × (Table × (ℕ × Place))) (coded× context_code (coded× table_code (coded× coded_ℕ place_code)))
    (λ g. (g.context, (g.table, (g.start, g.place))))
    (λ p. record { context = p.0; table = p.1.0; start = p.1.1.0; place = p.1.1.1 }) (λ _. refl)

-- an entry with all its values is closed at once, or is opened
abbrev pub settled : Bool → Bool → Spot → Unsigned → List Attribute → Place
settled true true s code vs = record { spot = enter code vs s; unfinished = None }
settled true false s code vs = record { spot = add (leaf code vs) s; unfinished = None }
settled false children s code vs =
    record { spot = s; unfinished = Some (record { code = code; values = vs; partial = None }) }

-- an entry is given these values so far
abbrev pub settle_by : Option Declaration → Spot → Unsigned → List Attribute → Place
settle_by None s code vs = record { spot = s; unfinished = None }
settle_by (Some d) s code vs = settled (length vs == length d.pairs) d.children s code vs

abbrev pub settle : Table → Spot → Unsigned → List Attribute → Place
settle t s code vs = settle_by (declared t code.value) s code vs

-- an entry of this code begins
abbrev pub begun_at : Unsigned → Growing → Growing
begun_at code g = record g { place = settle g.table g.place.spot code [] }

-- the unfinished entry is given one more value
abbrev pub value_at : Attribute → Growing → Option UnfinishedEntry → Growing
value_at v g None = g
value_at v g (Some r) = record g { place = settle g.table g.place.spot r.code (r.values ++ v ∷ []) }

abbrev pub with_value : Attribute → Growing → Growing
with_value v g = value_at v g g.place.unfinished

-- it is given these values, one after the other
abbrev pub with_values : List Attribute → Growing → Growing
with_values [] g = g
with_values (v ∷ vs) g = with_values vs (with_value v g)

-- the partial value of the unfinished entry
abbrev pub partial_in : Option UnfinishedEntry → Option PartialValue
partial_in None = None
partial_in (Some r) = r.partial

abbrev pub given_partial : Option PartialValue → UnfinishedEntry → UnfinishedEntry
given_partial o r = record { code = r.code; values = r.values; partial = o }

abbrev pub with_partial : Option PartialValue → Growing → Growing
with_partial o g =
    record g { place = record { spot = g.place.spot; unfinished = option_map (given_partial o) g.place.unfinished } }

-- a text or block begins, of which no bytes are there yet
abbrev pub started : Option Unsigned → Option ℕ → Growing → Growing
started via width g = with_partial (Some (record { via = via; width = width; bytes = [] })) g

-- more of its bytes are there
abbrev pub longer : List ℕ → PartialValue → PartialValue
longer bytes b = record { via = b.via; width = b.width; bytes = b.bytes ++ bytes }

abbrev pub extended : List ℕ → Growing → Growing
extended bytes g = with_partial (option_map (longer bytes) (partial_in g.place.unfinished)) g

-- it is a value with the bytes that it has
abbrev pub partial_attribute : PartialValue → Attribute
partial_attribute b = record { via = b.via; value = text_or_block b.width b.bytes }

abbrev pub ended_by : Option PartialValue → Growing → Growing
ended_by None g = g
ended_by (Some b) g = with_value (partial_attribute b) g

abbrev pub ended : Growing → Growing
ended g = ended_by (partial_in g.place.unfinished) g

-- the innermost open entry is closed
abbrev pub closed_at : ℕ → Growing → Growing
closed_at w g = record g { place = record { spot = leave w g.place.spot; unfinished = None } }

-- the unfinished entry is taken back
abbrev pub undone : Growing → Growing
undone g = record g { place = record { spot = g.place.spot; unfinished = None } }

-- ---- the bytes so far, and where the next one stands; those of a partial value aside

-- the values of the first pairs, as many as there are values
abbrev pub first_values : Ctx → List Pair → List Attribute → List ℕ
first_values k ps vs = (values k (take (length vs) ps)).spell vs

abbrev pub FirstsFit : Ctx → List Pair → List Attribute → Type 0
FirstsFit k ps vs = (values k (take (length vs) ps)).Fits vs

abbrev pub unfinished_bytes : Ctx → Table → Option UnfinishedEntry → List ℕ
unfinished_bytes k t None = []
unfinished_bytes k t (Some r) = uleb.spell r.code ++ first_values k (declared_pairs (declared t r.code.value)) r.values

abbrev pub end_of : Growing → ℕ
end_of g =
    g.start
    + (length (rows_bytes g.context g.table (rows_before g.place.spot.above g.place.spot.left))
    + length (unfinished_bytes g.context g.table g.place.unfinished))

-- ---- what the caller has tested

-- the pairs whose values are still to come
abbrev pub next_pairs : Table → UnfinishedEntry → List Pair
next_pairs t r = drop (length r.values) (declared_pairs (declared t r.code.value))

-- the first of them
abbrev pub next_pair : Table → Option UnfinishedEntry → Option Pair
next_pair t None = None
next_pair t (Some r) = slice_get (declared_pairs (declared t r.code.value)) (length r.values)

abbrev pub FirstFits : Ctx → List Pair → Attribute → Type 0
FirstFits k [] v = ⊥
FirstFits k (p ∷ ps) v = (attribute k p.form.value p.constant).Fits v

abbrev pub first_bytes : Ctx → List Pair → Attribute → List ℕ
first_bytes k [] v = []
first_bytes k (p ∷ ps) v = (attribute k p.form.value p.constant).spell v

-- the value has a spelling as the next one of the unfinished entry
abbrev pub NextFits : Ctx → Table → Option UnfinishedEntry → Attribute → Type 0
NextFits k t None v = ⊥
NextFits k t (Some r) v = FirstFits k (next_pairs t r) v

abbrev pub next_bytes : Ctx → Table → Option UnfinishedEntry → Attribute → List ℕ
next_bytes k t None v = []
next_bytes k t (Some r) v = first_bytes k (next_pairs t r) v

-- of these bytes those before its content; all of them, where it has none
abbrev pub next_front : Ctx → Table → Option UnfinishedEntry → Attribute → List ℕ
next_front k t o v = front_bytes v (next_bytes k t o v)

-- these bytes spell a value as the next one, and it is no text or block
pub record IsPlainNext (k : Ctx) (t : Table) (o : Option UnfinishedEntry) (v : Attribute) (bytes : List ℕ)
    : Type 0 where
  pub fits : NextFits k t o v
  pub plain : is_plain v.value ≡ true
  pub spelled : bytes ≡ next_bytes k t o v

abbrev pub SpellsPlain : Ctx → Table → Option UnfinishedEntry → List ℕ → Type 0
SpellsPlain k t o bytes = (v : Attribute) × IsPlainNext k t o v bytes

-- these bytes spell values of the first pairs, one behind the other, and none is a text or block
abbrev pub ArePlain : Ctx → List Pair → List Attribute → List ℕ → Type 0
ArePlain k ps [] bytes = bytes ≡ []
ArePlain k [] (v ∷ vs) bytes = ⊥
ArePlain k (p ∷ ps) (v ∷ vs) bytes =
    ((attribute k p.form.value p.constant).Fits v × (is_plain v.value ≡ true))
    × ((rest : List ℕ) × (bytes ≡ (attribute k p.form.value p.constant).spell v ++ rest) × ArePlain k ps vs rest)

-- so many of them
abbrev pub SpellsFirst : Ctx → List Pair → ℕ → List ℕ → Type 0
SpellsFirst k ps count bytes = (vs : List Attribute) × (length vs ≡ count) × ArePlain k ps vs bytes

-- ---- a whole tree

-- a tree whose root begins at this offset of its unit
pub record TreeAt : Type 0 where
  pub context : Ctx
  pub table : Table
  pub start : ℕ
  pub root : Tree

abbrev pub tree_at_code : Coded TreeAt
tree_at_code = code_by (Ctx × (Table × (ℕ × Tree))) (coded× context_code (coded× table_code (coded× coded_ℕ tree_code)))
    (λ g. (g.context, (g.table, (g.start, g.root))))
    (λ p. record { context = p.0; table = p.1.0; start = p.1.1.0; root = p.1.1.1 }) (λ _. refl)

-- the tree of a place behind a whole one
abbrev pub only_tree : Forest → Option Tree
only_tree none = None
only_tree (more x none) = Some x
only_tree (more x (more y ts)) = None

abbrev pub whole_tree : List Frame → Forest → Option UnfinishedEntry → Option Tree
whole_tree [] ts None = only_tree ts
whole_tree [] ts (Some r) = None
whole_tree (f ∷ fs) ts o = None

abbrev pub finished : Growing → Option TreeAt
finished g =
    option_map (λ (x : Tree). record { context = g.context; table = g.table; start = g.start; root = x })
    (whole_tree g.place.spot.above g.place.spot.left g.place.unfinished)
