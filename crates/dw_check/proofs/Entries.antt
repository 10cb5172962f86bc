-- Each entry of a unit is one of the unit's table with the values of its declaration, and begins before the unit's end.
use Rattle.std.proofs.Common.{◌≡◌, ℕ, zero, suc, ◌+◌, ◌-◌, ◌<◌, Bool, true, false, List, [], ◌∷◌, ◌++◌, length, Some, refl, sym, ap, ◌∙◌, append_assoc}
use Rattle.std.specs.Prelude.{◌==◌, if◌then◌else◌}
use Rattle.std.specs.List.{AllByRecursion}
use Rattle.std.proofs.lemmas.Bool.{eq-eqb}
use Rattle.dw_leb.specs.declared.errors.Reason.TheVariants.{TooDeep}
use Rattle.dw_leb.specs.Part.{judged, optional, refused}
use Rattle.dw_leb.specs.Number.{Unsigned, uleb}
use Rattle.dw_leb.specs.Repeat.{ItemsFit}
use Rattle.dw_form.specs.declared.shape.Ctx.{Ctx}
use Rattle.dw_form.specs.Form.{Attribute}
use Rattle.dw_abbrev.specs.Table.{Table, declared, is_null, zero_of}
use Rattle.dw_tree.specs.Tree.{Tree, leaf, branch, Forest, none, more, Body, node_of, nodes_of, values, declared_pairs, declares_children, bad_child, body, children, nesting, tree}
use Rattle.dw_tree.specs.Spelling.{entry_bytes, tree_bytes}
use Rattle.dw_tree.specs.Lent.{EntryAt, code_of, values_in, find_at, preorder, all_preorder, entries_of, root_of}
use Rattle.dw_unit.specs.Unit.{WholeUnit, UnitFits, bytes_of, tree_of}
use Rattle.dw_section.specs.Found.{entry_within}

-- ---- their values

-- the values of each entry are those of its declaration
module _ (k : Ctx) (t : Table) where
  abbrev DeclaredValues : Unsigned → List Attribute → Type 0
  DeclaredValues code vs = (values k (declared_pairs (declared t code.value))).Fits vs

  abbrev mutual
    HaveValues : Tree → Type 0
    HaveValues (leaf code vs) = DeclaredValues code vs
    HaveValues (branch code vs ts w) = DeclaredValues code vs × AllHaveValues ts

    AllHaveValues : Forest → Type 0
    AllHaveValues none = Unit {0}
    AllHaveValues (more x ts) = HaveValues x × AllHaveValues ts

  abbrev KidsHaveValues : ℕ → Type 0
  KidsHaveValues room = (x : Forest × Unsigned) → (children k t room).Fits x → AllHaveValues x.0

  node_values : (room : ℕ) → KidsHaveValues room → (x : Tree) → (body k t (children k t room) (node_of x).0).Fits (node_of x).1 → HaveValues x
  node_values room ih (leaf code vs) fits = fits.0
  node_values room ih (branch code vs ts w) fits = (fits.0, by (declares_children (declared t code.value)) fits.1)
    where
      by : (b : Bool) → (optional b (children k t room)).Fits (Some (ts, zero_of w)) → AllHaveValues ts
      by true h = ih (ts, zero_of w) h
      by false h = absurd h

  nodes_values : (room : ℕ) → KidsHaveValues room → (before : List (Unsigned × Body)) (ts : Forest) (end : Unsigned) → ItemsFit (λ _. judged uleb (bad_child t true)) is_null (body k t (children k t room)) before (nodes_of ts) end
      → AllHaveValues ts
  nodes_values room ih before none end fits = tt
  nodes_values room ih before (more x ts) end fits = (node_values room ih x fits.0.2, nodes_values room ih (before ++ node_of x ∷ []) ts end fits.1)

  kids_values : (room : ℕ) → KidsHaveValues room
  unfolding children
  kids_values zero = λ x fits. by x.0 x.1 fits
    where
      by : (ts : Forest) (end : Unsigned) → ItemsFit (λ _. judged uleb (bad_child t false)) is_null (λ _. refused TooDeep) [] (nodes_of ts) end → AllHaveValues ts
      by none end fits = tt
      by (more x ts) end fits = absurd fits.0.2
  kids_values (suc room) = λ x fits. nodes_values room (kids_values room) [] x.0 x.1 fits

  tree_values : (room : ℕ) (x : Tree) → (tree k t room).Fits x → HaveValues x
  tree_values room x fits = node_values room (kids_values room) x fits.1

-- ---- their table

-- an entry is one of a table, and its values are those of its declaration
abbrev IsHeld : Table → EntryAt → Type 0
IsHeld t e = (e.table ≡ t) × (values e.context (declared_pairs (declared e.table (code_of e.node).value))).Fits (values_in e.node)

abbrev HaveTable : Table → List EntryAt → Type 0
HaveTable t es = AllByRecursion (IsHeld t) es

joined : (t : Table) (xs ys : List EntryAt) → HaveTable t xs → HaveTable t ys → HaveTable t (xs ++ ys)
joined t [] ys h g = g
joined t (x ∷ xs) ys h g = (h.0, joined t xs ys h.1 g)

module _ (k : Ctx) (t : Table) where
  mutual
    tree_table : (x : Tree) (offset depth : ℕ) → HaveValues k t x → HaveTable t (preorder k t x offset depth)
    tree_table (leaf code vs) offset depth h = ((refl, h), tt)
    tree_table (branch code vs ts w) offset depth h = ((refl, h.0), forest_table ts (offset + length (entry_bytes k t code vs)) (suc depth) h.1)

    forest_table : (ts : Forest) (offset depth : ℕ) → AllHaveValues k t ts → HaveTable t (all_preorder k t ts offset depth)
    forest_table none offset depth h = tt
    forest_table (more x ts) offset depth h =
        joined t (preorder k t x offset depth) (all_preorder k t ts (offset + length (tree_bytes k t x)) depth) (tree_table x offset depth h.0) (forest_table ts (offset + length (tree_bytes k t x)) depth h.1)

-- ---- where they begin

eqb_same : (n : ℕ) → (n == n) ≡ true
eqb_same n = eq-eqb n n refl

-- an entry at the offset is found among entries that have one
found_among : (before : List EntryAt) (e : EntryAt) (rest : List EntryAt) → (x : EntryAt) × (find_at e.offset (before ++ e ∷ rest) ≡ Some x)
found_among [] e rest = (e, rw (eqb_same e.offset) refl)
found_among (y ∷ ys) e rest = by (y.offset == e.offset) (found_among ys e rest)
  where
    by : (b : Bool) → (x : EntryAt) × (find_at e.offset (ys ++ e ∷ rest) ≡ Some x) → (x : EntryAt) × ((if b then Some y else find_at e.offset (ys ++ e ∷ rest)) ≡ Some x)
    by true later = (y, refl)
    by false later = later

-- what is true of an entry of a unit
abbrev pub IsOf : WholeUnit → EntryAt → Type 0
IsOf u e = IsHeld u.table e × (e.offset < length (bytes_of u))

are_of : (u : WholeUnit) → UnitFits u → (before es : List EntryAt) → entries_of (tree_of u) ≡ before ++ es → HaveTable u.table es → AllByRecursion (IsOf u) es
are_of u fits before [] same h = tt
are_of u fits before (e ∷ es) same h =
    let f = found_among before e es in
    let there : find_at e.offset (entries_of (tree_of u)) ≡ Some f.0 = ap (find_at e.offset) same ∙ f.1 in
    ((h.0, entry_within u e.offset f.0 fits there), are_of u fits (before ++ e ∷ []) es (same ∙ sym (append_assoc before (e ∷ []) es)) h.1)

pub all_of : (u : WholeUnit) → UnitFits u → AllByRecursion (IsOf u) (entries_of (tree_of u))
all_of u fits = are_of u fits [] (entries_of (tree_of u)) refl (tree_table (tree_of u).context u.table u.root (tree_of u).start 1 (tree_values (tree_of u).context u.table (nesting - 1) u.root fits.tree_fits))

-- the root is the first of them
pub root_within : (u : WholeUnit) → UnitFits u → (root_of (tree_of u)).offset < length (bytes_of u)
root_within u fits = by u.root (all_of u fits)
  where
    by : (x : Tree) → AllByRecursion (IsOf u) (preorder (tree_of u).context u.table x (tree_of u).start 1) → (tree_of u).start < length (bytes_of u)
    by (leaf code vs) h = h.0.1
    by (branch code vs ts w) h = h.0.1
