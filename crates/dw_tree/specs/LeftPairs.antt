-- The pairs whose values an entry is still to be given.
use Rattle.std.specs.Prelude.{◌≡◌, ℕ, zero, suc, ◌==◌, List, [], ◌∷◌, ◌++◌, length, drop, Option, Some, None, Bool, true, false, ◌+◌}
use Rattle.std.proofs.Common.{refl, sym, ap, ◌∙◌, arith, length-append}
use Rattle.std.proofs.lemmas.Bool.{eqb-true}
use Rattle.std.proofs.lemmas.List.{drop-drop}
use Rattle.dw_leb.specs.Number.{Unsigned}
use Rattle.dw_form.specs.Form.{Attribute}
use Rattle.dw_abbrev.specs.Table.{Pair, Declaration, Table, declared}
use Rattle.dw_tree.specs.Tree.{declared_pairs}
use Rattle.dw_tree.specs.Place.{Spot, UnfinishedEntry}
use Rattle.dw_tree.specs.Steps.{Growing, settled, settle_by, settle, value_at, next_pairs}

abbrev pub left_pairs : Table → Option UnfinishedEntry → List Pair
left_pairs t None = []
left_pairs t (Some r) = next_pairs t r

-- behind the values that an entry was given
pub settled_left : (t : Table) (s : Spot) (code : Unsigned) (vs : List Attribute)
    → left_pairs t (settle t s code vs).unfinished ≡ drop (length vs) (declared_pairs (declared t code.value))
settled_left t s code vs = by (declared t code.value) refl
  where
    past : {X : Type 0} (xs : List X) (n : ℕ) → n ≡ length xs → [] ≡ drop n xs
    past [] zero e = refl
    past [] (suc n) e = refl
    past (x ∷ xs) zero e = absurd (omega (arith, e))
    past (x ∷ xs) (suc n) e = past xs n (omega (arith, e))

    none_left : {X : Type 0} (n : ℕ) → drop {A = X} n [] ≡ []
    none_left zero = refl
    none_left (suc n) = refl

    full : (d : Declaration) (children b : Bool) → (length vs == length d.pairs) ≡ b → declared t code.value ≡ Some d
        → left_pairs t (settled b children s code vs).unfinished ≡ drop (length vs) d.pairs
    full d true true e known = past d.pairs (length vs) (eqb-true (length vs) (length d.pairs) e)
    full d false true e known = past d.pairs (length vs) (eqb-true (length vs) (length d.pairs) e)
    full d children false e known = ap (λ (o : Option Declaration). drop (length vs) (declared_pairs o)) known

    by : (o : Option Declaration) → declared t code.value ≡ o
        → left_pairs t (settle_by o s code vs).unfinished ≡ drop (length vs) (declared_pairs o)
    by None e = sym (none_left (length vs))
    by (Some d) e = full d d.children (length vs == length d.pairs) refl e

-- behind one value more those behind the first are left
pub value_left : (v : Attribute) (g : Growing) (o : Option UnfinishedEntry) → g.place.unfinished ≡ o
    → left_pairs g.table (value_at v g o).place.unfinished ≡ drop 1 (left_pairs g.table o)
value_left v g None e = ap (left_pairs g.table) e
value_left v g (Some r) e =
    let n : length (r.values ++ v ∷ []) ≡ length r.values + 1 = length-append r.values (v ∷ []) in
    settled_left g.table g.place.spot r.code (r.values ++ v ∷ [])
    ∙ ap (λ (m : ℕ). drop m (declared_pairs (declared g.table r.code.value))) n
    ∙ sym (drop-drop 1 (length r.values) (declared_pairs (declared g.table r.code.value)))
