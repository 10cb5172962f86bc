-- Attributes that are stepped over.
use Rattle.std.proofs.Common.{◌≡◌, ◌+◌, ◌-◌, ◌∷◌, ℕ, Bool, true, false, List, [], length, drop, Option, Some, None, refl, ap, subst, ◌∙◌, arith}
use Rattle.std.specs.Prelude.{◌==◌, ◌||◌, map}
use Rattle.std.specs.List.{list_any}
use Rattle.dw_form.specs.declared.shape.Ctx.{Ctx}
use Rattle.dw_form.specs.Form.{Attribute}
use Rattle.dw_form.specs.Pieces.{spelling}
use Rattle.dw_form.specs.Head.{head, head_at}
use Rattle.dw_form.specs.HeadSize.{plain_head}
use Rattle.dw_abbrev.specs.declared.pair.Pair.{Pair as RustPair}
use Rattle.dw_abbrev.specs.PairView.{pair_of}
use Rattle.dw_abbrev.specs.Table.{Pair}
use Rattle.dw_tree.specs.RowHeads.{First, first_found, put_in, values_at}
use Rattle.dw_tree.specs.Lent.{AreLent, LentAttribute, lent_attribute, lent_attributes, first_named}
use Rattle.dw_tree.specs.Names.{first_name, others_of}
use Rattle.dw_tree.specs.WholeHeads.{IsWhole}
use Rattle.dw_tree.proofs.LentLemmas.{first_value, left, spelled_alone}

-- ---- an attribute has the name of its pair

abbrev pub has_name : ℕ → RustPair → Bool
has_name name q = q.name.value == name

pub none_named : (name : ℕ) (k : Ctx) (at : ℕ) (qs : List RustPair) (vs : List Attribute) → list_any (has_name name) qs ≡ false → first_named name (lent_attributes k at (map pair_of qs) vs) ≡ None
none_named name k at [] vs none = refl
none_named name k at (q ∷ qs) [] none = refl
none_named name k at (q ∷ qs) (v ∷ vs) none = by (q.name.value == name) refl none (λ e. none_named name k (at + length (spelling k q.form.value v)) qs vs e)
  where
    others : List LentAttribute
    others = lent_attributes k (at + length (spelling k q.form.value v)) (map pair_of qs) vs

    by : (b : Bool) → (q.name.value == name) ≡ b → (b || list_any (has_name name) qs) ≡ false → (list_any (has_name name) qs ≡ false → first_named name others ≡ None)
        → first_named name (lent_attribute at (pair_of q) v ∷ others) ≡ None
    by true is e later = absurd cc
    by false is e later = rw is (later e)

-- ---- behind the first one

module _ (k : Ctx) (at : ℕ) (hs pool : List ℕ) (all : List RustPair) (q : RustPair) (qs : List RustPair) (items : all ≡ q ∷ qs) (lent : AreLent k at (map pair_of all) hs pool) where
  abbrev p : Pair
  p = pair_of q

  abbrev rest : List Pair
  rest = map pair_of qs

  is : map pair_of all ≡ p ∷ rest
  is = ap (λ (xs : List RustPair). map pair_of xs) items

  abbrev pub seen : List LentAttribute
  seen = lent_attributes k at (map pair_of all) (values_at k (map pair_of all) hs pool)

  -- what is seen, where the head of the first gives this value
  seen_by : (a : Attribute) (width : ℕ) → head_at k p.form.value p.constant hs pool ≡ Some (a, width)
      → seen ≡ lent_attribute at p a ∷ lent_attributes k (at + length (spelling k p.form.value a)) rest (values_at k rest (drop width hs) pool)
  seen_by a width e =
      ap (λ (ps : List Pair). lent_attributes k at ps (values_at k ps hs pool)) is
      ∙ ap (λ (o : Option (Attribute × ℕ)). lent_attributes k at (p ∷ rest) (put_in o (λ n. values_at k rest (drop n hs) pool))) e

  abbrev first : First k p hs pool
  first = first_value k at hs pool (map pair_of all) p rest is lent

  pub name_is : first_name seen ≡ Some q.name.value
  name_is = ap first_name (seen_by first.value (length (head k p.form.value first.start first.value)) (first_found k p hs pool first))

  -- what is left, and how it is seen
  pub record Behind (width size : ℕ) : Type 0 where
    pub lent_behind : AreLent k (at + size) rest (drop width hs) pool
    pub seen_behind : others_of seen ≡ lent_attributes k (at + size) rest (values_at k rest (drop width hs) pool)

  pub behind_value : (a : Attribute) (width : ℕ) → head_at k p.form.value p.constant hs pool ≡ Some (a, width) → Behind width (length (spelling k p.form.value a))
  behind_value a width e = record { lent_behind = (left k at hs pool all q qs items lent a width e).others; seen_behind = ap others_of (seen_by a width e) }

  -- a value whose head is its spelling needn't be known
  pub behind_whole : (n : ℕ) → IsWhole k p.form.value hs (n - 0) → Behind n n
  behind_whole n ends =
      let x = first in
      let whole : IsWhole k p.form.value hs n = subst (IsWhole k p.form.value hs) (omega arith) ends in
      let own = whole p.constant x.value x.start x.rest x.fits x.split in
      let width : length (head k p.form.value x.start x.value) ≡ n = ap length (plain_head k p.form.value p.constant x.value x.start own.0 x.fits) ∙ own.1 in
      let size : length (spelling k p.form.value x.value) ≡ n = ap length (spelled_alone k p.constant p.form.value x.value x.fits).1 ∙ own.1 in
      let found : head_at k p.form.value p.constant hs pool ≡ Some (x.value, n) = first_found k p hs pool x ∙ ap (λ (m : ℕ). Some (x.value, m)) width in
      subst (Behind n) size (behind_value x.value n found)
