-- The pair of the next value, and whether a value fits as the next one.
use Rattle.std.proofs.Common.{◌≡◌, ℕ, zero, suc, List, [], ◌∷◌, length, drop, slice_get, Option, Some, None, sym, ap, subst}
use Rattle.dw_form.specs.declared.shape.Ctx.{Ctx}
use Rattle.dw_form.specs.Form.{Attribute, attribute}
use Rattle.dw_abbrev.specs.Table.{Pair, Table, declared}
use Rattle.dw_tree.specs.Tree.{declared_pairs}
use Rattle.dw_tree.specs.Place.{UnfinishedEntry}
use Rattle.dw_tree.specs.Steps.{NextFits, next_bytes, next_pair, FirstFits, first_bytes}

module _ (k : Ctx) (v : Attribute) where
  pub first_is : (ps : List Pair) (n : ℕ) (p : Pair) → slice_get ps n ≡ Some p → FirstFits k (drop n ps) v
      → (attribute k p.form.value p.constant).Fits v
      × (first_bytes k (drop n ps) v ≡ (attribute k p.form.value p.constant).spell v)
  first_is [] zero p e h = absurd h
  first_is [] (suc n) p e h = absurd h
  first_is (q ∷ ps) zero p e h =
      let same : q ≡ p = cc in (
        subst (λ (x : Pair). (attribute k x.form.value x.constant).Fits v) same h,
        ap (λ (x : Pair). (attribute k x.form.value x.constant).spell v) same,
      )
  first_is (q ∷ ps) (suc n) p e h = first_is ps n p e h

  pub first_fits : (ps : List Pair) (n : ℕ) (p : Pair) → slice_get ps n ≡ Some p
      → (attribute k p.form.value p.constant).Fits v → FirstFits k (drop n ps) v
  first_fits [] n p e h = absurd cc
  first_fits (q ∷ ps) zero p e h =
      let same : q ≡ p = cc in subst (λ (x : Pair). (attribute k x.form.value x.constant).Fits v) (sym same) h
  first_fits (q ∷ ps) (suc n) p e h = first_fits ps n p e h

  pub first_some : (ps : List Pair) (n : ℕ) → slice_get ps n ≡ None → FirstFits k (drop n ps) v → ⊥
  first_some [] zero e h = h
  first_some [] (suc n) e h = h
  first_some (q ∷ ps) zero e h = absurd cc
  first_some (q ∷ ps) (suc n) e h = first_some ps n e h

  pub next_is : (t : Table) (o : Option UnfinishedEntry) (p : Pair) → next_pair t o ≡ Some p → NextFits k t o v
      → (attribute k p.form.value p.constant).Fits v
      × (next_bytes k t o v ≡ (attribute k p.form.value p.constant).spell v)
  next_is t None p e h = absurd h
  next_is t (Some r) p e h = first_is (declared_pairs (declared t r.code.value)) (length r.values) p e h

  pub fits_next : (t : Table) (o : Option UnfinishedEntry) (p : Pair) → next_pair t o ≡ Some p
      → (attribute k p.form.value p.constant).Fits v → NextFits k t o v
  fits_next t None p e h = absurd cc
  fits_next t (Some r) p e h = first_fits (declared_pairs (declared t r.code.value)) (length r.values) p e h

  pub next_some : (t : Table) (o : Option UnfinishedEntry) → next_pair t o ≡ None → NextFits k t o v → ⊥
  next_some t None e h = h
  next_some t (Some r) e h = first_some (declared_pairs (declared t r.code.value)) (length r.values) e h
