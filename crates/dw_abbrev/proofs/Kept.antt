-- What is kept under a key.
use Rattle.std.proofs.Common.{◌≡◌, ℕ, Bool, true, false, cond, eqb, List, [], ◌∷◌, Some, refl, sym, subst}
use Rattle.std.proofs.lemmas.Bool.{eqb-true}
use Rattle.std.specs.List.{AllByRecursion}
use Rattle.std.specs.Map.{lookup}
use Rattle.indexmap.specs.IndexMap.{insert_entry}

module _ {X V : Type 0} (value : X → V) (P : ℕ → V → Type 0) where
  -- what a look-up finds stands there
  pub kept_at : (es : List (ℕ × X)) (k : ℕ) (x : X) → AllByRecursion (λ e. P e.0 (value e.1)) es → lookup (eqb k) es ≡ Some x → P k (value x)
  kept_at [] k x h found = absurd cc
  kept_at (e ∷ es) k x h found = by (eqb k e.0) refl found (kept_at es k x h.1)
    where
      by : (v : Bool) → eqb k e.0 ≡ v → cond v (Some e.1) (lookup (eqb k) es) ≡ Some x → (lookup (eqb k) es ≡ Some x → P k (value x)) → P k (value x)
      by true is f rest =
          let same : e.1 ≡ x = cc in
          subst (λ (y : X). P k (value y)) same (subst (λ (n : ℕ). P n (value e.1)) (sym (eqb-true k e.0 is)) h.0)
      by false is f rest = rest f

  -- and what is put there in its place, or behind all others, too
  pub kept_put : (es : List (ℕ × X)) (k : ℕ) (x : X) → AllByRecursion (λ e. P e.0 (value e.1)) es → P k (value x) → AllByRecursion (λ e. P e.0 (value e.1)) (insert_entry eqb es k x)
  kept_put [] k x h p = (p, tt)
  kept_put (e ∷ es) k x h p = by (eqb k e.0) refl (kept_put es k x h.1 p)
    where
      by : (v : Bool) → eqb k e.0 ≡ v → AllByRecursion (λ e. P e.0 (value e.1)) (insert_entry eqb es k x) → AllByRecursion (λ e. P e.0 (value e.1)) (cond v ((e.0, x) ∷ es) (e ∷ insert_entry eqb es k x))
      by true is rest = (subst (λ (n : ℕ). P n (value x)) (eqb-true k e.0 is) p, h.1)
      by false is rest = (h.0, rest)
