-- What is kept under a key.
use Rattle.std.proofs.Common.{◌≡◌, ℕ, Bool, true, false, cond, eqb, List, [], ◌∷◌, ◌++◌, Some, refl, sym, subst}
use Rattle.std.proofs.lemmas.Bool.{eqb-true}
use Rattle.std.specs.List.{AllByRecursion}
use Rattle.std.specs.Map.{lookup}

module _ {X V : Type 0} (value : X → V) (P : ℕ → V → Type 0) where
  -- what a look-up finds stands there
  pub kept_at : (es : List (ℕ × X)) (k : ℕ) (x : X) → AllByRecursion (λ e. P e.0 (value e.1)) es → lookup (eqb k) es ≡ Some x → P k (value x)
  kept_at [] k x h found = absurd cc
  kept_at (e ∷ es) k x h found = by (eqb k e.0) refl found (kept_at es k x h.1)
    where
      by : (v : Bool) → eqb k e.0 ≡ v → cond v (Some e.1) (lookup (eqb k) es) ≡ Some x → (lookup (eqb k) es ≡ Some x → P k (value x)) → P k (value x)
      by true is f rest =
          let same : e.1 ≡ x = cc in
          subst (λ (y : X). P k (value y)) same (subst (λ (n : ℕ). P n (value e.1)) (sym (eqb-true k e.0 is)) h.0)
      by false is f rest = rest f

  pub kept_more : (es : List (ℕ × X)) (k : ℕ) (x : X) → AllByRecursion (λ e. P e.0 (value e.1)) es → P k (value x) → AllByRecursion (λ e. P e.0 (value e.1)) (es ++ (k, x) ∷ [])
  kept_more [] k x h p = (p, tt)
  kept_more (e ∷ es) k x h p = (h.0, kept_more es k x h.1 p)
