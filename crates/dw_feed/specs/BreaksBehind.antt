-- Where a break is also one of another part, behind the same bytes, and behind one more item of a list.
use Rattle.std.proofs.Common.{◌≡◌, ℕ, ◌-◌, List, [], ◌∷◌, ◌++◌, length, sym, subst, arith, Bool}
use Rattle.dw_leb.specs.declared.errors.Reason.{Reason}
use Rattle.dw_leb.specs.Part.{Breaks, Part, After}
use Rattle.dw_leb.specs.Repeat.{item_bytes, ItemFits, BreaksBehind, repeated}

-- where the first breaks, the second breaks so
abbrev pub AlsoBreaks : Breaks → Breaks → Type 0
AlsoBreaks P Q =
    (bytes : List ℕ) (lim offset : ℕ) (reason : Reason) → P bytes lim offset reason → Q bytes lim offset reason

pub After_map : (s : List ℕ) (P Q : Breaks) → AlsoBreaks P Q → AlsoBreaks (After s P) (After s Q)
After_map s P Q it bytes lim offset reason h =
    record {
      rest = h.rest;
      own = h.own;
      split = h.split;
      within = h.within;
      sum = h.sum;
      breaks = it h.rest (lim - length s) h.own reason h.breaks;
    }

-- behind nothing
pub After_nil : (P : Breaks) → AlsoBreaks (After [] P) P
After_nil P bytes lim offset reason h =
    let e : offset ≡ h.own = omega (arith, h.sum) in
    let l : lim - 0 ≡ lim = omega arith in
    subst (λ (b : List ℕ). P b lim offset reason) (sym h.split)
    (subst (λ (n : ℕ). P h.rest lim n reason) (sym e) (subst (λ (n : ℕ). P h.rest n h.own reason) l h.breaks))

-- behind the same bytes
pub After_same : (s t : List ℕ) (P : Breaks) → s ≡ t → AlsoBreaks (After s P) (After t P)
After_same s t P e bytes lim offset reason h = subst (λ (b : List ℕ). After b P bytes lim offset reason) e h

module _ {H B : Type 0} (head : Part H) (ends : H → Bool) (body : H → Part B) where
  -- a head that doesn't hang on the items before it breaks so whatever these are
  pub behind_any : (a b xs : List (H × B))
      → AlsoBreaks (BreaksBehind (λ _. head) ends body a xs) (BreaksBehind (λ _. head) ends body b xs)
  behind_any a b [] bytes lim offset reason h = h
  behind_any a b (x ∷ xs) bytes lim offset reason h = (
    h.0,
    After_map (item_bytes (λ _. head) ends body b x) _ _ (behind_any (a ++ x ∷ []) (b ++ x ∷ []) xs) bytes lim
        offset reason h.1,
  )

  -- one item more in front
  pub behind_item : (x : H × B) → ItemFits (λ _. head) ends body [] x
      → AlsoBreaks (After (item_bytes (λ _. head) ends body [] x) (repeated (λ _. head) ends body).Break)
      (repeated (λ _. head) ends body).Break
  behind_item x fits bytes lim offset reason h = (
    x ∷ h.breaks.0,
    (
      fits,
      record {
        rest = h.rest;
        own = h.own;
        split = h.split;
        within = h.within;
        sum = h.sum;
        breaks = behind_any [] ([] ++ x ∷ []) h.breaks.0 h.rest
            (lim - length (item_bytes (λ _. head) ends body [] x)) h.own reason h.breaks.1;
      },
    ),
  )
