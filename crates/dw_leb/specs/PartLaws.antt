-- The laws that follow for a part that a reader decides, and breaks that stay whatever bytes follow.
use Rattle.std.proofs.Common.{Bool, true, false, ◌≡◌, ◌≢◌, ℕ, ◌+◌, ◌-◌, ◌≤◌, List, ◌++◌, length, drop, Option, refl, sym, ap, ◌∙◌, append_assoc, arith, inl, inr}
use Rattle.std.proofs.lemmas.List.{drop_at}
use Rattle.dw_leb.specs.Part.{Reason, Truncated, Breaks, Part, After, Refused, ◌then◌, judged, whole, nothing, refused, optional}
use Rattle.dw_leb.specs.Reader.{Reader}
use Rattle.dw_leb.specs.Decide.{Decides, found, found_value, broken_value, found_broken}

module _ {X : Type 0} (P : Part X) (R : Reader X) (it : Decides P R) where
  -- no spelling begins another, and each value has one
  pub one_front : (x y : X) (a b : List ℕ) → P.Fits x → P.Fits y → P.spell x ++ a ≡ P.spell y ++ b → (x ≡ y) × (a ≡ b)
  one_front x y a b p q e =
      let m : ℕ = length (P.spell x) + length (P.spell y) in
      let both : found x (length (P.spell x)) ≡ found y (length (P.spell y)) =
      sym (it.takes x a m p (omega arith)) ∙ ap (λ (s : List ℕ). R s m) e ∙ it.takes y b m q (omega arith) in
      let same = found_value x y (length (P.spell x)) (length (P.spell y)) both in (
        same.0,
        sym (drop_at (P.spell x) a (length (P.spell x)) refl) ∙ ap (drop (length (P.spell x))) e
            ∙ drop_at (P.spell y) b (length (P.spell x)) (sym same.1),
      )

  -- bytes that are spelled at the front don't break
  pub no_break : (x : X) (rest : List ℕ) (lim offset : ℕ) (reason : Reason) → P.Fits x → length (P.spell x) ≤ lim
      → P.Break (P.spell x ++ rest) lim offset reason → ⊥
  no_break x rest lim offset reason fits within h =
      found_broken X x (length (P.spell x)) offset reason
      (sym (it.takes x rest lim fits within) ∙ it.faults (P.spell x ++ rest) lim offset reason h)

  -- bytes break at one place, for one reason
  pub one_break : (bytes : List ℕ) (lim m n : ℕ) (r s : Reason) → P.Break bytes lim m r → P.Break bytes lim n s
      → (m ≡ n) × (r ≡ s)
  one_break bytes lim m n r s h g = broken_value X m n r s (sym (it.faults bytes lim m r h) ∙ it.faults bytes lim n s g)

-- a break whose reason isn't Truncated stays whatever bytes follow
abbrev pub Stays : Breaks → Type 0
Stays P =
    (bytes more : List ℕ) (lim offset : ℕ) (reason : Reason) → reason ≢ Truncated → P bytes lim offset reason
    → P (bytes ++ more) lim offset reason

pub After_stays : (s : List ℕ) (P : Breaks) → Stays P → Stays (After s P)
After_stays s P stays bytes more lim offset reason ne h = record {
  rest = h.rest ++ more;
  own = h.own;
  split = ap (λ (b : List ℕ). b ++ more) h.split ∙ append_assoc s h.rest more;
  within = h.within;
  sum = h.sum;
  breaks = stays h.rest more (lim - length s) h.own reason ne h.breaks;
}

pub Refused_stays : {X : Type 0} (P : Part X) (meaning : X → Option Reason) → Stays (Refused P meaning)
Refused_stays P meaning bytes more lim offset reason ne h = record {
  value = h.value;
  rest = h.rest ++ more;
  fits = h.fits;
  split = ap (λ (b : List ℕ). b ++ more) h.split ∙ append_assoc (P.spell h.value) h.rest more;
  within = h.within;
  refused = h.refused;
  here = h.here;
}

pub then_stays : {A B : Type 0} (P : Part A) (Q : A → Part B) → Stays P.Break → ((a : A) → Stays (Q a).Break)
    → Stays (P then Q).Break
then_stays P Q first second bytes more lim offset reason ne h = elim h [
  | inl one ↦ inl (first bytes more lim offset reason ne one)
  | inr two ↦ inr
      (two.0, two.1, After_stays (P.spell two.0) (Q two.0).Break (second two.0) bytes more lim offset reason ne two.2)
]

pub judged_stays : {X : Type 0} (P : Part X) (meaning : X → Option Reason) → Stays P.Break
    → Stays (judged P meaning).Break
judged_stays P meaning stays bytes more lim offset reason ne h = elim h [
  | inl one ↦ inl (stays bytes more lim offset reason ne one)
  | inr two ↦ inr (Refused_stays P meaning bytes more lim offset reason ne two)
]

pub whole_stays : {X : Type 0} (P : Part X) → Stays P.Break → Stays (whole P).Break
whole_stays P stays bytes more lim offset reason ne h = (h.0, h.1, stays bytes more lim h.1 reason ne h.2)

pub nothing_stays : Stays nothing.Break
nothing_stays bytes more lim offset reason ne h = h

pub refused_stays : (X : Type 0) (why : Reason) → Stays (refused {X = X} why).Break
refused_stays X why bytes more lim offset reason ne h = h

pub optional_stays : {A : Type 0} (b : Bool) (P : Part A) → Stays P.Break → Stays (optional b P).Break
optional_stays true P it = it
optional_stays false P it = nothing_stays
