-- Texts behind the last zero byte of a section, and before it.
use Rattle.std.specs.Prelude.{◌≡◌, ℕ, zero, suc, ◌≤◌, ◌<◌, Bool, true, false, List, [], ◌∷◌, Option, Some, None, length, drop, take, slice_index, ◌==◌, if◌then◌else◌}
use Rattle.std.proofs.Common.{refl, ap, arith}
use Rattle.dw_leb.specs.ReadNumber.{before_zero}

not_true : (v : Bool) → ¬ (v ≡ true) → v ≡ false
not_true true h = absurd (h refl)
not_true false h = refl

-- ---- no zero from an offset on

no_zero : (xs : List ℕ) → ((k : ℕ) → k < length xs → ¬ ((slice_index xs k == 0) ≡ true)) → before_zero xs ≡ None
no_zero [] h = refl
no_zero (x ∷ xs) h =
    let nonzero : (x == 0) ≡ false = not_true (x == 0) (h 0 (omega arith)) in
    let rest : before_zero xs ≡ None = no_zero xs (λ k below. h (suc k) (omega (arith, below))) in
    rw (nonzero, rest) refl

pub none_from : (xs : List ℕ) (offset : ℕ) → ((k : ℕ) → offset ≤ k → k < length xs → ¬ ((slice_index xs k == 0) ≡ true))
    → before_zero (drop offset xs) ≡ None
none_from [] zero h = refl
none_from [] (suc offset) h = refl
none_from (x ∷ xs) zero h = no_zero (x ∷ xs) (λ k below. h k (omega arith) below)
none_from (x ∷ xs) (suc offset) h =
    none_from xs offset (λ k from below. h (suc k) (omega (arith, from)) (omega (arith, below)))

-- ---- a zero at an offset or behind it

pub zero_from : (xs : List ℕ) (k offset : ℕ) → k < length xs → (slice_index xs k == 0) ≡ true → offset ≤ k
    → (text : List ℕ) × (before_zero (drop offset xs) ≡ Some text)
zero_from [] k offset below is from = absurd (omega (arith, below))
zero_from (x ∷ xs) zero zero below is from = ([], rw is refl)
zero_from (x ∷ xs) zero (suc offset) below is from = absurd (omega (arith, from))
zero_from (x ∷ xs) (suc k) (suc offset) below is from =
    zero_from xs k offset (omega (arith, below)) is (omega (arith, from))
zero_from (x ∷ xs) (suc k) zero below is from =
    by (zero_from xs k 0 (omega (arith, below)) is (omega arith)) (x == 0) refl
  where
    by : (text : List ℕ) × (before_zero xs ≡ Some text) → (v : Bool) → (x == 0) ≡ v
        → (text : List ℕ) × (before_zero (x ∷ xs) ≡ Some text)
    by rest true e = ([], rw e refl)
    by rest false e = (x ∷ rest.0, rw (e, rest.1) refl)

-- what follows the zero is not looked at
pub up_to_zero : (xs : List ℕ) (k offset : ℕ) → k < length xs → (slice_index xs k == 0) ≡ true → offset ≤ k
    → before_zero (drop offset (take (suc k) xs)) ≡ before_zero (drop offset xs)
up_to_zero [] k offset below is from = absurd (omega (arith, below))
up_to_zero (x ∷ xs) zero zero below is from = rw is refl
up_to_zero (x ∷ xs) zero (suc offset) below is from = absurd (omega (arith, from))
up_to_zero (x ∷ xs) (suc k) (suc offset) below is from =
    up_to_zero xs k offset (omega (arith, below)) is (omega (arith, from))
up_to_zero (x ∷ xs) (suc k) zero below is from =
    ap
    (λ (front : Option (List ℕ)).
    if x == 0 then Some [] else elim front [ None ↦ None | Some bytes ↦ Some (x ∷ bytes) ])
    (up_to_zero xs k 0 (omega (arith, below)) is (omega arith))
