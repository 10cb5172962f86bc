-- The first zero byte.
use Rattle.std.proofs.Common.{◌≡◌, ℕ, zero, suc, Bool, true, false, List, [], ◌∷◌, take, Option, None, Some, refl, arith}
use Rattle.std.specs.Prelude.{◌==◌}
use Rattle.memchr.specs.Find.{IsFirstByte, is_byte}
use Rattle.dw_leb.specs.ReadNumber.{before_zero}
use Rattle.dw_form.specs.Lent.{ZeroAt}

not_true : (v : Bool) → ¬ (v ≡ true) → v ≡ false
not_true true h = absurd (h refl)
not_true false h = refl

pub first_zero : (xs : List ℕ) (r : Option ℕ) → IsFirstByte (is_byte 0) xs r → ZeroAt xs r (before_zero xs)
first_zero [] None h = refl
first_zero [] (Some k) h = let high = h.0.high in absurd (omega (arith, high))
first_zero (x ∷ xs) None h =
    let nonzero : (x == 0) ≡ false = not_true (x == 0) (h 0 (omega arith) (omega arith)) in
    let ih : before_zero xs ≡ None = first_zero xs None (λ k low high. h (suc k) (omega arith) (omega (arith, high))) in
    rw (nonzero, ih) refl
first_zero (x ∷ xs) (Some zero) h = let is : (x == 0) ≡ true = h.1 in rw is refl
first_zero (x ∷ xs) (Some (suc k)) h =
    let nonzero : (x == 0) ≡ false = not_true (x == 0) (h.0.before 0 (omega arith) (omega arith)) in
    let high = h.0.high in
    let ih : before_zero xs ≡ Some (take k xs) = first_zero xs (Some k) (record { low = omega arith; high = omega (arith, high); before = λ j low below. h.0.before (suc j) (omega arith) (omega (arith, below)) }, h.1) in
    rw (nonzero, ih) refl
