-- The first zero byte.
use Rattle.std.proofs.Common.{◌≡◌, ◌<◌, ℕ, zero, suc, Bool, true, false, List, [], ◌∷◌, ◌++◌, length, take, drop, Option, None, Some, refl, sym, ap, subst, ◌∙◌, append_assoc, arith, take-append-drop}
use Rattle.std.specs.Prelude.{◌==◌}
use Rattle.std.proofs.lemmas.Bool.{eqb-true}
use Rattle.std.proofs.lemmas.List.{length-take-le, take_at}
use Rattle.memchr.specs.Find.{IsFirstByte, is_byte}
use Rattle.dw_feed.specs.ContentSteps.{HasNoZero, ZeroIn}

not_true : (v : Bool) → ¬ (v ≡ true) → v ≡ false
not_true true h = absurd (h refl)
not_true false h = refl

pub first_zero : (xs : List ℕ) (r : Option ℕ) → IsFirstByte (is_byte 0) xs r → ZeroIn xs r
first_zero [] None h = tt
first_zero [] (Some k) h = let high = h.0.high in absurd (omega (arith, high))
first_zero (x ∷ xs) None h =
    (not_true (x == 0) (h 0 (omega arith) (omega arith)), first_zero xs None (λ k low high. h (suc k) (omega arith) (omega (arith, high))))
first_zero (x ∷ xs) (Some zero) h = (tt, xs, ap (λ (b : ℕ). b ∷ xs) (eqb-true x 0 h.1))
first_zero (x ∷ xs) (Some (suc k)) h =
    let high = h.0.high in
    let behind : ZeroIn xs (Some k) = first_zero xs (Some k) (record { low = omega arith; high = omega (arith, high); before = λ j low below. h.0.before (suc j) (omega arith) (omega (arith, below)) }, h.1) in
    ((not_true (x == 0) (h.0.before 0 (omega arith) (omega arith)), behind.0), behind.1, ap (λ (bs : List ℕ). x ∷ bs) behind.2)

-- what is found in a front of the bytes is found in them
pub zero_splits : (bytes : List ℕ) (m n : ℕ) → ZeroIn (take m bytes) (Some n) → n < length (take m bytes) → HasNoZero (take n bytes) × (rest : List ℕ) × (bytes ≡ take n bytes ++ (0 ∷ rest))
zero_splits bytes m n h within =
    let xs : List ℕ = take n (take m bytes) in
    let rest : List ℕ = h.1 ++ drop m bytes in
    let all : bytes ≡ xs ++ (0 ∷ rest) = sym (take-append-drop m bytes) ∙ ap (λ (bs : List ℕ). bs ++ drop m bytes) h.2 ∙ append_assoc xs (0 ∷ h.1) (drop m bytes) in
    let n_long : length xs ≡ n = length-take-le n (take m bytes) (omega (arith, within)) in
    let same : take n bytes ≡ xs = ap (take n) all ∙ take_at xs (0 ∷ rest) n n_long in
    (subst HasNoZero (sym same) h.0, rest, all ∙ ap (λ (bs : List ℕ). bs ++ (0 ∷ rest)) (sym same))
