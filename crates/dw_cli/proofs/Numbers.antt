-- What a parser of numbers says, in the words of the grammar.
use Rattle.std.proofs.Common.{◌≡◌, ◌∙◌, ℕ, zero, suc, arith, ◌<◌, ◌^◌, ◌&&◌, ◌≢◌, Bool, true, false, nat_lt, List, [], ◌∷◌, length, slice_index, Option, Some, None, Result, Ok, Err, ℤ, pos, neg_ℤ, ◌-ℤ◌, to_z, of_z, FitsSigned, refl, sym, ap, inl, inr}
use Rattle.std.specs.Int.{w128}
use Rattle.std.specs.Option.{option_and_then}
use Rattle.std.specs.Result.{OkIff, result_ok}
use Rattle.std.specs.List.{list_all}
use Rattle.std.specs.Char.{digit_value, is_digit}
use Rattle.std.specs.Str.Parse.{AllDigits, IsNumeral, digits_value, without_leading_plus}
use Rattle.std.proofs.lemmas.Bool.{ltb-true, lt-ltb}
use Rattle.std.proofs.lemmas.Bool.Decides.{eqb_tells}
use Rattle.std.proofs.lemmas.Int.{to_z-of_z}
use Rattle.std.proofs.Math.IntN.{+ℤ_idl}
use Rattle.dw_cli.specs.Words.{below, is_numeral, number_in}

both_true : (a b : Bool) → (a && b) ≡ true → (a ≡ true) × (b ≡ true)
both_true true b e = (refl, e)
both_true false b e = cc

module _ (base : ℕ) where
  digits_are : (ds : List ℕ) → list_all (λ c. is_digit c base) ds ≡ true → AllDigits base ds
  digits_are [] e = tt
  digits_are (c ∷ cs) e = let both = both_true (is_digit c base) _ e in (ltb-true (digit_value c) base both.0, digits_are cs both.1)

  are_digits : (ds : List ℕ) → AllDigits base ds → list_all (λ c. is_digit c base) ds ≡ true
  are_digits [] h = refl
  are_digits (c ∷ cs) h = rw (lt-ltb (digit_value c) base h.0) (are_digits cs h.1)

  numeral_is : (ds : List ℕ) → is_numeral base ds ≡ true → IsNumeral base ds
  numeral_is ds e = let both = both_true (nat_lt 0 (length ds)) _ e in (ltb-true 0 (length ds) both.0, digits_are ds both.1)

  is_numeral_so : (ds : List ℕ) → IsNumeral base ds → is_numeral base ds ≡ true
  is_numeral_so ds h = rw (lt-ltb 0 (length ds) h.0) (are_digits ds h.1)

  -- the parser's answer is the number of the digits, where they are digits and it is below the limit
  pub parsed : {E : Type 0} (limit : ℕ) (ds : List ℕ) (r : Result ℕ E) → OkIff r (IsNumeral base ds × (digits_value base ds < limit)) (digits_value base ds)
      → result_ok r ≡ option_and_then (below limit) (number_in base ds)
  parsed limit ds (Ok n) h = rw (is_numeral_so ds h.0.0, lt-ltb (digits_value base ds) limit h.0.1) (ap Some h.1)
  parsed limit ds (Err e) h = go (is_numeral base ds) refl (nat_lt (digits_value base ds) limit) refl
    where
      go : (t : Bool) → is_numeral base ds ≡ t → (u : Bool) → nat_lt (digits_value base ds) limit ≡ u → None ≡ option_and_then (below limit) (number_in base ds)
      go true is true small = absurd (h (numeral_is ds is, ltb-true (digits_value base ds) limit small))
      go true is false small = rw (is, small) refl
      go false is u small = rw is refl

-- the parser skips nothing where the first byte is no plus
pub kept : (ds : List ℕ) → slice_index ds 0 ≢ 43 → without_leading_plus ds ≡ ds
kept ds other = elim (eqb_tells (slice_index ds 0) 43) [
  | inl h ↦ absurd (other h.1)
  | inr h ↦ rw h.0 refl
]

-- a number below a limit is that number
below_is : (limit n m : ℕ) → Some n ≡ below limit m → n ≡ m
below_is limit n m e = go (nat_lt m limit) refl
  where
    go : (t : Bool) → nat_lt m limit ≡ t → n ≡ m
    go true is = let same : Some n ≡ Some m = rw is at e in cc
    go false is = let none : Some n ≡ None = rw is at e in cc

number_is : (limit n : ℕ) (o : Option ℕ) → Some n ≡ option_and_then (below limit) o → o ≡ Some n
number_is limit n None e = cc
number_is limit n (Some m) e = ap Some (sym (below_is limit n m e))

-- a conversion that takes numbers below a smaller limit
pub narrowed : {E : Type 0} (limit wide n : ℕ) (o : Option ℕ) (r : Result ℕ E) → Some n ≡ option_and_then (below wide) o → OkIff r (n < limit) n
    → result_ok r ≡ option_and_then (below limit) o
narrowed limit wide n o (Ok m) e h = rw (number_is wide n o e, lt-ltb n limit h.0) (ap Some h.1)
narrowed limit wide n o (Err x) e h = go (nat_lt n limit) refl
  where
    go : (t : Bool) → nat_lt n limit ≡ t → None ≡ option_and_then (below limit) o
    go true is = absurd (h (ltb-true n limit is))
    go false is = rw (number_is wide n o e, is) refl

-- a conversion to a signed number
pub signed : {E : Type 0} (n : ℕ) (v : ℤ) (o : Option ℕ) (r : Result ℤ E) → Some n ≡ option_and_then (below (2 ^ 128)) o
    → OkIff r (FitsSigned w128 (pos n)) (pos n) → Some v ≡ result_ok r → (v ≡ pos n) × (FitsSigned w128 (pos n)) × (option_and_then (below (2 ^ 127)) o ≡ Some n)
signed n v o (Ok m) e h told = let same : v ≡ m = cc in (same ∙ h.1, h.0, rw (number_is (2 ^ 128) n o e, lt-ltb n (2 ^ 127) h.0.sfits) refl)
signed n v o (Err x) e h told = cc

-- what the code computes for a value, and for its negative
pub back : (n : ℕ) → FitsSigned w128 (pos n) → to_z w128 (of_z w128 (pos n)) ≡ pos n
back n fits = to_z-of_z w128 (pos n) fits

pub negated : (n : ℕ) → FitsSigned w128 (pos n) → to_z w128 (of_z w128 (pos 0 -ℤ to_z w128 (of_z w128 (pos n)))) ≡ neg_ℤ (pos n)
negated n fits = rw (back n fits, none_less n) (to_z-of_z w128 (neg_ℤ (pos n)) (small n fits))
  where
    none_less : (n : ℕ) → pos 0 -ℤ pos n ≡ neg_ℤ (pos n)
    none_less n = +ℤ_idl (neg_ℤ (pos n))

    small : (n : ℕ) → FitsSigned w128 (pos n) → FitsSigned w128 (neg_ℤ (pos n))
    small zero f = f
    small (suc n) f = let below : suc n < 2 ^ 127 = f.sfits in record { sfits = omega arith }
