-- What is read of a section is read of its bytes up to the last zero byte.
use Rattle.std.proofs.Common.{◌≡◌, ◌∙◌, ℕ, suc, ◌+◌, ◌≤◌, ◌<◌, Bool, true, false, List, [], length, drop, take, Option, None, Some, refl, sym, ap, subst, inl, inr, arith}
use Rattle.std.specs.Prelude.{nat_le, Err, if◌then◌else◌}
use Rattle.std.proofs.lemmas.Bool.{cases_lt, le-leb, lt-leb}
use Rattle.std.proofs.lemmas.List.{length-take-le}
use Rattle.memchr.specs.Find.{IsLastByte, is_byte}
use Rattle.dw_leb.specs.ReadNumber.{before_zero}
use Rattle.dw_strings.specs.declared.fault.StrFault.TheVariants.{PastSection}
use Rattle.dw_strings.specs.LastZero.{none_from, up_to_zero}
use Rattle.dw_strings.specs.Text.{text_at, unless_ended}
use Rattle.dw_ctype.specs.SameTexts.{SameIn}
use Rattle.dw_ctype.specs.Types.{readable}

no_text : (xs : List ℕ) (offset : ℕ) → before_zero (drop offset xs) ≡ None → readable (text_at xs offset) ≡ None
no_text xs offset none = by (nat_le (length xs) offset)
  where
    by : (v : Bool) → readable (if v then Err PastSection else unless_ended (before_zero (drop offset xs))) ≡ None
    by true = refl
    by false = rw none refl

past : (xs : List ℕ) (offset : ℕ) → length xs ≤ offset → readable (text_at xs offset) ≡ None
past xs offset h = rw (le-leb (length xs) offset h) refl

inside : (xs : List ℕ) (offset : ℕ) → offset < length xs → readable (text_at xs offset) ≡ readable (unless_ended (before_zero (drop offset xs)))
inside xs offset h = rw (lt-leb (length xs) offset h) refl

up_to : (xs : List ℕ) (last : ℕ) → IsLastByte (is_byte 0) xs (Some last) → SameIn xs (take (suc last) xs)
up_to xs last h offset =
    let high = h.0.high in
    let long : length (take (suc last) xs) ≡ suc last = length-take-le (suc last) xs (omega (arith, high)) in
    elim (cases_lt last offset) [
      | inl behind ↦
          no_text xs offset (none_from xs offset (λ k from below. h.0.after k (omega (arith, behind, from)) below))
          ∙ sym (past (take (suc last) xs) offset (omega (arith, long, behind)))
      | inr before ↦
          inside xs offset (omega (arith, before, high))
          ∙ ap (λ (front : Option (List ℕ)). readable (unless_ended front)) (sym (up_to_zero xs last offset high h.1 before))
          ∙ sym (inside (take (suc last) xs) offset (omega (arith, long, before)))
    ]

pub same_up_to : (xs : List ℕ) (last : ℕ) → IsLastByte (is_byte 0) xs (Some last) → SameIn xs (take (last + 1) xs)
same_up_to xs last h = let more : suc last ≡ last + 1 = omega arith in subst (λ (count : ℕ). SameIn xs (take count xs)) more (up_to xs last h)

pub same_as_none : (xs : List ℕ) → IsLastByte (is_byte 0) xs None → SameIn xs []
same_as_none xs h offset =
    no_text xs offset (none_from xs offset (λ k from below. h k (omega arith) below))
    ∙ sym (past [] offset (omega arith))
