-- Behind the last zero byte no offset has a text, and each before it has one.
use Rattle.std.proofs.Common.{◌≡◌, ◌∙◌, ℕ, ◌+◌, ◌<◌, Bool, true, false, List, length, drop, None, Some, refl, sym, inl, inr, arith}
use Rattle.std.specs.Prelude.{nat_le, Err, if◌then◌else◌}
use Rattle.std.proofs.lemmas.Bool.{cases_lt, le-leb, lt-leb}
use Rattle.memchr.specs.Find.{IsLastByte, is_byte}
use Rattle.dw_leb.specs.ReadNumber.{before_zero}
use Rattle.dw_strings.specs.declared.fault.StrFault.TheVariants.{PastSection}
use Rattle.dw_strings.specs.LastZero.{none_from, zero_from}
use Rattle.dw_strings.specs.Text.{text_at, unless_ended}
use Rattle.dw_check.specs.Ends.{IsEnd}
use Rattle.dw_check.specs.Findings.{is_unreadable}

-- ---- texts

no_text : (xs : List ℕ) (offset : ℕ) → before_zero (drop offset xs) ≡ None → is_unreadable (text_at xs offset) ≡ true
no_text xs offset none = by (nat_le (length xs) offset)
  where
    by : (v : Bool) → is_unreadable (if v then Err PastSection else unless_ended (before_zero (drop offset xs))) ≡ true
    by true = refl
    by false = rw none refl

some_text : (xs : List ℕ) (offset : ℕ) (text : List ℕ) → offset < length xs → before_zero (drop offset xs) ≡ Some text → is_unreadable (text_at xs offset) ≡ false
some_text xs offset text inside is = rw (lt-leb (length xs) offset inside, is) refl

pub end_is : (xs : List ℕ) (last : ℕ) → IsLastByte (is_byte 0) xs (Some last) → IsEnd xs (last + 1)
end_is xs last h offset = elim (cases_lt last offset) [
  | inl behind ↦ no_text xs offset (none_from xs offset (λ k from below. h.0.after k (omega (arith, behind, from)) below)) ∙ sym (le-leb (last + 1) offset (omega (arith, behind)))
  | inr before ↦
      let high = h.0.high in
      let text = zero_from xs last offset high h.1 before in
      some_text xs offset text.0 (omega (arith, before, high)) text.1 ∙ sym (lt-leb (last + 1) offset (omega (arith, before)))
]

pub no_end : (xs : List ℕ) → IsLastByte (is_byte 0) xs None → IsEnd xs 0
no_end xs h offset = no_text xs offset (none_from xs offset (λ k from below. h k (omega arith) below)) ∙ sym (le-leb 0 offset (omega arith))
