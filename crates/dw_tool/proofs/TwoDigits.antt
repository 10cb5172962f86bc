-- The two hexadecimal digits of each byte, as they stand in a table.
use Rattle.std.proofs.Common.{◌≡◌, ◌<◌, ◌+◌, ◌*◌, ◌/◌, ◌%◌, ◌==◌, ◌∷◌, [], ℕ, zero, suc, Bool, true, false, List, inl, inr, arith, codes, refl, subst}
use Rattle.std.specs.Prelude.{slice_index_or, ◌&&◌}
use Rattle.std.specs.Fmt.{digit_glyph}
use Rattle.std.proofs.lemmas.Bool.{cases_lt}
use Rattle.std.proofs.lemmas.Bool.Decides.{Decides-eqb}
use Rattle.dw_tool.specs.Text.{two_digits}

abbrev pub table : List ℕ
table = codes "000102030405060708090a0b0c0d0e0f101112131415161718191a1b1c1d1e1f202122232425262728292a2b2c2d2e2f303132333435363738393a3b3c3d3e3f404142434445464748494a4b4c4d4e4f505152535455565758595a5b5c5d5e5f606162636465666768696a6b6c6d6e6f707172737475767778797a7b7c7d7e7f808182838485868788898a8b8c8d8e8f909192939495969798999a9b9c9d9e9fa0a1a2a3a4a5a6a7a8a9aaabacadaeafb0b1b2b3b4b5b6b7b8b9babbbcbdbebfc0c1c2c3c4c5c6c7c8c9cacbcccdcecfd0d1d2d3d4d5d6d7d8d9dadbdcdddedfe0e1e2e3e4e5e6e7e8e9eaebecedeeeff0f1f2f3f4f5f6f7f8f9fafbfcfdfeff"

-- a byte has its digits there
abbrev right : ℕ → Bool
right b = slice_index_or table (2 * b) 0 == digit_glyph false (b / 16) && slice_index_or table (2 * b + 1) 0 == digit_glyph false (b % 16)

abbrev all_right : ℕ → Bool
all_right zero = true
all_right (suc n) = right n && all_right n

both_true : (a b : Bool) → (a && b) ≡ true → (a ≡ true) × (b ≡ true)
both_true true b e = (refl, e)
both_true false b e = cc

is_right : (n b : ℕ) → b < n → all_right n ≡ true → right b ≡ true
is_right zero b lt all = absurd (omega (arith, lt))
is_right (suc n) b lt all = elim (cases_lt b n) [
  | inl l ↦ is_right n b l (both_true (right n) (all_right n) all).1
  | inr l ↦ let same : n ≡ b = omega (arith, lt, l) in subst (λ (m : ℕ). right m ≡ true) same (both_true (right n) (all_right n) all).0
]

pub digits_there : (b : ℕ) → b < 256 → slice_index_or table (2 * b) 0 ∷ slice_index_or table (2 * b + 1) 0 ∷ [] ≡ two_digits b
digits_there b lt =
    let both = both_true _ _ (is_right 256 b lt refl) in
    let first : slice_index_or table (2 * b) 0 ≡ digit_glyph false (b / 16) = (Decides-eqb (slice_index_or table (2 * b) 0) (digit_glyph false (b / 16))).0 both.0 in
    let second : slice_index_or table (2 * b + 1) 0 ≡ digit_glyph false (b % 16) = (Decides-eqb (slice_index_or table (2 * b + 1) 0) (digit_glyph false (b % 16))).0 both.1 in
    rw (first, second) refl
