-- The hexadecimal digits of a number.
use Rattle.std.proofs.Common.{◌≡◌, ◌∙◌, ℕ, zero, suc, ◌+◌, ◌*◌, ◌-◌, ◌/◌, ◌%◌, ◌^◌, ◌<◌, ◌≤◌, Bool, false, List, [], ◌∷◌, ◌++◌, take, inl, inr, refl, sym, subst, ap, append_assoc, arith}
use Rattle.std.specs.Prelude.{cond, max}
use Rattle.std.proofs.Math.Nat.{le-max_left, max-eq_left, max-le, pow-le-pow_right, pow-succ'}
use Rattle.std.proofs.lemmas.Nat.{pow-add}
use Rattle.std.specs.Fmt.{digits, digits_onto, digit_glyph}
use Rattle.std.proofs.lemmas.Bool.{cases_lt}
use borrow.Author.Tests.{eq-eqb, ne_eqb}
use Rattle.dw_tool.specs.Text.{eight_digits, four_digits}

abbrev spell : ℕ → ℕ → List ℕ → List ℕ
spell k n acc = digits_onto k 16 false n acc

abbrev last : ℕ → ℕ
last n = digit_glyph false (n % 16)

spell_last : (k n : ℕ) (acc : List ℕ) → n < 16 → spell (suc k) n acc ≡ last n ∷ acc
spell_last k n acc h = ap (λ (t : Bool). cond t (last n ∷ acc) (spell k (n / 16) (last n ∷ acc))) (eq-eqb (n / 16) 0 (omega arith))

spell_next : (k n : ℕ) (acc : List ℕ) → 16 ≤ n → spell (suc k) n acc ≡ spell k (n / 16) (last n ∷ acc)
spell_next k n acc h = ap (λ (t : Bool). cond t (last n ∷ acc) (spell k (n / 16) (last n ∷ acc))) (ne_eqb (n / 16) 0 (λ e. omega arith))

spell-append : (k n : ℕ) (acc : List ℕ) → spell k n acc ≡ spell k n [] ++ acc
spell-append zero n acc = refl
spell-append (suc k) n acc = elim (cases_lt n 16) [
  | inl l ↦ spell_last k n acc l ∙ ap (λ (x : List ℕ). x ++ acc) (sym (spell_last k n [] l))
  | inr l ↦ spell_next k n acc l ∙ spell-append k (n / 16) (last n ∷ acc) ∙ sym (append_assoc (spell k (n / 16) []) (last n ∷ []) acc) ∙ ap (λ (x : List ℕ). x ++ acc) (sym (spell_next k n [] l ∙ spell-append k (n / 16) (last n ∷ [])))
]

spell_enough : (j k n : ℕ) (acc : List ℕ) → n < 16 ^ suc j → n < 16 ^ suc k → spell (suc j) n acc ≡ spell (suc k) n acc
spell_enough zero k n acc p q = spell_last zero n acc (omega arith) ∙ sym (spell_last k n acc (omega arith))
spell_enough (suc j) zero n acc p q = spell_last (suc j) n acc (omega arith) ∙ sym (spell_last zero n acc (omega arith))
spell_enough (suc j) (suc k) n acc p q = elim (cases_lt n 16) [
  | inl l ↦ spell_last (suc j) n acc l ∙ sym (spell_last (suc k) n acc l)
  | inr l ↦ spell_next (suc j) n acc l ∙ spell_enough j k (n / 16) (last n ∷ acc) (omega arith) (omega arith) ∙ sym (spell_next (suc k) n acc l)
]

digits_onto-nil : (n : ℕ) → spell 64 n [] ≡ digits 16 false n
unfolding digits
digits_onto-nil n = refl

-- the digits of a number are those of its sixteenth, and one more
pub hexadecimal_more : (n : ℕ) → 16 ≤ n → n < 2 ^ 128 → digits 16 false n ≡ digits 16 false (n / 16) ++ digit_glyph false (n % 16) ∷ []
hexadecimal_more n h small =
    sym (digits_onto-nil n) ∙ spell_next 63 n [] h ∙ spell_enough 62 63 (n / 16) (last n ∷ []) (omega arith) (omega arith) ∙ spell-append 64 (n / 16) (last n ∷ [])
    ∙ ap (λ (x : List ℕ). x ++ last n ∷ []) (digits_onto-nil (n / 16))

pub hexadecimal_one : (n : ℕ) → n < 16 → digits 16 false n ≡ last n ∷ []
hexadecimal_one n h = sym (digits_onto-nil n) ∙ spell_last 63 n [] h

pub hexadecimal_two : (n : ℕ) → 16 ≤ n → n < 16 ^ 2 → digits 16 false n ≡ last (n / 16) ∷ last n ∷ []
hexadecimal_two n h small = hexadecimal_more n h (omega arith) ∙ ap (λ (t : List ℕ). t ++ last n ∷ []) (hexadecimal_one (n / 16) (omega arith))

pub hexadecimal_three : (n : ℕ) → 16 ^ 2 ≤ n → n < 16 ^ 3 → digits 16 false n ≡ last (n / 16 ^ 2) ∷ last (n / 16) ∷ last n ∷ []
hexadecimal_three n h small =
    let e : n / 16 / 16 ≡ n / 16 ^ 2 = omega arith in
    hexadecimal_more n (omega arith) (omega arith) ∙ ap (λ (t : List ℕ). t ++ last n ∷ []) (hexadecimal_two (n / 16) (omega arith) (omega arith))
    ∙ ap (λ (k : ℕ). last k ∷ last (n / 16) ∷ last n ∷ []) e

pub hexadecimal_four : (n : ℕ) → 16 ^ 3 ≤ n → n < 16 ^ 4 → digits 16 false n ≡ four_digits n
hexadecimal_four n h small =
    let e2 : n / 16 / 16 ≡ n / 16 ^ 2 = omega arith in
    let e3 : n / 16 / 16 ^ 2 ≡ n / 16 ^ 3 = omega arith in
    hexadecimal_more n (omega arith) (omega arith) ∙ ap (λ (t : List ℕ). t ++ last n ∷ []) (hexadecimal_three (n / 16) (omega arith) (omega arith))
    ∙ ap (λ (k : ℕ). last k ∷ last (n / 16 / 16) ∷ last (n / 16) ∷ last n ∷ []) e3 ∙ ap (λ (k : ℕ). last (n / 16 ^ 3) ∷ last k ∷ last (n / 16) ∷ last n ∷ []) e2

-- four digits more
pub hexadecimal_behind : (n : ℕ) → 16 ^ 4 ≤ n → n < 2 ^ 128 → digits 16 false n ≡ digits 16 false (n / 16 ^ 4) ++ four_digits (n % 16 ^ 4)
hexadecimal_behind n h small =
    let one : List ℕ = last n ∷ [] in
    let two : List ℕ = last (n / 16) ∷ one in
    let three : List ℕ = last (n / 16 ^ 2) ∷ two in
    let m : ℕ = n % 16 ^ 4 in
    let e2 : n / 16 / 16 ≡ n / 16 ^ 2 = omega arith in
    let e3 : n / 16 ^ 2 / 16 ≡ n / 16 ^ 3 = omega arith in
    let e4 : n / 16 ^ 3 / 16 ≡ n / 16 ^ 4 = omega arith in
    let d1 : n % 16 ≡ m % 16 = omega arith in
    let d2 : n / 16 % 16 ≡ m / 16 % 16 = omega arith in
    let d3 : n / 16 ^ 2 % 16 ≡ m / 16 ^ 2 % 16 = omega arith in
    let d4 : n / 16 ^ 3 % 16 ≡ m / 16 ^ 3 % 16 = omega arith in
    let s1 : digits 16 false n ≡ digits 16 false (n / 16) ++ one = hexadecimal_more n (omega arith) small in
    let s2 : digits 16 false (n / 16) ≡ digits 16 false (n / 16 ^ 2) ++ last (n / 16) ∷ [] = subst (λ (k : ℕ). digits 16 false (n / 16) ≡ digits 16 false k ++ last (n / 16) ∷ []) e2 (hexadecimal_more (n / 16) (omega arith) (omega arith)) in
    let s3 : digits 16 false (n / 16 ^ 2) ≡ digits 16 false (n / 16 ^ 3) ++ last (n / 16 ^ 2) ∷ [] = subst (λ (k : ℕ). digits 16 false (n / 16 ^ 2) ≡ digits 16 false k ++ last (n / 16 ^ 2) ∷ []) e3 (hexadecimal_more (n / 16 ^ 2) (omega arith) (omega arith)) in
    let s4 : digits 16 false (n / 16 ^ 3) ≡ digits 16 false (n / 16 ^ 4) ++ last (n / 16 ^ 3) ∷ [] = subst (λ (k : ℕ). digits 16 false (n / 16 ^ 3) ≡ digits 16 false k ++ last (n / 16 ^ 3) ∷ []) e4 (hexadecimal_more (n / 16 ^ 3) (omega arith) (omega arith)) in
    s1 ∙ ap (λ (t : List ℕ). t ++ one) s2 ∙ append_assoc (digits 16 false (n / 16 ^ 2)) (last (n / 16) ∷ []) one
    ∙ ap (λ (t : List ℕ). t ++ two) s3 ∙ append_assoc (digits 16 false (n / 16 ^ 3)) (last (n / 16 ^ 2) ∷ []) two
    ∙ ap (λ (t : List ℕ). t ++ three) s4 ∙ append_assoc (digits 16 false (n / 16 ^ 4)) (last (n / 16 ^ 3) ∷ []) three
    ∙ rw (d1, d2, d3, d4) refl

-- ---- the digits moved to the front

front_1 : (n : ℕ) → n < 16 → digits 16 false n ≡ take 1 (eight_digits (n * 268435456))
front_1 n small =
    let d1 : n * 268435456 / 16 ^ 6 / 16 ≡ n % 16 = omega arith in
    hexadecimal_one n small ∙ rw d1 refl

front_2 : (n : ℕ) → 16 ^ 1 ≤ n → n < 16 ^ 2 → digits 16 false n ≡ take 2 (eight_digits (n * 16777216))
front_2 n large small =
    let d1 : n * 16777216 / 16 ^ 6 / 16 ≡ n / 16 % 16 = omega arith in
    let d2 : n * 16777216 / 16 ^ 6 % 16 ≡ n % 16 = omega arith in
    hexadecimal_two n large small ∙ rw (d1, d2) refl

front_3 : (n : ℕ) → 16 ^ 2 ≤ n → n < 16 ^ 3 → digits 16 false n ≡ take 3 (eight_digits (n * 1048576))
front_3 n large small =
    let d1 : n * 1048576 / 16 ^ 6 / 16 ≡ n / 16 ^ 2 % 16 = omega arith in
    let d2 : n * 1048576 / 16 ^ 6 % 16 ≡ n / 16 % 16 = omega arith in
    let d3 : n * 1048576 / 16 ^ 4 % 256 / 16 ≡ n % 16 = omega arith in
    hexadecimal_three n large small ∙ rw (d1, d2, d3) refl

front_4 : (n : ℕ) → 16 ^ 3 ≤ n → n < 16 ^ 4 → digits 16 false n ≡ take 4 (eight_digits (n * 65536))
front_4 n large small =
    let d1 : n * 65536 / 16 ^ 6 / 16 ≡ n / 16 ^ 3 % 16 = omega arith in
    let d2 : n * 65536 / 16 ^ 6 % 16 ≡ n / 16 ^ 2 % 16 = omega arith in
    let d3 : n * 65536 / 16 ^ 4 % 256 / 16 ≡ n / 16 % 16 = omega arith in
    let d4 : n * 65536 / 16 ^ 4 % 256 % 16 ≡ n % 16 = omega arith in
    hexadecimal_four n large small ∙ rw (d1, d2, d3, d4) refl

front_5 : (n : ℕ) → 16 ^ 4 ≤ n → n < 16 ^ 5 → digits 16 false n ≡ take 5 (eight_digits (n * 4096))
front_5 n large small =
    let d1 : n * 4096 / 16 ^ 6 / 16 ≡ (n / 16 ^ 4) % 16 = omega arith in
    let d2 : n * 4096 / 16 ^ 6 % 16 ≡ (n % 16 ^ 4) / 16 ^ 3 % 16 = omega arith in
    let d3 : n * 4096 / 16 ^ 4 % 256 / 16 ≡ (n % 16 ^ 4) / 16 ^ 2 % 16 = omega arith in
    let d4 : n * 4096 / 16 ^ 4 % 256 % 16 ≡ (n % 16 ^ 4) / 16 % 16 = omega arith in
    let d5 : n * 4096 / 256 % 256 / 16 ≡ (n % 16 ^ 4) % 16 = omega arith in
    hexadecimal_behind n (omega arith) (omega arith) ∙ ap (λ (t : List ℕ). t ++ four_digits (n % 16 ^ 4)) (hexadecimal_one (n / 16 ^ 4) (omega arith)) ∙ rw (d1, d2, d3, d4, d5) refl

front_6 : (n : ℕ) → 16 ^ 5 ≤ n → n < 16 ^ 6 → digits 16 false n ≡ take 6 (eight_digits (n * 256))
front_6 n large small =
    let d1 : n * 256 / 16 ^ 6 / 16 ≡ (n / 16 ^ 4) / 16 % 16 = omega arith in
    let d2 : n * 256 / 16 ^ 6 % 16 ≡ (n / 16 ^ 4) % 16 = omega arith in
    let d3 : n * 256 / 16 ^ 4 % 256 / 16 ≡ (n % 16 ^ 4) / 16 ^ 3 % 16 = omega arith in
    let d4 : n * 256 / 16 ^ 4 % 256 % 16 ≡ (n % 16 ^ 4) / 16 ^ 2 % 16 = omega arith in
    let d5 : n * 256 / 256 % 256 / 16 ≡ (n % 16 ^ 4) / 16 % 16 = omega arith in
    let d6 : n * 256 / 256 % 256 % 16 ≡ (n % 16 ^ 4) % 16 = omega arith in
    hexadecimal_behind n (omega arith) (omega arith) ∙ ap (λ (t : List ℕ). t ++ four_digits (n % 16 ^ 4)) (hexadecimal_two (n / 16 ^ 4) (omega arith) (omega arith)) ∙ rw (d1, d2, d3, d4, d5, d6) refl

front_7 : (n : ℕ) → 16 ^ 6 ≤ n → n < 16 ^ 7 → digits 16 false n ≡ take 7 (eight_digits (n * 16))
front_7 n large small =
    let d1 : n * 16 / 16 ^ 6 / 16 ≡ (n / 16 ^ 4) / 16 ^ 2 % 16 = omega arith in
    let d2 : n * 16 / 16 ^ 6 % 16 ≡ (n / 16 ^ 4) / 16 % 16 = omega arith in
    let d3 : n * 16 / 16 ^ 4 % 256 / 16 ≡ (n / 16 ^ 4) % 16 = omega arith in
    let d4 : n * 16 / 16 ^ 4 % 256 % 16 ≡ (n % 16 ^ 4) / 16 ^ 3 % 16 = omega arith in
    let d5 : n * 16 / 256 % 256 / 16 ≡ (n % 16 ^ 4) / 16 ^ 2 % 16 = omega arith in
    let d6 : n * 16 / 256 % 256 % 16 ≡ (n % 16 ^ 4) / 16 % 16 = omega arith in
    let d7 : n * 16 % 256 / 16 ≡ (n % 16 ^ 4) % 16 = omega arith in
    hexadecimal_behind n (omega arith) (omega arith) ∙ ap (λ (t : List ℕ). t ++ four_digits (n % 16 ^ 4)) (hexadecimal_three (n / 16 ^ 4) (omega arith) (omega arith)) ∙ rw (d1, d2, d3, d4, d5, d6, d7) refl

front_8 : (n : ℕ) → 16 ^ 7 ≤ n → n < 16 ^ 8 → digits 16 false n ≡ take 8 (eight_digits (n))
front_8 n large small =
    let d1 : n / 16 ^ 6 / 16 ≡ (n / 16 ^ 4) / 16 ^ 3 % 16 = omega arith in
    let d2 : n / 16 ^ 6 % 16 ≡ (n / 16 ^ 4) / 16 ^ 2 % 16 = omega arith in
    let d3 : n / 16 ^ 4 % 256 / 16 ≡ (n / 16 ^ 4) / 16 % 16 = omega arith in
    let d4 : n / 16 ^ 4 % 256 % 16 ≡ (n / 16 ^ 4) % 16 = omega arith in
    let d5 : n / 256 % 256 / 16 ≡ (n % 16 ^ 4) / 16 ^ 3 % 16 = omega arith in
    let d6 : n / 256 % 256 % 16 ≡ (n % 16 ^ 4) / 16 ^ 2 % 16 = omega arith in
    let d7 : n % 256 / 16 ≡ (n % 16 ^ 4) / 16 % 16 = omega arith in
    let d8 : n % 256 % 16 ≡ (n % 16 ^ 4) % 16 = omega arith in
    hexadecimal_behind n (omega arith) (omega arith) ∙ ap (λ (t : List ℕ). t ++ four_digits (n % 16 ^ 4)) (hexadecimal_four (n / 16 ^ 4) (omega arith) (omega arith)) ∙ rw (d1, d2, d3, d4, d5, d6, d7, d8) refl

-- of a number with that many digits, moved by the places that it doesn't need
pub shifted_digits : (count n : ℕ) → 1 ≤ count → count ≤ 8 → n < 16 ^ count → (1 < count → 16 ^ (count - 1) ≤ n) → digits 16 false n ≡ take count (eight_digits (n * 2 ^ (32 - 4 * count) % 4294967296))
shifted_digits zero n some few within all = absurd (omega (arith, some))
shifted_digits (suc zero) n some few within all =
    let whole : n * 268435456 ≡ n * 268435456 % 4294967296 = omega (arith, within) in
    front_1 n within ∙ ap (λ (m : ℕ). take 1 (eight_digits m)) whole
shifted_digits (suc (suc zero)) n some few within all =
    let whole : n * 16777216 ≡ n * 16777216 % 4294967296 = omega (arith, within) in
    front_2 n (all (omega arith)) within ∙ ap (λ (m : ℕ). take 2 (eight_digits m)) whole
shifted_digits (suc (suc (suc zero))) n some few within all =
    let whole : n * 1048576 ≡ n * 1048576 % 4294967296 = omega (arith, within) in
    front_3 n (all (omega arith)) within ∙ ap (λ (m : ℕ). take 3 (eight_digits m)) whole
shifted_digits (suc (suc (suc (suc zero)))) n some few within all =
    let whole : n * 65536 ≡ n * 65536 % 4294967296 = omega (arith, within) in
    front_4 n (all (omega arith)) within ∙ ap (λ (m : ℕ). take 4 (eight_digits m)) whole
shifted_digits (suc (suc (suc (suc (suc zero))))) n some few within all =
    let whole : n * 4096 ≡ n * 4096 % 4294967296 = omega (arith, within) in
    front_5 n (all (omega arith)) within ∙ ap (λ (m : ℕ). take 5 (eight_digits m)) whole
shifted_digits (suc (suc (suc (suc (suc (suc zero)))))) n some few within all =
    let whole : n * 256 ≡ n * 256 % 4294967296 = omega (arith, within) in
    front_6 n (all (omega arith)) within ∙ ap (λ (m : ℕ). take 6 (eight_digits m)) whole
shifted_digits (suc (suc (suc (suc (suc (suc (suc zero))))))) n some few within all =
    let whole : n * 16 ≡ n * 16 % 4294967296 = omega (arith, within) in
    front_7 n (all (omega arith)) within ∙ ap (λ (m : ℕ). take 7 (eight_digits m)) whole
shifted_digits (suc (suc (suc (suc (suc (suc (suc (suc zero)))))))) n some few within all =
    let whole : n ≡ n * 1 % 4294967296 = omega (arith, within) in
    front_8 n (all (omega arith)) within ∙ ap (λ (m : ℕ). take 8 (eight_digits m)) whole
shifted_digits (suc (suc (suc (suc (suc (suc (suc (suc (suc k))))))))) n some few within all = absurd (omega (arith, few))

-- ---- how many there are

power_of_sixteen : (k : ℕ) → 16 ^ k ≡ 2 ^ (4 * k)
power_of_sixteen zero = refl
power_of_sixteen (suc k) =
    let four : 4 * suc k ≡ 4 + 4 * k = omega arith in
    pow-succ' 16 k ∙ ap (λ (t : ℕ). 16 * t) (power_of_sixteen k) ∙ sym (pow-add 2 4 (4 * k)) ∙ ap (λ (t : ℕ). 2 ^ t) (sym four)

-- a number whose first binary digit is the one of the power r
pub within_digits : (n r : ℕ) → max n 1 < 2 * 2 ^ r → n < 16 ^ (r / 4 + 1)
within_digits n r h =
    let least : 2 ^ suc r ≤ 2 ^ (4 * (r / 4 + 1)) = pow-le-pow_right (omega arith) (omega arith) in
    omega (arith, h, le-max_left n 1, pow-succ' 2 r, least, power_of_sixteen (r / 4 + 1))

pub all_digits : (n r : ℕ) → 2 ^ r ≤ max n 1 → 1 < r / 4 + 1 → 16 ^ (r / 4 + 1 - 1) ≤ n
all_digits n r h more =
    let least : 2 ^ (4 * (r / 4)) ≤ 2 ^ r = pow-le-pow_right (omega arith) (omega arith) in
    let sixteen : 16 ≤ 2 ^ r = pow-le-pow_right {n = 2} (omega arith) {i = 4} {j = r} (omega (arith, more)) in
    let q : r / 4 + 1 - 1 ≡ r / 4 = omega arith in
    let big : max n 1 ≤ n = elim (cases_lt n 2) [
      | inl l ↦ absurd (omega (arith, max-le {a = n} {b = 1} {k = 1} (omega arith) (omega arith), h, sixteen))
      | inr l ↦ omega (arith, max-eq_left {n = n} {m = 1} (omega arith))
    ] in
    subst (λ (k : ℕ). 16 ^ k ≤ n) (sym q) (omega (arith, big, h, least, power_of_sixteen (r / 4)))
