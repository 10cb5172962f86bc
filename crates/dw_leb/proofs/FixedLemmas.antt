-- Fixed numbers and lengths: what the code computes is what the plain reader reads and the grammar spells.
use Rattle.std.proofs.Common.{◌≡◌, ◌≤◌, ◌<◌, ◌+◌, ◌*◌, ◌/◌, ◌%◌, ◌^◌, ℕ, zero, suc, Bool, true, false, List, [], ◌∷◌, ◌++◌, length, take, drop, reverse, Option, Some, None, Ok, Err, Result, IfOk, refl, sym, ap, ◌∙◌, arith}
use Rattle.std.specs.Prelude.{nat_lt, nat_le, ◌==◌, if◌then◌else◌}
use Rattle.std.proofs.lemmas.Bool.{ltb-true, ltb-false, le-leb, lt-leb, eq-eqb, ne_eqb}
use Rattle.std.proofs.lemmas.List.{length-reverse, length-take-le, reverse-append}
use Rattle.std.proofs.Math.Nat.{pow-suc, div-div-eq-div-mul, div-one}
use Rattle.std.specs.Int.{byte_at, bytes_high_first, bytes_low_first}
use Rattle.byteorder.specs.Endian.{big_from, little_from}
use Rattle.byteorder.specs.Numbers.{big_from-cons, little_from-cons}
use Rattle.dw_leb.specs.Part.{Reason, PastUnit, Truncated, ReservedLength, LengthTooBig}
use Rattle.dw_leb.specs.Number.{Order, Little, Big, Format, Dwarf32, Dwarf64, digits, fixed_bytes, fixed, reserved, too_far, length_limit}
use Rattle.dw_leb.specs.Reader.{Outcome, Found, Broken, answer, mapped, paired, behind, judged_outcome, refused_if, at_front, read_optional}
use Rattle.dw_leb.specs.ReadNumber.{undigits, ordered, read_fixed, initial_from, read_length}
use Rattle.dw_leb.specs.Scan.{fixed_number, fixed_scan, fixed_cells, length_within, length_wide, length_of, length_scan}
use Rattle.dw_leb.specs.Decide.{AreBytes}
use Rattle.dw_leb.specs.Field.{found_by, small_by}
use Rattle.dw_leb.specs.Digits.{fixed_decides, length-fixed}

-- ---- a number from its bytes

undigits-append : (xs : List ℕ) (b : ℕ) → undigits 256 (xs ++ b ∷ []) ≡ undigits 256 xs + b * 256 ^ length xs
undigits-append [] b = omega arith
undigits-append (x ∷ xs) b =
    let ih = undigits-append xs b in
    let e = pow-suc 256 (length xs) in
    let p = 256 ^ length xs in
    let u = undigits 256 xs in
    rw (ih, e) (regroup x u b p)
  where
    regroup : (x u b p : ℕ) → x + 256 * (u + b * p) ≡ x + 256 * u + b * (p * 256)
    regroup x u b p = grind arith

little_is : (n : ℕ) (bs : List ℕ) → n ≤ length bs → little_from 0 n bs ≡ undigits 256 (take n bs)
little_is zero bs h = refl
little_is (suc n) [] h = absurd (omega (arith, h))
little_is (suc n) (b ∷ bs) h = rw (little_from-cons 0 n b bs, little_is n bs (omega (arith, h))) refl

big_is : (n : ℕ) (bs : List ℕ) → n ≤ length bs → big_from 0 n bs ≡ undigits 256 (reverse (take n bs))
big_is zero bs h = refl
big_is (suc n) [] h = absurd (omega (arith, h))
big_is (suc n) (b ∷ bs) h =
    let le : n ≤ length bs = omega (arith, h) in
    let ih = big_is n bs le in
    let len : length (reverse (take n bs)) ≡ n = length-reverse (take n bs) ∙ length-take-le n bs le in
    let split : reverse (b ∷ take n bs) ≡ reverse (take n bs) ++ b ∷ [] = reverse-append (b ∷ []) (take n bs) in
    let value : undigits 256 (reverse (b ∷ take n bs)) ≡ undigits 256 (reverse (take n bs)) + b * 256 ^ n =
    ap (undigits 256) split ∙ undigits-append (reverse (take n bs)) b ∙ ap (λ (k : ℕ). undigits 256 (reverse (take n bs)) + b * 256 ^ k) len in
    rw (big_from-cons 0 n b bs, ih) (add_swap (b * 256 ^ n) (undigits 256 (reverse (take n bs))) ∙ sym value)
  where
    add_swap : (x y : ℕ) → x + y ≡ y + x
    add_swap x y = omega arith

number_is : (order : Order) (n : ℕ) (bs : List ℕ) → n ≤ length bs → fixed_number order n bs ≡ undigits 256 (ordered order (take n bs))
number_is Little n bs h = little_is n bs h
number_is Big n bs h = big_is n bs h

fixed_by : (p q : Bool) (order : Order) (n : ℕ) (bytes : List ℕ) → nat_lt (length bytes) n ≡ q → (let o : Outcome (List ℕ) = if p then Broken 0 PastUnit else (if q then Broken 0 Truncated else Found (take n bytes) n) in answer (mapped (λ b. undigits 256 (ordered order b)) o))
    ≡ (if p then Err PastUnit else (if q then Err Truncated else Ok (fixed_number order n bytes)))
fixed_by true q order n bytes e = refl
fixed_by false true order n bytes e = refl
fixed_by false false order n bytes e = ap Ok (sym (number_is order n bytes (ltb-false _ _ e)))

pub fixed_read : (order : Order) (n : ℕ) (bytes : List ℕ) (lim : ℕ) → answer (read_fixed order n bytes lim) ≡ fixed_scan order n bytes lim
fixed_read order n bytes lim = fixed_by (nat_lt lim n) (nat_lt (length bytes) n) order n bytes refl

-- ---- its bytes

byte_place : (k x : ℕ) → byte_at k x ≡ x / 256 ^ k % 256
byte_place zero x = ap (λ (y : ℕ). y % 256) (sym (div-one x))
byte_place (suc k) x = refl

byte_shift : (k x : ℕ) → byte_at (suc k) x ≡ byte_at k (x / 256)
byte_shift k x =
    let e : 256 ^ suc k ≡ 256 * 256 ^ k = omega (arith, pow-suc 256 k) in
    ap (λ p. x / p % 256) e ∙ ap (λ y. y % 256) (sym (div-div-eq-div-mul x 256 (256 ^ k))) ∙ sym (byte_place k (x / 256))

low_shift : (i n x : ℕ) → bytes_low_first (suc i) n x ≡ bytes_low_first i n (x / 256)
low_shift i zero x = refl
low_shift i (suc n) x = rw (byte_shift i x, low_shift (suc i) n x) refl

little_bytes_are : (n x : ℕ) → bytes_low_first 0 n x ≡ digits 256 n x
little_bytes_are zero x = refl
little_bytes_are (suc n) x = rw (low_shift 0 n x, little_bytes_are n (x / 256)) refl

digits_end : (n x : ℕ) → digits 256 (suc n) x ≡ digits 256 n x ++ byte_at n x ∷ []
digits_end zero x = refl
digits_end (suc n) x = ap (λ (ds : List ℕ). x % 256 ∷ ds) (digits_end n (x / 256) ∙ ap (λ (b : ℕ). digits 256 n (x / 256) ++ b ∷ []) (sym (byte_shift n x)))

big_bytes_are : (n x : ℕ) → bytes_high_first n x ≡ reverse (digits 256 n x)
big_bytes_are zero x = refl
big_bytes_are (suc n) x = ap (λ (ds : List ℕ). byte_at n x ∷ ds) (big_bytes_are n x) ∙ sym (ap reverse (digits_end n x) ∙ reverse-append (digits 256 n x) (byte_at n x ∷ []))

pub cells_spell : (order : Order) (n x : ℕ) → fixed_cells order n x ≡ fixed_bytes order n x
cells_spell Little n x = little_bytes_are n x
cells_spell Big n x = big_bytes_are n x

-- ---- lengths

-- a fixed number's outcome, by its answer
as_outcome : ℕ → Result ℕ Reason → Outcome ℕ
as_outcome n (Ok x) = Found x n
as_outcome n (Err reason) = Broken 0 reason

outcome_by : (p q : Bool) (order : Order) (n : ℕ) (bytes : List ℕ) → (let o : Outcome (List ℕ) = if p then Broken 0 PastUnit else (if q then Broken 0 Truncated else Found (take n bytes) n) in mapped (λ b. undigits 256 (ordered order b)) o ≡ as_outcome n (answer (mapped (λ b. undigits 256 (ordered order b)) o)))
unfolding as_outcome
outcome_by true q order n bytes = refl
outcome_by false true order n bytes = refl
outcome_by false false order n bytes = refl

outcome_is : (order : Order) (n : ℕ) (bytes : List ℕ) (lim : ℕ) → read_fixed order n bytes lim ≡ as_outcome n (answer (read_fixed order n bytes lim))
outcome_is order n bytes lim = outcome_by (nat_lt lim n) (nat_lt (length bytes) n) order n bytes

judged_far : (v : Bool) (x : Format × ℕ) (size : ℕ) → answer (refused_if (if v then None else Some LengthTooBig) x size) ≡ (if v then Ok x else Err LengthTooBig)
judged_far true x size = refl
judged_far false x size = refl

abbrev ends : ℕ → Outcome (ℕ × Option ℕ) → Result (Format × ℕ) Reason
ends start o = answer (judged_outcome (too_far start) (at_front (mapped initial_from o)))

wide_by : (start x : ℕ) (r : Result ℕ Reason) → ends start (paired x 4 (mapped (λ a. Some a) (as_outcome 8 r))) ≡ length_wide start r
unfolding as_outcome
wide_by start x (Ok n) = judged_far (nat_lt (start + 12 + n) (2 ^ 63)) (Dwarf64, n) 12
wide_by start x (Err reason) = refl

-- the number says whether eight bytes follow; p: below the reserved ones, q: reserved
first_by : (p q : Bool) (order : Order) (start : ℕ) (bytes : List ℕ) (x : ℕ) → x < 256 ^ 4 → nat_lt x 0xffff_fff0 ≡ p → nat_lt x 0xffff_ffff ≡ q
    → ends start (behind (refused_if (reserved x) x 4) (λ y. read_optional (y == 0xffffffff) (read_fixed order 8)) bytes 12)
    ≡ (if p then length_within start Dwarf32 x else (if q then Err ReservedLength else length_wide start (answer (read_fixed order 8 (drop 4 bytes) 8))))
first_by true q order start bytes x small e f =
    let low : x < 0xffff_fff0 = ltb-true _ _ e in
    let in_order : nat_le 0xfffffff0 x ≡ false = lt-leb _ _ low in
    let no_escape : (x == 0xffffffff) ≡ false = ne_eqb x 0xffffffff (λ s. omega (arith, low, s)) in
    rw (in_order, no_escape) (judged_far (nat_lt (start + 4 + x) (2 ^ 63)) (Dwarf32, x) 4)
first_by false true order start bytes x small e f =
    let high : 0xffff_fff0 ≤ x = ltb-false _ _ e in
    rw (le-leb 0xfffffff0 x high, f) refl
first_by false false order start bytes x small e f =
    let high : 0xffff_fff0 ≤ x = ltb-false _ _ e in
    let top : 0xffff_ffff ≤ x = ltb-false _ _ f in
    let is : x ≡ 0xffffffff = omega (arith, small, top) in
    let escape : (x == 0xffffffff) ≡ true = eq-eqb x 0xffffffff is in
    rw (le-leb 0xfffffff0 x high, f, escape) (ap (λ (o : Outcome ℕ). ends start (paired x 4 (mapped (λ a. Some a) o))) (outcome_is order 8 (drop 4 bytes) 8) ∙ wide_by start x (answer (read_fixed order 8 (drop 4 bytes) 8)))

length_by : (order : Order) (start : ℕ) (bytes : List ℕ) (r : Result ℕ Reason) → IfOk r (λ x. x < 256 ^ 4)
    → ends start (behind (judged_outcome reserved (as_outcome 4 r)) (λ y. read_optional (y == 0xffffffff) (read_fixed order 8)) bytes 12) ≡ length_of order start bytes r
unfolding as_outcome
length_by order start bytes (Err reason) h = refl
length_by order start bytes (Ok x) h = first_by (nat_lt x 0xffff_fff0) (nat_lt x 0xffff_ffff) order start bytes x h refl refl

pub length_read : (order : Order) (start : ℕ) (bytes : List ℕ) → AreBytes bytes → answer (read_length order start bytes length_limit) ≡ length_scan order start bytes
length_read order start bytes fit =
    ap (λ (o : Outcome ℕ). ends start (behind (judged_outcome reserved o) (λ y. read_optional (y == 0xffffffff) (read_fixed order 8)) bytes 12)) (outcome_is order 4 bytes 12)
    ∙ length_by order start bytes (answer (read_fixed order 4 bytes 12))
    (small_by order 4 bytes 12 (answer (read_fixed order 4 bytes 12)) (found_by (fixed order 4) (read_fixed order 4) (fixed_decides order 4) bytes 12 (λ _. 4) (λ x fits. length-fixed order 4 x) fit (answer (read_fixed order 4 bytes 12)) refl))
