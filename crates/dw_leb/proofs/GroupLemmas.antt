-- Groups of seven bits: what the code computes is what the plain reader reads.
use Rattle.std.proofs.Common.{◌≡◌, ◌≤◌, ◌<◌, ◌+◌, ◌*◌, ◌-◌, ◌/◌, ◌%◌, ◌^◌, ℕ, zero, suc, Bool, true, false, cond, min, List, [], ◌∷◌, ◌++◌, length, take, position, Option, None, Some, Ok, Err, Result, refl, sym, ap, subst, ◌∙◌, append_assoc, arith}
use Rattle.std.specs.Prelude.{nat_lt, if◌then◌else◌}
use Rattle.std.proofs.lemmas.List.{take-take, length-take-le}
use Rattle.std.proofs.lemmas.Iterator.Adapters.{position_from-zero}
use Rattle.std.proofs.Math.Nat.{pow-suc, pow-le-pow_right}
use Rattle.std.proofs.lemmas.Nat.{pow-add}
use Rattle.std.proofs.lemmas.Bool.{ltb-true, ltb-false}
use Rattle.std.specs.List.{position_from}
use Rattle.dw_leb.specs.Part.{Reason, LebTooBig}
use Rattle.dw_leb.specs.Number.{digits, marked, extent, above_u64, outside_i64}
use Rattle.dw_leb.specs.Reader.{Outcome, Found, Broken, answer, mapped, refused_if, judged_outcome}
use Rattle.dw_leb.specs.ReadNumber.{groups_of, groups_outcome, uleb_from, sleb_from, read_uleb, read_sleb, signed_from}
use Rattle.dw_leb.specs.Scan.{is_last, low_bits, number, front_found, front_at, unsigned_scan, signed_scan}
use Rattle.dw_leb.specs.Decide.{AreBytes}

-- seven bits for each group
seven_bits : (w : ℕ) → 2 ^ (7 * w) ≡ 128 ^ w
seven_bits zero = refl
seven_bits (suc w) =
    let e : 7 * suc w ≡ 7 * w + 7 = omega arith in
    rw (e, pow-add 2 (7 * w) 7, seven_bits w, pow-suc 128 w) refl

pub place_small : (w : ℕ) → w ≤ 16 → 128 ^ w ≤ 2 ^ 112
place_small w h = pow-le-pow_right {n = 128} (omega arith) h

-- a one that is shifted
pub place_shifted : (w : ℕ) → w ≤ 16 → 1 * 2 ^ (7 * w) % 2 ^ 128 ≡ 128 ^ w
place_shifted w h =
    let small = place_small w h in
    let e = seven_bits w in
    omega (arith, small, e)

pub number_fits : (bs : List ℕ) → number bs < 128 ^ length bs
number_fits [] = omega arith
number_fits (b ∷ bs) = let ih = number_fits bs in let e = pow-suc 128 (length bs) in omega (arith, ih, e)

pub number_small : (bs : List ℕ) → length bs ≤ 16 → number bs < 2 ^ 112
number_small bs h = let f = number_fits bs in let p = place_small (length bs) h in omega (arith, f, p)

-- a step of the loop that spells
pub spell_step : (front : List ℕ) (v w i : ℕ) → i < w → (front ++ (v % 128 + 128) ∷ []) ++ marked (digits 128 (w + 1 - (i + 1)) (v / 128)) ≡ front ++ marked (digits 128 (w + 1 - i) v)
spell_step front v w i h =
    let k = w - i - 1 in
    let e : w + 1 - (i + 1) ≡ suc k = omega arith in
    let f : w + 1 - i ≡ suc (suc k) = omega arith in
    rw (e, f) (append_assoc front ((v % 128 + 128) ∷ []) (marked (digits 128 (suc k) (v / 128))))

-- ---- the last byte

abbrev Groups : ℕ → List ℕ → Option ℕ → Type 0
Groups j xs None = groups_of xs ≡ None
Groups j xs (Some i) = (j ≤ i) × (i < j + length xs) × (groups_of xs ≡ Some (low_bits (take (suc i - j) xs)))

groups_step : (v : Bool) (j x : ℕ) (xs : List ℕ) → nat_lt x 128 ≡ v → x < 256 → (o : Option ℕ) → Groups (j + 1) xs o → Groups j (x ∷ xs) (cond v (Some j) o)
groups_step true j x xs e byte o h =
    let low : x < 128 = ltb-true x 128 e in
    let one : suc j - j ≡ suc zero = omega arith in
    let same : x % 128 ≡ x = omega (arith, low) in
    (omega arith, omega arith, rw (e, one, same) refl)
groups_step false j x xs e byte None h = rw (e, h) refl
groups_step false j x xs e byte (Some i) h =
    let high : 128 ≤ x = ltb-false x 128 e in
    let more : suc i - j ≡ suc (suc i - (j + 1)) = omega (arith, h.0) in
    let same : x - 128 ≡ x % 128 = omega (arith, high, byte) in
    (omega (arith, h.0), omega (arith, h.1), rw (e, h.2, more, same) refl)

groups_from : (j : ℕ) (xs : List ℕ) → AreBytes xs → Groups j xs (position_from is_last j xs)
groups_from j [] fit = refl
groups_from j (x ∷ xs) fit = groups_step (nat_lt x 128) j x xs refl fit.0 (position_from is_last (j + 1) xs) (groups_from (j + 1) xs fit.1)

AreBytes-take : (n : ℕ) (xs : List ℕ) → AreBytes xs → AreBytes (take n xs)
AreBytes-take zero xs h = tt
AreBytes-take (suc n) [] h = tt
AreBytes-take (suc n) (x ∷ xs) h = (h.0, AreBytes-take n xs h.1)

length-low_bits : (xs : List ℕ) → length (low_bits xs) ≡ length xs
length-low_bits [] = refl
length-low_bits (x ∷ xs) = ap suc (length-low_bits xs)

-- what the code finds, as the plain reader's groups
abbrev pub grouped : Result (List ℕ) Reason → Outcome (List ℕ)
grouped (Ok front) = Found (low_bits front) (length front)
grouped (Err reason) = Broken 0 reason

groups_at : (bytes : List ℕ) (lim m n : ℕ) (o : Option ℕ) → n ≤ m → m ≤ length bytes → Groups 0 (take n bytes) o → groups_outcome m lim (groups_of (take n bytes)) ≡ grouped (front_found bytes lim m o)
groups_at bytes lim m n None le in_bytes h = rw h refl
groups_at bytes lim m n (Some i) le in_bytes h =
    let len : length (take n bytes) ≡ n = length-take-le n bytes (omega arith) in
    let short : suc i ≤ n = omega (arith, h.1, len) in
    let same : take (suc i - 0) (take n bytes) ≡ take (i + 1) bytes = ap (λ (k : ℕ). take k (take n bytes)) (omega arith) ∙ take-take (i + 1) n bytes (omega arith) in
    let count : length (low_bits (take (i + 1) bytes)) ≡ length (take (i + 1) bytes) = length-low_bits (take (i + 1) bytes) in
    rw (h.2, same, count) refl

pub groups_read : (bytes : List ℕ) (lim : ℕ) → AreBytes bytes → let m = min (length bytes) lim in groups_outcome m lim (groups_of (take (min 16 m) bytes)) ≡ grouped (front_at bytes lim)
groups_read bytes lim fit =
    let m = min (length bytes) lim in
    let n = min 16 m in
    let h : Groups 0 (take n bytes) (position_from is_last 0 (take n bytes)) = groups_from 0 (take n bytes) (AreBytes-take n bytes fit) in
    groups_at bytes lim m n (position is_last (take n bytes)) (omega arith) (omega arith)
    (subst (Groups 0 (take n bytes)) (sym (position_from-zero is_last (take n bytes))) h)

-- ---- the values

judged_if : {X : Type 0} (v : Bool) (x : X) (size : ℕ) → answer (refused_if (if v then None else Some LebTooBig) x size) ≡ (if v then Ok x else Err LebTooBig)
judged_if true x size = refl
judged_if false x size = refl

unsigned_is : (r : Result (List ℕ) Reason) → answer (judged_outcome above_u64 (mapped uleb_from (grouped r))) ≡ unsigned_scan r
unsigned_is (Err reason) = refl
unsigned_is (Ok front) = rw (length-low_bits front) (judged_if (nat_lt (number front) (2 ^ 64)) (record { value = number front; width = length front }) (length front))

pub unsigned_read : (bytes : List ℕ) (lim : ℕ) → AreBytes bytes → answer (read_uleb bytes lim) ≡ unsigned_scan (front_at bytes lim)
unsigned_read bytes lim fit = ap (λ (o : Outcome (List ℕ)). answer (judged_outcome above_u64 (mapped uleb_from o))) (groups_read bytes lim fit) ∙ unsigned_is (front_at bytes lim)

signed_is : (r : Result (List ℕ) Reason) → answer (judged_outcome outside_i64 (mapped sleb_from (grouped r))) ≡ signed_scan r
signed_is (Err reason) = refl
signed_is (Ok front) = rw (length-low_bits front) (judged_if (nat_lt (extent (signed_from (length front) (number front))) (2 ^ 63)) (record { value = signed_from (length front) (number front); width = length front }) (length front))

pub signed_read : (bytes : List ℕ) (lim : ℕ) → AreBytes bytes → answer (read_sleb bytes lim) ≡ signed_scan (front_at bytes lim)
signed_read bytes lim fit = ap (λ (o : Outcome (List ℕ)). answer (judged_outcome outside_i64 (mapped sleb_from o))) (groups_read bytes lim fit) ∙ signed_is (front_at bytes lim)
