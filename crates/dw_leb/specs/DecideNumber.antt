-- Numbers with widths and initial lengths: each reader decides its part.
use Rattle.std.proofs.Common.{◌≡◌, ℕ, zero, suc, ◌+◌, ◌-◌, ◌*◌, ◌^◌, ◌<◌, ◌≤◌, Bool, true, false, cond, List, [], ◌∷◌, length, Option, Some, None, refl, sym, ap, arith, ◌∙◌, inl, inr}
use Rattle.std.specs.Prelude.{if◌then◌else◌, nat_lt, ◌==◌, ℤ, pos, negsuc}
use Rattle.std.proofs.Math.Nat.{pow-suc}
use Rattle.std.proofs.lemmas.Bool.{ltb-true, ltb-false, lt-ltb, le-ltb, eqb-true}
use Rattle.std.proofs.lemmas.List.{length-append}
use Rattle.dw_leb.specs.Part.{LebTooBig, LengthTooBig, Part, ◌then◌, judged, seen, viewed, optional}
use Rattle.dw_leb.specs.Field.{IsField}
use Rattle.dw_leb.specs.Number.{UlebFits, SlebFits, marked, fixed_bytes, length_size, length_limit, Order, Format, Dwarf32, Dwarf64, fixed, groups, Unsigned, Signed, uleb_groups, UlebHolds, SlebHolds, above_u64, uleb, extent, residue, sleb_groups, outside_i64, sleb, reserved, as_initial, too_far, length_field, initial_length}
use Rattle.dw_leb.specs.Reader.{made}
use Rattle.dw_leb.specs.ReadNumber.{undigits, read_fixed, read_groups, uleb_from, signed_from, sleb_from, read_uleb, read_sleb, initial_from, read_length_field, read_length}
use Rattle.dw_leb.specs.Decide.{IsTotalView, viewed_decides, Decides, IsView, then_decides, judged_decides, whole_decides, seen_decides, optional_decides}
use Rattle.dw_leb.specs.PartLaws.{Stays, then_stays, judged_stays, whole_stays, optional_stays}
use Rattle.dw_leb.specs.Digits.{length-marked, digits_below, length-fixed, length-digits, undigits-digits, undigits_below, digits-undigits, fixed_decides, groups_decides, Short_stays, groups_stays}

-- an Option that a test chose
chosen : {A : Type 0} (v : Bool) (x y : A) → cond v (Some x) None ≡ Some y → (v ≡ true) × (x ≡ y)
chosen true x y e = (refl, cc)
chosen false x y e = absurd cc

base : 0 < 128
base = omega arith

uleb_view : IsTotalView groups uleb_groups UlebHolds uleb_from
uleb_view = record {
  back =
      λ u holds fits. rw (undigits-digits 128 base u.width u.value holds, length-digits 128 base u.width u.value) refl;
  holds = λ ds fits. undigits_below 128 base ds fits.2;
  there = λ ds fits. digits-undigits 128 base ds fits.2;
}

pub uleb_decides : Decides uleb read_uleb
uleb_decides =
    judged_decides (viewed uleb_groups UlebHolds groups) (made uleb_from read_groups) above_u64
    (viewed_decides groups read_groups uleb_groups UlebHolds uleb_from uleb_view groups_decides)

pub uleb_stays : Stays uleb.Break
uleb_stays = judged_stays (viewed uleb_groups UlebHolds groups) above_u64 groups_stays

-- ---- two's complement

even : (width : ℕ) → 0 < width → (h : ℕ) × (128 ^ width ≡ h + h)
even zero lt = absurd (omega (arith, lt))
even (suc k) lt = (128 ^ k * 64, rw pow-suc (omega arith))

signed_back : (width : ℕ) (v : ℤ) → 0 < width → 2 * extent v < 128 ^ width
    → (residue width v < 128 ^ width) × (signed_from width (residue width v) ≡ v)
signed_back width (pos n) some lt = (omega arith, rw (lt-ltb (2 * n) (128 ^ width) lt) refl)
signed_back width (negsuc n) some lt =
    let p = even width some in
    let q : 128 ^ width ≡ p.0 + p.0 = p.1 in
    let high : 128 ^ width ≤ 2 * (128 ^ width - suc n) = omega arith in
    let n_back : 128 ^ width - suc (128 ^ width - suc n) ≡ n = omega arith in
    (omega arith, rw (le-ltb (2 * (128 ^ width - suc n)) (128 ^ width) high, n_back) refl)

signed_there : (width n : ℕ) → n < 128 ^ width
    → (2 * extent (signed_from width n) < 128 ^ width) × (residue width (signed_from width n) ≡ n)
signed_there width n lt = by (nat_lt (2 * n) (128 ^ width)) refl
  where
    by : (v : Bool) → nat_lt (2 * n) (128 ^ width) ≡ v
        → (2 * extent (if v then pos n else negsuc (128 ^ width - suc n)) < 128 ^ width)
        × (residue width (if v then pos n else negsuc (128 ^ width - suc n)) ≡ n)
    by true e = (ltb-true _ _ e, refl)
    by false e = let le : 128 ^ width ≤ 2 * n = ltb-false _ _ e in (omega arith, omega arith)

sleb_view : IsTotalView groups sleb_groups SlebHolds sleb_from
sleb_view = record {
  back = λ s holds fits.
      let some : 0 < s.width = omega (arith, fits.0, length-digits 128 base s.width (residue s.width s.value)) in
      let b = signed_back s.width s.value some holds in
      rw (
        length-digits 128 base s.width (residue s.width s.value),
        undigits-digits 128 base s.width (residue s.width s.value) b.0,
        b.1,
      )
      refl;
  holds = λ ds fits. (signed_there (length ds) (undigits 128 ds) (undigits_below 128 base ds fits.2)).0;
  there =
      λ ds fits.
      rw (signed_there (length ds) (undigits 128 ds) (undigits_below 128 base ds fits.2)).1
      (digits-undigits 128 base ds fits.2);
}

pub sleb_decides : Decides sleb read_sleb
sleb_decides =
    judged_decides (viewed sleb_groups SlebHolds groups) (made sleb_from read_groups) outside_i64
    (viewed_decides groups read_groups sleb_groups SlebHolds sleb_from sleb_view groups_decides)

pub sleb_stays : Stays sleb.Break
sleb_stays = judged_stays (viewed sleb_groups SlebHolds groups) outside_i64 groups_stays

-- ---- optional parts and lengths

abbrev initial : Order → Part (ℕ × Option ℕ)
initial order = judged (fixed order 4) reserved then λ x. optional (x == 0xffffffff) (fixed order 8)

initial_view : (order : Order) → IsView (initial order) as_initial initial_from
initial_view order = record { back = λ x a e fits. back x.0 x.1 a e; there = λ a fits. there a.0 a.1 fits.1 }
  where
    back : (f : Format) (n : ℕ) (a : ℕ × Option ℕ) → as_initial (f, n) ≡ Some a → initial_from a ≡ (f, n)
    back Dwarf32 n a e = let c : (n, None) ≡ a = cc in ap initial_from (sym c)
    back Dwarf64 n a e = let c : (0xffffffff, Some n) ≡ a = cc in ap initial_from (sym c)

    wide : (x n : ℕ) (v : Bool) → (x == 0xffffffff) ≡ v → (optional v (fixed order 8)).Fits (Some n)
        → as_initial (Dwarf64, n) ≡ Some (x, Some n)
    wide x n true e fits = rw (eqb-true x 0xffffffff e) refl
    wide x n false e fits = absurd fits

    there : (x : ℕ) (o : Option ℕ) → (optional (x == 0xffffffff) (fixed order 8)).Fits o
        → as_initial (initial_from (x, o)) ≡ Some (x, o)
    there x None fits = refl
    there x (Some n) fits = wide x n (x == 0xffffffff) refl fits

pub length_field_decides : (order : Order) → Decides (length_field order) (read_length_field order)
length_field_decides order =
    whole_decides _ _ (seen_decides (initial order) _ as_initial initial_from (initial_view order)
    (then_decides _ _ _ _ (judged_decides (fixed order 4) (read_fixed order 4) reserved (fixed_decides order 4))
    (λ x. optional_decides (x == 0xffffffff) (fixed order 8) (read_fixed order 8) (fixed_decides order 8))))

pub length_field_stays : (order : Order) → Stays (length_field order).Break
length_field_stays order =
    whole_stays (seen as_initial (initial order))
    (then_stays (judged (fixed order 4) reserved) (λ x. optional (x == 0xffffffff) (fixed order 8))
    (judged_stays (fixed order 4) reserved (Short_stays 4))
    (λ x. optional_stays (x == 0xffffffff) (fixed order 8) (Short_stays 8)))

pub initial_length_decides : (order : Order) (start : ℕ)
    → Decides (initial_length order start) (read_length order start)
initial_length_decides order start =
    judged_decides (length_field order) (read_length_field order) (too_far start) (length_field_decides order)

pub initial_length_stays : (order : Order) (start : ℕ) → Stays (initial_length order start).Break
initial_length_stays order start = judged_stays (length_field order) (too_far start) (length_field_stays order)

-- ---- a number takes at least one byte

marked_some : (ds : List ℕ) → 0 < length ds → 0 < length (marked ds)
marked_some [] lt = lt
marked_some (d ∷ []) lt = lt
marked_some (d ∷ e ∷ ds) lt = omega arith

pub uleb_some : (u : Unsigned) → uleb.Fits u → 0 < length (uleb.spell u)
uleb_some u fits = marked_some (uleb_groups u) fits.0.1.0

pub initial-size : (order : Order) (start : ℕ) (format : Format) (n : ℕ)
    → length ((initial_length order start).spell (format, n)) ≡ length_size format
initial-size order start Dwarf32 n =
    rw (
      length-append (fixed_bytes order 4 n) ((optional (n == 0xffffffff) (fixed order 8)).spell None),
      length-fixed order 4 n,
    )
    (by (n == 0xffffffff))
  where
    by : (v : Bool) → 4 + length ((optional v (fixed order 8)).spell None) ≡ 4
    by true = refl
    by false = refl
initial-size order start Dwarf64 n =
    rw (
      length-append (fixed_bytes order 4 0xffffffff) (fixed_bytes order 8 n),
      length-fixed order 4 0xffffffff,
      length-fixed order 8 n,
    )
    refl

pub initial_within : (order : Order) (start : ℕ) (format : Format) (n : ℕ)
    → length ((initial_length order start).spell (format, n)) ≤ length_limit
initial_within order start Dwarf32 n = omega (arith, initial-size order start Dwarf32 n)
initial_within order start Dwarf64 n = omega (arith, initial-size order start Dwarf64 n)

-- ---- what fits, and how many bytes it takes

pub length-uleb : (u : Unsigned) → length (uleb.spell u) ≡ u.width
length-uleb u = length-marked (uleb_groups u) ∙ length-digits 128 base u.width u.value

pub length-sleb : (s : Signed) → length (sleb.spell s) ≡ s.width
length-sleb s = length-marked (sleb_groups s) ∙ length-digits 128 base s.width (residue s.width s.value)

unless_true : {R : Type 0} (v : Bool) (x : R) → (if v then None else Some x) ≡ None → v ≡ true
unless_true true x e = refl
unless_true false x e = absurd cc

pub uleb_fits : (u : Unsigned) → UlebFits u → uleb.Fits u
uleb_fits u h =
    let len = length-digits 128 base u.width u.value in (
      (h.held, (omega (arith, len, h.some), omega (arith, len, h.most), digits_below 128 base u.width u.value)),
      rw (lt-ltb u.value (2 ^ 64) h.range) refl,
    )

pub fits_uleb : (u : Unsigned) → uleb.Fits u → UlebFits u
fits_uleb u h =
    let len = length-digits 128 base u.width u.value in
    record {
      some = omega (arith, len, h.0.1.0);
      most = omega (arith, len, h.0.1.1);
      held = h.0.0;
      range = ltb-true _ _ (unless_true (nat_lt u.value (2 ^ 64)) LebTooBig h.1);
    }

pub sleb_fits : (s : Signed) → SlebFits s → sleb.Fits s
sleb_fits s h =
    let n = residue s.width s.value in
    let len = length-digits 128 base s.width n in (
      (h.held, (omega (arith, len, h.some), omega (arith, len, h.most), digits_below 128 base s.width n)),
      rw (lt-ltb (extent s.value) (2 ^ 63) h.range) refl,
    )

-- a unit's end, which its initial length tells, lies below 2 ^ 63
pub initial_end : (order : Order) (start : ℕ) (format : Format) (n : ℕ) → (initial_length order start).Fits (format, n)
    → start + length_size format + n < 2 ^ 63
initial_end order start format n fits =
    ltb-true _ _ (unless_true (nat_lt (start + length_size format + n) (2 ^ 63)) LengthTooBig fits.1)

-- ---- a number breaks at its first byte

pub uleb_field : IsField uleb
uleb_field bytes lim offset reason (inl h) = h.0
uleb_field bytes lim offset reason (inr h) = h.here

pub sleb_field : IsField sleb
sleb_field bytes lim offset reason (inl h) = h.0
sleb_field bytes lim offset reason (inr h) = h.here

pub fixed_field : (order : Order) (n : ℕ) → IsField (fixed order n)
fixed_field order n bytes lim offset reason h = h.0

pub initial_length_field : (order : Order) (start : ℕ) → IsField (initial_length order start)
initial_length_field order start bytes lim offset reason (inl h) = h.0
initial_length_field order start bytes lim offset reason (inr h) = h.here
