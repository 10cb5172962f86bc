-- The moments of numbers: fixed numbers and contents, LEB128 numbers, texts, initial lengths.
use Rattle.std.proofs.Common.{◌≡◌, ◌≢◌, ◌⊎◌, ℕ, zero, suc, ◌+◌, ◌-◌, ◌^◌, ◌<◌, ◌≤◌, min, Bool, true, false, List, [], ◌∷◌, ◌++◌, length, take, Option, Some, None, refl, sym, ap, subst, ◌∙◌, arith, inl, inr, length-append, take_all}
use Rattle.std.specs.Prelude.{if◌then◌else◌, nat_lt, nat_le, ◌==◌, ◌&&◌, option_map}
use Rattle.std.specs.List.{AllByRecursion}
use Rattle.std.proofs.lemmas.Bool.{lt-ltb, le-ltb, le-leb, lt-leb, leb-true, leb-false, eqb-false, eq-eqb, ne_eqb}
use Rattle.std.proofs.lemmas.List.{take-append-le, drop_at}
use Rattle.dw_leb.specs.declared.errors.Reason.{Reason}
use Rattle.dw_leb.specs.declared.errors.Reason.TheVariants.{Truncated, PastUnit, LebTooLong, LebTooBig, ReservedLength, LengthTooBig}
use Rattle.dw_leb.specs.declared.order.Order.{Order}
use Rattle.dw_leb.specs.Part.{Part}
use Rattle.dw_leb.specs.Number.{unended, unmarked, above_u64, outside_i64, extent, reserved, too_far, length_size}
use Rattle.dw_leb.specs.Reader.{Outcome, Found, Broken, Reader, ◌and_then◌, made, checked, read_optional}
use Rattle.dw_leb.specs.ReadNumber.{undigits, ordered, bytes_of, read_fixed, before_zero, text_outcome, read_text, groups_of, groups_outcome, read_groups, uleb_from, sleb_from, read_uleb, read_sleb, initial_from, read_length_field, read_length}
use Rattle.dw_leb.specs.Decide.{Decides, found, broken, found_value}
use Rattle.dw_leb.specs.Moments.{Moment, IsCut, HasMoment, Judges, fewer_or_enough, refuses_where, refuses_unless, behind_moment, moment_then, optional_when, made_moment, checked_moment, one_field_moment, then_moment, optional_moment}

-- ---- n bytes: none where they pass the unit's end, else all

abbrev pub count_moment : ℕ → Moment
count_moment n bytes lim = if nat_lt lim n then 0 else n

count_waits : (n : ℕ) (bytes : List ℕ) (lim : ℕ) (v : Bool) → length bytes < (if v then 0 else n)
    → IsCut {X = List ℕ}
    (if v then Broken 0 PastUnit
    else (if nat_lt (length bytes) n then Broken 0 Truncated else Found (take n bytes) n))
count_waits n bytes lim true h = absurd (omega (arith, h))
count_waits n bytes lim false h = rw (lt-ltb (length bytes) n h) refl

count_stands : (n : ℕ) (bytes : List ℕ) (v w : Bool) → (v ≡ false → w ≡ false)
    → IsCut {X = List ℕ} (if v then Broken 0 PastUnit else (if w then Broken 0 Truncated else Found (take n bytes) n))
    → ⊥
count_stands n bytes true w h c = cc
count_stands n bytes false true h c = let e = h refl in cc
count_stands n bytes false false h c = c

count_enough : (n : ℕ) (bytes : List ℕ) (v : Bool) → (if v then 0 else n) ≤ length bytes → v ≡ false
    → nat_lt (length bytes) n ≡ false
count_enough n bytes true h e = absurd cc
count_enough n bytes false h e = le-ltb (length bytes) n h

count_stays : (n : ℕ) (bytes more : List ℕ) (v : Bool) → (if v then 0 else n) ≤ length bytes
    → (if v then broken (List ℕ) 0 PastUnit
    else (if nat_lt (length (bytes ++ more)) n then broken (List ℕ) 0 Truncated
    else found (take n (bytes ++ more)) n))
    ≡ (if v then broken (List ℕ) 0 PastUnit
    else (if nat_lt (length bytes) n then broken (List ℕ) 0 Truncated else found (take n bytes) n))
count_stays n bytes more true h = refl
count_stays n bytes more false h =
    let longer : n ≤ length (bytes ++ more) = omega (arith, h, length-append bytes more) in
    rw (le-ltb (length bytes) n h, le-ltb (length (bytes ++ more)) n longer, take-append-le n bytes more h) refl

count_whole : (n : ℕ) (bytes : List ℕ) (v w : Bool) (x : List ℕ) (size : ℕ)
    → (if v then broken (List ℕ) 0 PastUnit else (if w then broken (List ℕ) 0 Truncated else found (take n bytes) n))
    ≡ found x size
    → (if v then 0 else n) ≡ size
count_whole n bytes true w x size e = absurd cc
count_whole n bytes false true x size e = absurd cc
count_whole n bytes false false x size e = (found_value (take n bytes) x n size e).1

pub count_has : (n : ℕ) → HasMoment (bytes_of n) (count_moment n)
count_has n = record {
  waits = λ bytes lim h. count_waits n bytes lim (nat_lt lim n) h;
  early = λ bytes more lim h. h;
  stands =
      λ bytes lim h c.
      count_stands n bytes (nat_lt lim n) (nat_lt (length bytes) n) (count_enough n bytes (nat_lt lim n) h) c;
  steady = λ bytes more lim h. refl;
  stays = λ bytes more lim h. count_stays n bytes more (nat_lt lim n) h;
  whole = λ bytes lim x size e. count_whole n bytes (nat_lt lim n) (nat_lt (length bytes) n) x size e;
}

pub fixed_has : (order : Order) (n : ℕ) → HasMoment (read_fixed order n) (count_moment n)
fixed_has order n =
    made_moment (λ bytes. undigits 256 (ordered order bytes)) (bytes_of n) (count_moment n) (count_has n)

-- ---- bytes up to a last one, at most so many

-- how many are wanted: up to the last one, or the most; one more than there are, where neither is reached
abbrev pub until : (ℕ → Bool) → ℕ → List ℕ → ℕ
until last zero bytes = 0
until last (suc n) [] = 1
until last (suc n) (b ∷ bytes) = if last b then 1 else suc (until last n bytes)

module _ {Y : Type 0} (last : ℕ → Bool) (scan : List ℕ → Option Y) (size : Y → ℕ) (one : ℕ → Y) (grown : ℕ → Y → Y)
    (empty : scan [] ≡ None) (at_last : (b : ℕ) (bs : List ℕ) → last b ≡ true → scan (b ∷ bs) ≡ Some (one b))
    (at_more : (b : ℕ) (bs : List ℕ) → last b ≡ false → scan (b ∷ bs) ≡ option_map (grown b) (scan bs))
    (size_one : (b : ℕ) → size (one b) ≡ 1) (size_grown : (b : ℕ) (y : Y) → size (grown b y) ≡ suc (size y)) where
  none_short : (n : ℕ) (bs : List ℕ) → length bs < until last n bs → (scan (take n bs) ≡ None) × (length bs < n)
  none_short zero bs h = absurd (omega (arith, h))
  none_short (suc n) [] h = (empty, omega arith)
  none_short (suc n) (b ∷ bs) h = by (last b) refl (λ g. none_short n bs g) h
    where
      by : (v : Bool) → last b ≡ v → (length bs < until last n bs → (scan (take n bs) ≡ None) × (length bs < n))
          → length (b ∷ bs) < (if v then 1 else suc (until last n bs))
          → (scan (b ∷ take n bs) ≡ None) × (length (b ∷ bs) < suc n)
      by true e it h = absurd (omega (arith, h))
      by false e it h =
          let k = it (omega (arith, h)) in (at_more b (take n bs) e ∙ ap (option_map (grown b)) k.0, omega (arith, k.1))

  none_full : (n : ℕ) (bs : List ℕ) → scan (take n bs) ≡ None → until last n bs ≤ length bs → until last n bs ≡ n
  none_full zero bs s h = refl
  none_full (suc n) [] s h = absurd (omega (arith, h))
  none_full (suc n) (b ∷ bs) s h = by (last b) refl (λ q g. none_full n bs q g) h
    where
      inner : (o : Option Y) → option_map (grown b) o ≡ None → o ≡ None
      inner None e = refl
      inner (Some y) e = absurd cc

      none_some : (y : Y) → Some y ≡ None → ⊥
      none_some y q = cc

      by : (v : Bool) → last b ≡ v → (scan (take n bs) ≡ None → until last n bs ≤ length bs → until last n bs ≡ n)
          → (if v then 1 else suc (until last n bs)) ≤ length (b ∷ bs)
          → (if v then 1 else suc (until last n bs)) ≡ suc n
      by true e it h = absurd (none_some (one b) (sym (at_last b (take n bs) e) ∙ s))
      by false e it h = ap suc (it (inner (scan (take n bs)) (sym (at_more b (take n bs) e) ∙ s)) (omega (arith, h)))

  same_more : (n : ℕ) (bs cs : List ℕ) → until last n bs ≤ length bs
      → (scan (take n (bs ++ cs)) ≡ scan (take n bs)) × (until last n (bs ++ cs) ≡ until last n bs)
  same_more zero bs cs h = (refl, refl)
  same_more (suc n) [] cs h = absurd (omega (arith, h))
  same_more (suc n) (b ∷ bs) cs h = by (last b) refl (λ g. same_more n bs cs g) h
    where
      by : (v : Bool) → last b ≡ v
          → (until last n bs ≤ length bs
          → (scan (take n (bs ++ cs)) ≡ scan (take n bs)) × (until last n (bs ++ cs) ≡ until last n bs))
          → (if v then 1 else suc (until last n bs)) ≤ length (b ∷ bs)
          → (scan (b ∷ take n (bs ++ cs)) ≡ scan (b ∷ take n bs))
          × ((if v then 1 else suc (until last n (bs ++ cs))) ≡ (if v then 1 else suc (until last n bs)))
      by true e it h = (at_last b (take n (bs ++ cs)) e ∙ sym (at_last b (take n bs) e), refl)
      by false e it h =
          let k = it (omega (arith, h)) in
          (at_more b (take n (bs ++ cs)) e ∙ ap (option_map (grown b)) k.0 ∙ sym (at_more b (take n bs) e), ap suc k.1)

  some_wanted : (n : ℕ) (bs : List ℕ) → 0 < until last (suc n) bs
  some_wanted n [] = omega arith
  some_wanted n (b ∷ bs) = by (last b)
    where
      by : (v : Bool) → 0 < (if v then 1 else suc (until last n bs))
      by true = omega arith
      by false = omega arith

  early_more : (n : ℕ) (bs cs : List ℕ) → until last n (bs ++ cs) ≤ length bs → until last n bs ≤ length bs
  early_more zero bs cs h = omega arith
  early_more (suc n) [] cs h = absurd (omega (arith, h, some_wanted n cs))
  early_more (suc n) (b ∷ bs) cs h = by (last b) (λ g. early_more n bs cs g) h
    where
      by : (v : Bool) → (until last n (bs ++ cs) ≤ length bs → until last n bs ≤ length bs)
          → (if v then 1 else suc (until last n (bs ++ cs))) ≤ length (b ∷ bs)
          → (if v then 1 else suc (until last n bs)) ≤ length (b ∷ bs)
      by true it h = h
      by false it h = omega (arith, it (omega (arith, h)))

  some_size : (n : ℕ) (bs : List ℕ) (y : Y) → scan (take n bs) ≡ Some y → until last n bs ≡ size y
  some_size zero bs y s = absurd (none_some (sym empty ∙ s))
    where
      none_some : None ≡ Some y → ⊥
      none_some q = cc
  some_size (suc n) [] y s = absurd (none_some (sym empty ∙ s))
    where
      none_some : None ≡ Some y → ⊥
      none_some q = cc
  some_size (suc n) (b ∷ bs) y s = by (last b) refl (λ z q. some_size n bs z q)
    where
      inner : (o : Option Y) → option_map (grown b) o ≡ Some y → (z : Y) × (o ≡ Some z) × (grown b z ≡ y)
      inner None e = absurd cc
      inner (Some z) e = (z, refl, cc)

      same : (z : Y) → Some z ≡ Some y → z ≡ y
      same z q = cc

      by : (v : Bool) → last b ≡ v → ((z : Y) → scan (take n bs) ≡ Some z → until last n bs ≡ size z)
          → (if v then 1 else suc (until last n bs)) ≡ size y
      by true e it = sym (size_one b) ∙ ap size (same (one b) (sym (at_last b (take n bs) e) ∙ s))
      by false e it =
          let k = inner (scan (take n bs)) (sym (at_more b (take n bs) e) ∙ s) in
          ap suc (it k.0 k.1) ∙ sym (size_grown b k.0) ∙ ap size k.2

  -- what is scanned, or the reason where m bytes were looked at
  abbrev pub scanned : (ℕ → ℕ → Reason) → ℕ → ℕ → Option Y → Outcome Y
  scanned why m lim None = Broken 0 (why m lim)
  scanned why m lim (Some y) = Found y (size y)

  module _ (why : ℕ → ℕ → Reason) (most : ℕ → ℕ)
      (short : (len lim : ℕ) → len < most lim → why (min len lim) lim ≡ Truncated)
      (full : (a b lim : ℕ) → most lim ≤ a → most lim ≤ b → why (min a lim) lim ≡ why (min b lim) lim)
      (fault : (len lim : ℕ) → most lim ≤ len → why (min len lim) lim ≢ Truncated)
      (R : Reader Y)
      (is : (bytes : List ℕ) (lim : ℕ)
      → R bytes lim ≡ scanned why (min (length bytes) lim) lim (scan (take (most lim) bytes)))
    where
      abbrev moment : Moment
      moment bytes lim = until last (most lim) bytes

      stands_by : (bytes : List ℕ) (lim : ℕ) → moment bytes lim ≤ length bytes → (o : Option Y)
          → scan (take (most lim) bytes) ≡ o → IsCut (scanned why (min (length bytes) lim) lim o) → ⊥
      stands_by bytes lim h None e c = fault (length bytes) lim (omega (arith, h, none_full (most lim) bytes e h)) c
      stands_by bytes lim h (Some y) e c = c

      stays_by : (bytes more : List ℕ) (lim : ℕ) → moment bytes lim ≤ length bytes → (o : Option Y)
          → scan (take (most lim) bytes) ≡ o
          → scanned why (min (length (bytes ++ more)) lim) lim o ≡ scanned why (min (length bytes) lim) lim o
      stays_by bytes more lim h None e =
          let enough : most lim ≤ length bytes = omega (arith, h, none_full (most lim) bytes e h) in
          ap (λ (r : Reason). broken Y 0 r)
          (full (length (bytes ++ more)) (length bytes) lim (omega (arith, enough, length-append bytes more)) enough)
      stays_by bytes more lim h (Some y) e = refl

      whole_by : (bytes : List ℕ) (lim : ℕ) (o : Option Y) → scan (take (most lim) bytes) ≡ o → (x : Y) (n : ℕ)
          → scanned why (min (length bytes) lim) lim o ≡ Found x n → moment bytes lim ≡ n
      whole_by bytes lim None e x n q = absurd cc
      whole_by bytes lim (Some y) e x n q = some_size (most lim) bytes y e ∙ (found_value y x (size y) n q).1

      pub scan_has : HasMoment R moment
      scan_has = record {
        waits = λ bytes lim h. let k = none_short (most lim) bytes h in
            subst IsCut (sym (is bytes lim ∙ ap (scanned why (min (length bytes) lim) lim) k.0))
            (short (length bytes) lim k.1);
        stands =
            λ bytes lim h c. stands_by bytes lim h (scan (take (most lim) bytes)) refl (subst IsCut (is bytes lim) c);
        early = λ bytes more lim h. early_more (most lim) bytes more h;
        steady = λ bytes more lim h. (same_more (most lim) bytes more h).1;
        stays = λ bytes more lim h.
            is (bytes ++ more) lim
            ∙ ap (scanned why (min (length (bytes ++ more)) lim) lim) (same_more (most lim) bytes more h).0
            ∙ stays_by bytes more lim h (scan (take (most lim) bytes)) refl
            ∙ sym (is bytes lim);
        whole = λ bytes lim x n e. whole_by bytes lim (scan (take (most lim) bytes)) refl x n (sym (is bytes lim) ∙ e);
      }

-- ---- LEB numbers: at the last byte, at the sixteenth, or at the unit's end

abbrev pub ends_number : ℕ → Bool
ends_number b = nat_lt b 128

abbrev pub most_groups : ℕ → ℕ
most_groups lim = min 16 lim

abbrev pub leb_moment : Moment
leb_moment bytes lim = until ends_number (most_groups lim) bytes

take_same : (m n : ℕ) (bytes : List ℕ) → ((m ≡ n) ⊎ ((length bytes ≤ m) × (length bytes ≤ n)))
    → take m bytes ≡ take n bytes
take_same m n bytes (inl e) = ap (λ (k : ℕ). take k bytes) e
take_same m n bytes (inr h) = take_all m bytes h.0 ∙ sym (take_all n bytes h.1)

groups_front : (bytes : List ℕ) (lim : ℕ) → take (min 16 (min (length bytes) lim)) bytes ≡ take (most_groups lim) bytes
groups_front bytes lim =
    take_same _ _ bytes
    (elim (fewer_or_enough (length bytes) (min 16 lim))
    [ inl h ↦ inr (omega (arith, h), omega (arith, h)) | inr h ↦ inl (omega (arith, h)) ])

group_more : (b : ℕ) (bs : List ℕ) → ends_number b ≡ false
    → groups_of (b ∷ bs) ≡ option_map (λ front. (b - 128) ∷ front) (groups_of bs)
group_more b bs e = rw e (by (groups_of bs))
  where
    by : (o : Option (List ℕ))
        → elim o [ None ↦ None | Some front ↦ Some ((b - 128) ∷ front) ] ≡ option_map (λ front. (b - 128) ∷ front) o
    by None = refl
    by (Some front) = refl

unmarked_short : (len lim : ℕ) → len < most_groups lim → unmarked (min len lim) lim ≡ Truncated
unmarked_short len lim h =
    let few : min len lim < 16 = omega (arith, h) in
    let other : min len lim ≢ lim = λ e. omega (arith, h, e) in
    rw (lt-leb 16 (min len lim) few, ne_eqb (min len lim) lim other) refl

-- where the most is reached, the reason is one
unmarked_full : (len lim : ℕ) → most_groups lim ≤ len
    → unmarked (min len lim) lim ≡ (if nat_le 16 lim then LebTooLong else PastUnit)
unmarked_full len lim h = by (nat_le 16 lim) refl
  where
    by : (v : Bool) → nat_le 16 lim ≡ v → unmarked (min len lim) lim ≡ (if v then LebTooLong else PastUnit)
    by true e = let le : 16 ≤ min len lim = omega (arith, h, leb-true 16 lim e) in rw (le-leb 16 (min len lim) le) refl
    by false e =
        let lt : lim < 16 = leb-false 16 lim e in
        let m : min len lim ≡ lim = omega (arith, h, lt) in
        rw (m, e, eq-eqb lim lim refl) refl

not_cut : (v : Bool) → (if v then LebTooLong else PastUnit) ≢ Truncated
not_cut true = λ e. cc
not_cut false = λ e. cc

pub groups_has : HasMoment read_groups leb_moment
groups_has =
    scan_has ends_number groups_of length (λ b. b ∷ []) (λ b front. (b - 128) ∷ front) refl (λ b bs e. rw e refl)
    group_more (λ b. refl) (λ b y. refl)
    unmarked most_groups unmarked_short
    (λ a b lim h g. unmarked_full a lim h ∙ sym (unmarked_full b lim g))
    (λ len lim h e. not_cut (nat_le 16 lim) (sym (unmarked_full len lim h) ∙ e))
    read_groups
    (λ bytes lim.
    ap (groups_outcome (min (length bytes) lim) lim) (ap groups_of (groups_front bytes lim))
    ∙ same (min (length bytes) lim) lim (groups_of (take (most_groups lim) bytes)))
  where
    same : (m lim : ℕ) (o : Option (List ℕ))
        → groups_outcome m lim o
        ≡ scanned ends_number groups_of length (λ b. b ∷ []) (λ b front. (b - 128) ∷ front) refl (λ b bs e. rw e refl)
        group_more (λ b. refl) (λ b y. refl) unmarked m lim o
    same m lim None = refl
    same m lim (Some y) = refl

pub uleb_has : HasMoment read_uleb leb_moment
uleb_has =
    checked_moment (made uleb_from read_groups) above_u64
    (λ u. refuses_unless (nat_lt u.value (2 ^ 64)) LebTooBig (λ e. cc)) leb_moment
    (made_moment uleb_from read_groups leb_moment groups_has)

pub sleb_has : HasMoment read_sleb leb_moment
sleb_has =
    checked_moment (made sleb_from read_groups) outside_i64
    (λ s. refuses_unless (nat_lt (extent s.value) (2 ^ 63)) LebTooBig (λ e. cc)) leb_moment
    (made_moment sleb_from read_groups leb_moment groups_has)

-- ---- texts: at the zero, or at the unit's end

abbrev pub is_zero : ℕ → Bool
is_zero b = b == 0

abbrev pub most_text : ℕ → ℕ
most_text lim = lim

abbrev pub text_moment : Moment
text_moment bytes lim = until is_zero lim bytes

text_front : (bytes : List ℕ) (lim : ℕ) → take (min (length bytes) lim) bytes ≡ take lim bytes
text_front bytes lim =
    take_same _ _ bytes
    (elim (fewer_or_enough (length bytes) lim)
    [ inl h ↦ inr (omega (arith, h), omega (arith, h)) | inr h ↦ inl (omega (arith, h)) ])

text_more : (b : ℕ) (bs : List ℕ) → is_zero b ≡ false
    → before_zero (b ∷ bs) ≡ option_map (λ front. b ∷ front) (before_zero bs)
text_more b bs e = rw e (by (before_zero bs))
  where
    by : (o : Option (List ℕ))
        → elim o [ None ↦ None | Some front ↦ Some (b ∷ front) ] ≡ option_map (λ front. b ∷ front) o
    by None = refl
    by (Some front) = refl

abbrev text_size : List ℕ → ℕ
text_size front = length front + 1

text_grown : (b : ℕ) (front : List ℕ) → text_size (b ∷ front) ≡ suc (text_size front)
text_grown b front = omega arith

unended_short : (len lim : ℕ) → len < lim → unended (min len lim) lim ≡ Truncated
unended_short len lim h =
    let other : min len lim ≢ lim = λ e. omega (arith, h, e) in rw (ne_eqb (min len lim) lim other) refl

unended_full : (len lim : ℕ) → lim ≤ len → unended (min len lim) lim ≡ PastUnit
unended_full len lim h = by (min len lim == lim) refl
  where
    by : (v : Bool) → (min len lim == lim) ≡ v → (if v then PastUnit else Truncated) ≡ PastUnit
    by true e = refl
    by false e = absurd (eqb-false (min len lim) lim e (omega (arith, h)))

pub text_has : HasMoment read_text text_moment
text_has =
    scan_has is_zero before_zero text_size (λ b. []) (λ b front. b ∷ front) refl (λ b bs e. rw e refl) text_more
    (λ b. refl) text_grown
    unended most_text unended_short
    (λ a b lim h g. unended_full a lim h ∙ sym (unended_full b lim g))
    (λ len lim h e. absurd (past_cut (sym (unended_full len lim h) ∙ e)))
    read_text
    (λ bytes lim.
    ap (text_outcome (min (length bytes) lim) lim) (ap before_zero (text_front bytes lim))
    ∙ same (min (length bytes) lim) lim (before_zero (take lim bytes)))
  where
    past_cut : PastUnit ≡ Truncated → ⊥
    past_cut e = cc

    same : (m lim : ℕ) (o : Option (List ℕ))
        → text_outcome m lim o
        ≡ scanned is_zero before_zero text_size (λ b. []) (λ b front. b ∷ front) refl (λ b bs e. rw e refl) text_more
        (λ b. refl) text_grown unended m lim o
    same m lim None = refl
    same m lim (Some y) = refl

-- ---- the initial length

abbrev pub length_moment : Order → Moment
length_moment order =
    moment_then (checked (read_fixed order 4) reserved) (count_moment 4)
    (λ x. optional_when (x == 0xffffffff) (count_moment 8))

pub reserved_judges : Judges reserved
reserved_judges x = refuses_where (nat_le 0xfffffff0 x && nat_lt x 0xffffffff) ReservedLength (λ e. cc)

pub too_far_judges : (start : ℕ) → Judges (too_far start)
too_far_judges start x = refuses_unless (nat_lt (start + length_size x.0 + x.1) (2 ^ 63)) LengthTooBig (λ e. cc)

pub length_field_has : (order : Order) → HasMoment (read_length_field order) (length_moment order)
length_field_has order =
    let parts : Reader (ℕ × Option ℕ) =
    checked (read_fixed order 4) reserved and_then λ x. read_optional (x == 0xffffffff) (read_fixed order 8) in
    one_field_moment (made initial_from parts) (length_moment order)
    (made_moment initial_from parts (length_moment order)
    (then_moment (checked (read_fixed order 4) reserved) (λ x. read_optional (x == 0xffffffff) (read_fixed order 8))
    (count_moment 4) (λ x. optional_when (x == 0xffffffff) (count_moment 8))
    (checked_moment (read_fixed order 4) reserved reserved_judges (count_moment 4) (fixed_has order 4))
    (λ x. optional_moment (x == 0xffffffff) (read_fixed order 8) (count_moment 8) (fixed_has order 8))))

pub length_has : (order : Order) (start : ℕ) → HasMoment (read_length order start) (length_moment order)
length_has order start =
    checked_moment (read_length_field order) (too_far start) (too_far_judges start) (length_moment order)
    (length_field_has order)

-- ---- numbers that aren't complete

-- n bytes within lim are wanted, whatever is there
pub count_wants : (n : ℕ) (bytes : List ℕ) (lim : ℕ) → n ≤ lim → count_moment n bytes lim ≡ n
count_wants n bytes lim h = rw (le-ltb lim n h) refl

-- past the unit's end none is: the fault stands at once
pub count_faults : (n : ℕ) (bytes : List ℕ) (lim : ℕ) → lim < n → count_moment n bytes lim ≡ 0
count_faults n bytes lim h = rw (lt-ltb lim n h) refl

until_more : (last : ℕ → Bool) (n : ℕ) (bytes : List ℕ) → AllByRecursion (λ b. last b ≡ false) bytes → length bytes < n
    → until last n bytes ≡ length bytes + 1
until_more last zero bytes all h = absurd (omega (arith, h))
until_more last (suc n) [] all h = refl
until_more last (suc n) (b ∷ bytes) all h =
    rw all.0 (ap suc (until_more last n bytes all.1 (omega (arith, h))) ∙ omega arith)

until_full : (last : ℕ → Bool) (n : ℕ) (bytes : List ℕ) → AllByRecursion (λ b. last b ≡ false) bytes → n ≤ length bytes
    → until last n bytes ≡ n
until_full last zero bytes all h = refl
until_full last (suc n) [] all h = absurd (omega (arith, h))
until_full last (suc n) (b ∷ bytes) all h = rw all.0 (ap suc (until_full last n bytes all.1 (omega (arith, h))))

until_last : (last : ℕ → Bool) (n : ℕ) (bytes rest : List ℕ) (b : ℕ) → AllByRecursion (λ b. last b ≡ false) bytes
    → last b ≡ true → length bytes < n → until last n (bytes ++ (b ∷ rest)) ≡ length bytes + 1
until_last last zero bytes rest b all e h = absurd (omega (arith, h))
until_last last (suc n) [] rest b all e h = rw e refl
until_last last (suc n) (c ∷ bytes) rest b all e h =
    rw all.0 (ap suc (until_last last n bytes rest b all.1 e (omega (arith, h))) ∙ omega arith)

-- bytes with bit 7 set, fewer than 16 and than are left: one more is wanted
pub leb_wants : (bytes : List ℕ) (lim : ℕ) → AllByRecursion (λ b. ends_number b ≡ false) bytes
    → length bytes < most_groups lim → leb_moment bytes lim ≡ length bytes + 1
leb_wants bytes lim all h = until_more ends_number (most_groups lim) bytes all h

-- the last byte is there
pub leb_stands : (bytes rest : List ℕ) (b lim : ℕ) → AllByRecursion (λ b. ends_number b ≡ false) bytes
    → ends_number b ≡ true → length bytes < most_groups lim → leb_moment (bytes ++ (b ∷ rest)) lim ≡ length bytes + 1
leb_stands bytes rest b lim all e h = until_last ends_number (most_groups lim) bytes rest b all e h

-- the sixteenth, or the last of the unit: a fault
pub leb_faults : (bytes : List ℕ) (lim : ℕ) → AllByRecursion (λ b. ends_number b ≡ false) bytes
    → most_groups lim ≤ length bytes → leb_moment bytes lim ≡ most_groups lim
leb_faults bytes lim all h = until_full ends_number (most_groups lim) bytes all h

-- ---- texts that aren't complete

pub text_wants : (bytes : List ℕ) (lim : ℕ) → AllByRecursion (λ b. is_zero b ≡ false) bytes → length bytes < lim
    → text_moment bytes lim ≡ length bytes + 1
text_wants bytes lim all h = until_more is_zero lim bytes all h

pub text_stands : (bytes rest : List ℕ) (lim : ℕ) → AllByRecursion (λ b. is_zero b ≡ false) bytes → length bytes < lim
    → text_moment (bytes ++ (0 ∷ rest)) lim ≡ length bytes + 1
text_stands bytes rest lim all h = until_last is_zero lim bytes rest 0 all refl h

pub text_faults : (bytes : List ℕ) (lim : ℕ) → AllByRecursion (λ b. is_zero b ≡ false) bytes → lim ≤ length bytes
    → text_moment bytes lim ≡ lim
text_faults bytes lim all h = until_full is_zero lim bytes all h

-- ---- behind a first part that is spelled

pub behind_spelled : {A : Type 0} (P : Part A) (R : Reader A) (it : Decides P R) (m : Moment) (next : A → Moment)
    (a : A) (rest : List ℕ) (lim : ℕ) → P.Fits a → length (P.spell a) ≤ lim
    → moment_then R m next (P.spell a ++ rest) lim ≡ length (P.spell a) + next a rest (lim - length (P.spell a))
behind_spelled P R it m next a rest lim fits within =
    ap (λ (o : Outcome _). behind_moment o (m (P.spell a ++ rest) lim) next (P.spell a ++ rest) lim)
    (it.takes a rest lim fits within)
    ∙ ap (λ (bs : List ℕ). length (P.spell a) + next a bs (lim - length (P.spell a)))
    (drop_at (P.spell a) rest (length (P.spell a)) refl)
