-- Digits, and the parts that the numbers and texts are made of.
use Rattle.std.proofs.Common.{◌≡◌, ℕ, zero, suc, ◌+◌, ◌-◌, ◌*◌, ◌/◌, ◌%◌, ◌^◌, ◌<◌, ◌≤◌, min, Bool, true, false, List, [], ◌∷◌, ◌++◌, length, take, drop, reverse, Option, Some, None, refl, sym, ap, subst, ◌∙◌, append_assoc, arith, inl, inr}
use Rattle.std.specs.Prelude.{if◌then◌else◌, nat_lt, nat_le, ◌==◌}
use Rattle.std.specs.List.{AllByRecursion}
use Rattle.std.proofs.Math.Nat.{mod-add-div, pow-suc, pow-zero}
use Rattle.std.proofs.lemmas.Nat.{div-mul-add, mod-mul-add, mod_below, div_below}
use Rattle.std.proofs.lemmas.Bool.{ltb-true, ltb-false, lt-ltb, le-ltb, eqb-true, eqb-false, ne_eqb, leb-true, le-leb}
use Rattle.std.proofs.lemmas.List.{take_at, take-append-drop, take-append-le, length-append, length-take, length-take-le, reverse-reverse, length-reverse, reverse-append}
use Rattle.dw_leb.specs.Part.{Reason, Truncated, PastUnit}
use Rattle.dw_leb.specs.Number.{Order, Little, Big, digits, fixed_bytes, Short, fixed, content, text, marked, groups}
use Rattle.dw_leb.specs.Reader.{Outcome, Found, Broken, mapped}
use Rattle.dw_leb.specs.ReadNumber.{undigits, ordered, bytes_of, read_fixed, before_zero, read_text, groups_of, read_groups, text_outcome, groups_outcome}
use Rattle.dw_leb.specs.Decide.{Decides, Says, AreBytes, found}
use Rattle.dw_leb.specs.PartLaws.{Stays}

module _ (base : ℕ) (some : 0 < base) where
  pub length-digits : (n x : ℕ) → length (digits base n x) ≡ n
  length-digits zero x = refl
  length-digits (suc n) x = ap suc (length-digits n (x / base))

  pub digits_below : (n x : ℕ) → AllByRecursion (λ d. d < base) (digits base n x)
  digits_below zero x = tt
  digits_below (suc n) x = (mod_below x base some, digits_below n (x / base))

  pub undigits-digits : (n x : ℕ) → x < base ^ n → undigits base (digits base n x) ≡ x
  undigits-digits zero x lt = let one : base ^ 0 ≡ 1 = pow-zero base in omega (arith, rw one at lt)
  undigits-digits (suc n) x lt =
      rw (undigits-digits n (x / base) (div_below x base (base ^ n) some (rw pow-suc at lt))) (mod-add-div x base)

  pub undigits_below : (ds : List ℕ) → AllByRecursion (λ d. d < base) ds → undigits base ds < base ^ length ds
  undigits_below [] h = rw pow-zero (omega arith)
  undigits_below (d ∷ ds) h =
      let ih : undigits base ds < base ^ length ds = undigits_below ds h.1 in
      rw pow-suc (grow (undigits base ds) (base ^ length ds) d ih h.0)
    where
      grow : (u p d : ℕ) → u < p → d < base → d + base * u < p * base
      grow u p d lt below = grind arith

  pub digits-undigits : (ds : List ℕ) → AllByRecursion (λ d. d < base) ds
      → digits base (length ds) (undigits base ds) ≡ ds
  digits-undigits [] h = refl
  digits-undigits (d ∷ ds) h =
      let u : ℕ = undigits base ds in
      let swap : d + base * u ≡ u * base + d = omega arith in
      let low : (d + base * u) % base ≡ d = ap (λ (x : ℕ). x % base) swap ∙ mod-mul-add u base d h.0 in
      let high : (d + base * u) / base ≡ u = ap (λ (x : ℕ). x / base) swap ∙ div-mul-add u base d h.0 in
      rw (low, high) (ap (λ (xs : List ℕ). d ∷ xs) (digits-undigits ds h.1))

-- ---- n bytes

take_front : (n : ℕ) (bytes : List ℕ) → n ≤ length bytes → bytes ≡ take n bytes ++ drop n bytes
take_front n bytes le = sym (take-append-drop n bytes)

pub content_says : (n : ℕ) (bytes : List ℕ) (lim : ℕ) → Says (content n) bytes lim (bytes_of n bytes lim)
content_says n bytes lim = first (nat_lt lim n) refl
  where
    second : (v : Bool) → nat_lt (length bytes) n ≡ v → n ≤ lim
        → Says (content n) bytes lim (if v then Broken 0 Truncated else Found (take n bytes) n)
    second true e le = (refl, inr (le, ltb-true _ _ e, refl))
    second false e le = let h : n ≤ length bytes = ltb-false _ _ e in
        record {
          rest = drop n bytes;
          fits = length-take-le n bytes h;
          split = sym (take-append-drop n bytes);
          is_size = length-take-le n bytes h;
          within = le;
        }

    first : (v : Bool) → nat_lt lim n ≡ v
        → Says (content n) bytes lim
        (if v then Broken 0 PastUnit
        else (if nat_lt (length bytes) n then Broken 0 Truncated else Found (take n bytes) n))
    first true e = (refl, inl (ltb-true _ _ e, refl))
    first false e = second (nat_lt (length bytes) n) refl (ltb-false _ _ e)

pub short_faults : (n : ℕ) (bytes : List ℕ) (lim offset : ℕ) (reason : Reason) → Short n bytes lim offset reason
    → bytes_of n bytes lim ≡ Broken offset reason
short_faults n bytes lim offset reason h = elim h.1 [
  | inl past ↦ rw (lt-ltb lim n past.0, h.0, past.1) refl
  | inr cut ↦ rw (le-ltb lim n cut.0, lt-ltb (length bytes) n cut.1, h.0, cut.2) refl
]

pub content_takes : (n : ℕ) (x rest : List ℕ) (lim : ℕ) → length x ≡ n → n ≤ lim
    → bytes_of n (x ++ rest) lim ≡ found x n
content_takes n x rest lim e within =
    let long : n ≤ length (x ++ rest) = omega (arith, length-append x rest) in
    rw (le-ltb lim n within, le-ltb (length (x ++ rest)) n long, take_at x rest n e) refl

pub content_decides : (n : ℕ) → Decides (content n) (bytes_of n)
content_decides n = record {
  takes =
      λ x rest lim fits within. content_takes n x rest lim fits (omega arith) ∙ ap (λ (k : ℕ). found x k) (sym fits);
  faults = short_faults n;
  says = λ bytes lim fit. content_says n bytes lim;
}

-- ---- fixed numbers

ordered-length : (order : Order) (bytes : List ℕ) → length (ordered order bytes) ≡ length bytes
ordered-length Little bytes = refl
ordered-length Big bytes = length-reverse bytes

fixed_is : (order : Order) (n x : ℕ) → fixed_bytes order n x ≡ ordered order (digits 256 n x)
fixed_is Little n x = refl
fixed_is Big n x = refl

ordered-ordered : (order : Order) (bytes : List ℕ) → ordered order (ordered order bytes) ≡ bytes
ordered-ordered Little bytes = refl
ordered-ordered Big bytes = reverse-reverse bytes

pub length-fixed : (order : Order) (n x : ℕ) → length (fixed_bytes order n x) ≡ n
length-fixed order n x = rw fixed_is (ordered-length order (digits 256 n x) ∙ length-digits 256 (omega arith) n x)

AllByRecursion-append : (P : ℕ → Type 0) (xs ys : List ℕ) → AllByRecursion P xs → AllByRecursion P ys
    → AllByRecursion P (xs ++ ys)
AllByRecursion-append P [] ys h g = g
AllByRecursion-append P (x ∷ xs) ys h g = (h.0, AllByRecursion-append P xs ys h.1 g)

AllByRecursion-take : (P : ℕ → Type 0) (n : ℕ) (xs : List ℕ) → AllByRecursion P xs → AllByRecursion P (take n xs)
AllByRecursion-take P zero xs h = tt
AllByRecursion-take P (suc n) [] h = tt
AllByRecursion-take P (suc n) (x ∷ xs) h = (h.0, AllByRecursion-take P n xs h.1)

AreBytes-reverse : (xs : List ℕ) → AreBytes xs → AreBytes (reverse xs)
AreBytes-reverse [] h = tt
AreBytes-reverse (x ∷ xs) h =
    rw (reverse-append (x ∷ []) xs)
    (AllByRecursion-append (λ b. b < 256) (reverse xs) (x ∷ []) (AreBytes-reverse xs h.1) (h.0, tt))

AreBytes-ordered : (order : Order) (xs : List ℕ) → AreBytes xs → AreBytes (ordered order xs)
AreBytes-ordered Little xs h = h
AreBytes-ordered Big xs h = AreBytes-reverse xs h

fixed_again : (order : Order) (bytes : List ℕ) (n : ℕ) → length bytes ≡ n → AreBytes bytes
    → fixed_bytes order n (undigits 256 (ordered order bytes)) ≡ bytes
fixed_again order bytes n e h =
    let len : length (ordered order bytes) ≡ n = ordered-length order bytes ∙ e in
    fixed_is order n (undigits 256 (ordered order bytes))
    ∙ ap (λ (k : ℕ). ordered order (digits 256 k (undigits 256 (ordered order bytes)))) (sym len)
    ∙ ap (ordered order) (digits-undigits 256 (omega arith) (ordered order bytes) (AreBytes-ordered order bytes h))
    ∙ ordered-ordered order bytes

pub fixed_decides : (order : Order) (n : ℕ) → Decides (fixed order n) (read_fixed order n)
fixed_decides order n = record {
  takes = λ x rest lim fits within.
      let len : length (fixed_bytes order n x) ≡ n = length-fixed order n x in
      let back : undigits 256 (ordered order (fixed_bytes order n x)) ≡ x =
      ap (λ (b : List ℕ). undigits 256 (ordered order b)) (fixed_is order n x)
      ∙ ap (undigits 256) (ordered-ordered order (digits 256 n x)) ∙ undigits-digits 256 (omega arith) n x fits in
      rw (content_takes n (fixed_bytes order n x) rest lim len (omega (arith, within)), back, len) refl;
  faults = λ bytes lim offset reason h. rw (short_faults n bytes lim offset reason h) refl;
  says = λ bytes lim fit. says bytes lim fit (bytes_of n bytes lim) (content_says n bytes lim);
}
  where
    says : (bytes : List ℕ) (lim : ℕ) → AreBytes bytes → (o : Outcome (List ℕ)) → Says (content n) bytes lim o
        → Says (fixed order n) bytes lim (mapped (λ b. undigits 256 (ordered order b)) o)
    says bytes lim fit (Broken offset reason) h = h
    says bytes lim fit (Found x size) h =
        let fit_x : AreBytes x =
        rw (take_at x h.rest size h.is_size) at
        (AllByRecursion-take (λ b. b < 256) size (x ++ h.rest) (rw h.split at fit)) in
        let again : fixed_bytes order n (undigits 256 (ordered order x)) ≡ x = fixed_again order x n h.fits fit_x in
        let below : undigits 256 (ordered order x) < 256 ^ n =
        subst (λ (k : ℕ). undigits 256 (ordered order x) < 256 ^ k) (ordered-length order x ∙ h.fits)
        (undigits_below 256 (omega arith) (ordered order x) (AreBytes-ordered order x fit_x)) in
        record
        { rest = h.rest; fits = below; split = rw again h.split; is_size = rw again h.is_size; within = h.within }

-- ---- texts

text_take : (xs rest : List ℕ) (m : ℕ) → AllByRecursion (λ b. 0 < b) xs → length xs < m
    → before_zero (take m (xs ++ 0 ∷ rest)) ≡ Some xs
text_take xs rest zero h lt = absurd (omega (arith, lt))
text_take [] rest (suc m) h lt = refl
text_take (x ∷ xs) rest (suc m) h lt =
    rw (ne_eqb x 0 (λ e. omega (arith, h.0, e)), text_take xs rest m h.1 (omega (arith, lt))) refl

text_none : (xs : List ℕ) → AllByRecursion (λ b. 0 < b) xs → before_zero xs ≡ None
text_none [] h = refl
text_none (x ∷ xs) h = rw (ne_eqb x 0 (λ e. omega (arith, h.0, e)), text_none xs h.1) refl

abbrev TextSays : List ℕ → Option (List ℕ) → Type 0
TextSays xs None = AllByRecursion (λ b. 0 < b) xs
TextSays xs (Some front) = AllByRecursion (λ b. 0 < b) front × (tail : List ℕ) × (xs ≡ front ++ 0 ∷ tail)

text_says : (xs : List ℕ) → TextSays xs (before_zero xs)
text_says [] = tt
text_says (x ∷ xs) = step (x == 0) refl (before_zero xs) (text_says xs)
  where
    step : (v : Bool) → (x == 0) ≡ v → (o : Option (List ℕ)) → TextSays xs o
        → TextSays (x ∷ xs) (if v then Some [] else elim o [ None ↦ None | Some front ↦ Some (x ∷ front) ])
    step true e o h = (tt, xs, ap (λ (y : ℕ). y ∷ xs) (eqb-true x 0 e))
    step false e None h = (omega (arith, eqb-false x 0 e), h)
    step false e (Some front) h = ((omega (arith, eqb-false x 0 e), h.0), h.1, ap (λ (ys : List ℕ). x ∷ ys) h.2)

pub text_decides : Decides text read_text
text_decides = record {
  takes = λ xs rest lim fits within.
      let len : length (xs ++ 0 ∷ []) ≡ length xs + 1 = length-append xs (0 ∷ []) in
      let all : length ((xs ++ 0 ∷ []) ++ rest) ≡ length (xs ++ 0 ∷ []) + length rest =
      length-append (xs ++ 0 ∷ []) rest in
      let m : ℕ = min (length ((xs ++ 0 ∷ []) ++ rest)) lim in
      let got : before_zero (take m ((xs ++ 0 ∷ []) ++ rest)) ≡ Some xs =
      ap (λ (b : List ℕ). before_zero (take m b)) (append_assoc xs (0 ∷ []) rest)
      ∙ text_take xs rest m fits (omega arith) in
      ap (text_outcome m lim) got ∙ ap (λ (n : ℕ). found xs n) (sym len);
  faults =
      λ bytes lim offset reason h.
      ap (text_outcome (min (length bytes) lim) lim) (text_none (take (min (length bytes) lim) bytes) h.1)
      ∙ rw (h.0, h.2) refl;
  says =
      λ bytes lim fit.
      says bytes lim (before_zero (take (min (length bytes) lim) bytes))
      (text_says (take (min (length bytes) lim) bytes));
}
  where
    says : (bytes : List ℕ) (lim : ℕ) (o : Option (List ℕ)) → TextSays (take (min (length bytes) lim) bytes) o
        → Says text bytes lim (text_outcome (min (length bytes) lim) lim o)
    says bytes lim None h = (refl, h, refl)
    says bytes lim (Some front) h =
        let m : ℕ = min (length bytes) lim in
        let len : length (take m bytes) ≡ length (front ++ 0 ∷ h.1) = ap length h.2 in
        let len2 : length (front ++ 0 ∷ h.1) ≡ length front + suc (length h.1) = length-append front (0 ∷ h.1) in
        let len3 : length (take m bytes) ≡ min m (length bytes) = length-take m bytes in
        let len4 : length (front ++ 0 ∷ []) ≡ length front + 1 = length-append front (0 ∷ []) in
        record {
          rest = h.1 ++ drop m bytes;
          fits = h.0;
          split =
              sym (take-append-drop m bytes) ∙ ap (λ (t : List ℕ). t ++ drop m bytes) h.2
              ∙ append_assoc front (0 ∷ h.1) (drop m bytes) ∙ sym (append_assoc front (0 ∷ []) (h.1 ++ drop m bytes));
          is_size = len4;
          within = omega arith;
        }

-- ---- groups of seven bits

pub length-marked : (ds : List ℕ) → length (marked ds) ≡ length ds
length-marked [] = refl
length-marked (d ∷ []) = refl
length-marked (d ∷ e ∷ ds) = ap suc (length-marked (e ∷ ds))

groups_take : (ds rest : List ℕ) (m : ℕ) → 0 < length ds → AllByRecursion (λ d. d < 128) ds → length ds ≤ m
    → groups_of (take m (marked ds ++ rest)) ≡ Some ds
groups_take [] rest m some h le = absurd (omega (arith, some))
groups_take (d ∷ ds) rest zero some h le = absurd (omega (arith, le))
groups_take (d ∷ []) rest (suc m) some h le = rw (lt-ltb d 128 h.0) refl
groups_take (d ∷ e ∷ ds) rest (suc m) some h le =
    let back : d + 128 - 128 ≡ d = omega arith in
    let le_d : 128 ≤ d + 128 = omega arith in
    rw (le-ltb (d + 128) 128 le_d, groups_take (e ∷ ds) rest m (omega arith) h.1 (omega (arith, le)), back) refl

groups_none : (xs : List ℕ) → AllByRecursion (λ b. 128 ≤ b) xs → groups_of xs ≡ None
groups_none [] h = refl
groups_none (x ∷ xs) h = rw (le-ltb x 128 h.0, groups_none xs h.1) refl

abbrev GroupsSay : List ℕ → Option (List ℕ) → Type 0
GroupsSay xs None = AllByRecursion (λ b. 128 ≤ b) xs
GroupsSay xs (Some ds) = (0 < length ds) × AllByRecursion (λ d. d < 128) ds × (tail : List ℕ) × (xs ≡ marked ds ++ tail)

marked_more : (d : ℕ) (ds : List ℕ) → 0 < length ds → marked (d ∷ ds) ≡ (d + 128) ∷ marked ds
marked_more d [] lt = absurd (omega (arith, lt))
marked_more d (e ∷ ds) lt = refl

groups_say : (xs : List ℕ) → AreBytes xs → GroupsSay xs (groups_of xs)
groups_say [] fit = tt
groups_say (x ∷ xs) fit = step (nat_lt x 128) refl (groups_of xs) (groups_say xs fit.1)
  where
    step : (v : Bool) → nat_lt x 128 ≡ v → (o : Option (List ℕ)) → GroupsSay xs o
        → GroupsSay (x ∷ xs)
        (if v then Some (x ∷ []) else elim o [ None ↦ None | Some front ↦ Some ((x - 128) ∷ front) ])
    step true e o h = (omega arith, (ltb-true x 128 e, tt), xs, refl)
    step false e None h = (ltb-false x 128 e, h)
    step false e (Some ds) h =
        let le : 128 ≤ x = ltb-false x 128 e in
        let back : x - 128 + 128 ≡ x = omega arith in (
          omega arith,
          (omega (arith, fit.0), h.1),
          h.2,
          rw (marked_more (x - 128) ds h.0, back) (ap (λ (ys : List ℕ). x ∷ ys) h.3),
        )

pub groups_decides : Decides groups read_groups
groups_decides = record {
  takes = λ ds rest lim fits within.
      let len : length (marked ds) ≡ length ds = length-marked ds in
      let all : length (marked ds ++ rest) ≡ length (marked ds) + length rest = length-append (marked ds) rest in
      ap (groups_outcome (min (length (marked ds ++ rest)) lim) lim)
      (groups_take ds rest (min 16 (min (length (marked ds ++ rest)) lim)) fits.0 fits.2 (omega (arith, fits.1)))
      ∙ ap (λ (n : ℕ). found ds n) (sym len);
  faults =
      λ bytes lim offset reason h.
      ap (groups_outcome (min (length bytes) lim) lim)
      (groups_none (take (min 16 (min (length bytes) lim)) bytes) h.1)
      ∙ rw (h.0, h.2) refl;
  says =
      λ bytes lim fit.
      says bytes lim (groups_of (take (min 16 (min (length bytes) lim)) bytes))
      (groups_say (take (min 16 (min (length bytes) lim)) bytes)
      (AllByRecursion-take (λ b. b < 256) (min 16 (min (length bytes) lim)) bytes fit));
}
  where
    says : (bytes : List ℕ) (lim : ℕ) (o : Option (List ℕ)) → GroupsSay (take (min 16 (min (length bytes) lim)) bytes) o
        → Says groups bytes lim (groups_outcome (min (length bytes) lim) lim o)
    says bytes lim None h = (refl, h, refl)
    says bytes lim (Some ds) h =
        let m : ℕ = min 16 (min (length bytes) lim) in
        let len : length (take m bytes) ≡ length (marked ds ++ h.2) = ap length h.3 in
        let len2 : length (marked ds ++ h.2) ≡ length (marked ds) + length h.2 = length-append (marked ds) h.2 in
        let len3 : length (take m bytes) ≡ min m (length bytes) = length-take m bytes in
        let len4 : length (marked ds) ≡ length ds = length-marked ds in
        record {
          rest = h.2 ++ drop m bytes;
          fits = (h.0, omega arith, h.1);
          split =
              sym (take-append-drop m bytes) ∙ ap (λ (t : List ℕ). t ++ drop m bytes) h.3
              ∙ append_assoc (marked ds) h.2 (drop m bytes);
          is_size = len4;
          within = omega arith;
        }

-- ---- breaks that stay

pub Short_stays : (n : ℕ) → Stays (Short n)
Short_stays n bytes more lim offset reason ne h = elim h.1 [
  | inl past ↦ (h.0, inl past)
  | inr cut ↦ absurd (ne cut.2)
]

-- within lim the first bytes are the same whatever follows, where there are so many
more_front : (bytes more : List ℕ) (m : ℕ) → m ≤ length bytes → take m (bytes ++ more) ≡ take m bytes
more_front bytes more m le = take-append-le m bytes more le

pub text_stays : Stays text.Break
text_stays bytes more lim offset reason ne h = by_end (min (length bytes) lim == lim) refl
  where
    by_end : (v : Bool) → (min (length bytes) lim == lim) ≡ v → text.Break (bytes ++ more) lim offset reason
    by_end false e = absurd (ne (h.2 ∙ rw e refl))
    by_end true e =
        let full : min (length bytes) lim ≡ lim = eqb-true _ _ e in
        let longer : length (bytes ++ more) ≡ length bytes + length more = length-append bytes more in
        let same : min (length (bytes ++ more)) lim ≡ min (length bytes) lim = omega arith in
        let le : min (length bytes) lim ≤ length bytes = omega arith in
        (h.0, rw (same, more_front bytes more (min (length bytes) lim) le) h.1, rw same h.2)

pub groups_stays : Stays groups.Break
groups_stays bytes more lim offset reason ne h = by_long (nat_le 16 (min (length bytes) lim)) refl
  where
    longer : length (bytes ++ more) ≡ length bytes + length more
    longer = length-append bytes more

    by_end : (v : Bool) → (min (length bytes) lim == lim) ≡ v → nat_le 16 (min (length bytes) lim) ≡ false
        → groups.Break (bytes ++ more) lim offset reason
    by_end false e short = absurd (ne (h.2 ∙ rw (short, e) refl))
    by_end true e short =
        let full : min (length bytes) lim ≡ lim = eqb-true _ _ e in
        let same : min (length (bytes ++ more)) lim ≡ min (length bytes) lim = omega (arith, longer) in
        let le : min 16 (min (length bytes) lim) ≤ length bytes = omega arith in
        (h.0, rw (same, more_front bytes more (min 16 (min (length bytes) lim)) le) h.1, rw same h.2)

    by_long : (v : Bool) → nat_le 16 (min (length bytes) lim) ≡ v → groups.Break (bytes ++ more) lim offset reason
    by_long false e = by_end (min (length bytes) lim == lim) refl e
    by_long true e =
        let long : 16 ≤ min (length bytes) lim = leb-true _ _ e in
        let long2 : nat_le 16 (min (length (bytes ++ more)) lim) ≡ true = le-leb _ _ (omega (arith, longer)) in
        let same : min 16 (min (length (bytes ++ more)) lim) ≡ min 16 (min (length bytes) lim) =
        omega (arith, longer) in
        let le : min 16 (min (length bytes) lim) ≤ length bytes = omega arith in
        (h.0, rw (same, more_front bytes more (min 16 (min (length bytes) lim)) le) h.1, h.2 ∙ rw e (rw long2 refl))
