-- A reader decides a part: it takes what is spelled, faults where it breaks, and does nothing else.
use Rattle.std.proofs.Common.{Bool, true, false, ◌≡◌, ℕ, ◌+◌, ◌-◌, ◌<◌, ◌≤◌, List, [], ◌∷◌, ◌++◌, length, drop, Option, Some, None, refl, sym, ap, ◌∙◌, append_assoc, arith, inl, inr}
use Rattle.std.specs.List.{AllByRecursion}
use Rattle.std.proofs.lemmas.List.{drop_at, length-append}
use Rattle.dw_leb.specs.Part.{Reason, Part, ◌then◌, judged, whole, spelled_as, FitsAs, seen, viewed, nothing, exactly, refused, absent, optional, Taken}
use Rattle.dw_leb.specs.Reader.{Outcome, Found, Broken, Reader, paired, behind, ◌and_then◌, mapped, made, refused_if, judged_outcome, checked, at_front, one_field, returned, failing, read_optional}

abbrev pub AreBytes : List ℕ → Type 0
AreBytes bytes = AllByRecursion (λ b. b < 256) bytes

pub AreBytes-behind : (s rest : List ℕ) → AreBytes (s ++ rest) → AreBytes rest
AreBytes-behind [] rest h = h
AreBytes-behind (b ∷ s) rest h = AreBytes-behind s rest h.1

abbrev pub Says : {X : Type 0} → Part X → List ℕ → ℕ → Outcome X → Type 0
Says P bytes lim (Found x size) = Taken P bytes lim x size
Says P bytes lim (Broken offset reason) = P.Break bytes lim offset reason

pub record Decides {X : Type 0} (P : Part X) (R : Reader X) : Type 0 where
  pub takes : (x : X) (rest : List ℕ) (lim : ℕ) → P.Fits x → length (P.spell x) ≤ lim
      → R (P.spell x ++ rest) lim ≡ Found x (length (P.spell x))
  pub faults : (bytes : List ℕ) (lim offset : ℕ) (reason : Reason) → P.Break bytes lim offset reason
      → R bytes lim ≡ Broken offset reason
  pub says : (bytes : List ℕ) (lim : ℕ) → AreBytes bytes → Says P bytes lim (R bytes lim)

abbrev pub found : {X : Type 0} → X → ℕ → Outcome X
found x size = Found x size

abbrev pub broken : (X : Type 0) → ℕ → Reason → Outcome X
broken X offset reason = Broken offset reason

pub found_value : {X : Type 0} (x y : X) (m n : ℕ) → found x m ≡ found y n → (x ≡ y) × (m ≡ n)
found_value x y m n e = (cc, cc)

pub broken_value : (X : Type 0) (m n : ℕ) (r s : Reason) → broken X m r ≡ broken X n s → (m ≡ n) × (r ≡ s)
broken_value X m n r s e = (cc, cc)

pub found_broken : (X : Type 0) (x : X) (m n : ℕ) (r : Reason) → found x m ≡ broken X n r → ⊥
found_broken X x m n r e = cc

-- ---- one part and then another

module _ {A B : Type 0} (P : Part A) (Q : A → Part B) (R : Reader A) (S : A → Reader B) (first : Decides P R)
    (second : (a : A) → Decides (Q a) (S a)) where
  behind_found : (a : A) (rest : List ℕ) (lim : ℕ) → P.Fits a → length (P.spell a) ≤ lim
      → (R and_then S) (P.spell a ++ rest) lim ≡ paired a (length (P.spell a)) (S a rest (lim - length (P.spell a)))
  behind_found a rest lim fits within =
      rw (first.takes a rest lim fits within)
      (ap (λ (b : List ℕ). paired a (length (P.spell a)) (S a b (lim - length (P.spell a))))
      (drop_at (P.spell a) rest (length (P.spell a)) refl))

  then_says : (bytes : List ℕ) (lim : ℕ) → AreBytes bytes → (one : Outcome A) → Says P bytes lim one
      → Says (P then Q) bytes lim (behind one S bytes lim)
  then_says bytes lim fit (Broken offset reason) h = inl h
  then_says bytes lim fit (Found a size) h =
      let e : drop size bytes ≡ h.rest =
      ap (λ (b : List ℕ). drop size b) h.split ∙ drop_at (P.spell a) h.rest size h.is_size in
      rw e
      (next (S a h.rest (lim - size))
      ((second a).says h.rest (lim - size) (AreBytes-behind (P.spell a) h.rest (rw h.split at fit))))
    where
      next : (two : Outcome B) → Says (Q a) h.rest (lim - size) two → Says (P then Q) bytes lim (paired a size two)
      next (Broken offset reason) g =
          inr (
            a,
            h.fits,
            record {
              rest = h.rest;
              own = offset;
              split = h.split;
              within = rw h.is_size h.within;
              sum = ap (λ (n : ℕ). n + offset) (sym h.is_size);
              breaks = rw h.is_size g;
            },
          )
      next (Found b more) g = record {
        rest = g.rest;
        fits = (h.fits, g.fits);
        split =
            h.split ∙ ap (λ (t : List ℕ). P.spell a ++ t) g.split
            ∙ sym (append_assoc (P.spell a) ((Q a).spell b) g.rest);
        is_size =
            length-append (P.spell a) ((Q a).spell b) ∙ ap (λ (n : ℕ). n + length ((Q a).spell b)) h.is_size
            ∙ ap (λ (n : ℕ). size + n) g.is_size;
        within = omega (arith, h.within, g.within);
      }

  pub then_decides : Decides (P then Q) (R and_then S)
  then_decides = record {
    takes = λ x rest lim fits within.
        let sum : length ((P then Q).spell x) ≡ length (P.spell x.0) + length ((Q x.0).spell x.1) =
        length-append (P.spell x.0) ((Q x.0).spell x.1) in
        ap (λ (b : List ℕ). (R and_then S) b lim) (append_assoc (P.spell x.0) ((Q x.0).spell x.1) rest)
        ∙ behind_found x.0 ((Q x.0).spell x.1 ++ rest) lim fits.0 (omega arith)
        ∙ ap (paired x.0 (length (P.spell x.0)))
        ((second x.0).takes x.1 rest (lim - length (P.spell x.0)) fits.1 (omega arith))
        ∙ ap (λ (n : ℕ). found x n) (sym sum);
    faults = λ bytes lim offset reason h. elim h [
      | inl one ↦ rw (first.faults bytes lim offset reason one) refl
      | inr two ↦ let after = two.2 in
          ap (λ (b : List ℕ). (R and_then S) b lim) after.split
          ∙ behind_found two.0 after.rest lim two.1 after.within
          ∙ ap (paired two.0 (length (P.spell two.0)))
          ((second two.0).faults after.rest (lim - length (P.spell two.0)) after.own reason after.breaks)
          ∙ ap (λ (n : ℕ). broken (A × B) n reason) (sym after.sum)
    ];
    says = λ bytes lim fit. then_says bytes lim fit (R bytes lim) (first.says bytes lim fit);
  }

-- ---- spelling before meaning

module _ {X : Type 0} (P : Part X) (R : Reader X) (meaning : X → Option Reason) (it : Decides P R) where
  judged_says : (bytes : List ℕ) (lim : ℕ) (one : Outcome X) → Says P bytes lim one
      → Says (judged P meaning) bytes lim (judged_outcome meaning one)
  judged_says bytes lim (Broken offset reason) h = inl h
  judged_says bytes lim (Found x size) h = next (meaning x) refl
    where
      next : (m : Option Reason) → meaning x ≡ m → Says (judged P meaning) bytes lim (refused_if m x size)
      next None e =
          record { rest = h.rest; fits = (h.fits, e); split = h.split; is_size = h.is_size; within = h.within }
      next (Some reason) e =
          inr
          (record {
            value = x;
            rest = h.rest;
            fits = h.fits;
            split = h.split;
            within = omega (arith, h.is_size, h.within);
            refused = e;
            here = refl;
          })

  pub judged_decides : Decides (judged P meaning) (checked R meaning)
  judged_decides = record {
    takes =
        λ x rest lim fits within.
        rw (it.takes x rest lim fits.0 within)
        (ap (λ (m : Option Reason). refused_if m x (length (P.spell x))) fits.1);
    faults = λ bytes lim offset reason h. elim h [
      | inl one ↦ rw (it.faults bytes lim offset reason one) refl
      | inr bad ↦ ap (λ (b : List ℕ). checked R meaning b lim) bad.split
          ∙ ap (judged_outcome meaning) (it.takes bad.value bad.rest lim bad.fits bad.within)
          ∙ ap (λ (m : Option Reason). refused_if m bad.value (length (P.spell bad.value))) bad.refused
          ∙ ap (λ (n : ℕ). broken X n reason) (sym bad.here)
    ];
    says = λ bytes lim fit. judged_says bytes lim (R bytes lim) (it.says bytes lim fit);
  }

-- ---- one field

module _ {X : Type 0} (P : Part X) (R : Reader X) (it : Decides P R) where
  whole_says : (bytes : List ℕ) (lim : ℕ) (one : Outcome X) → Says P bytes lim one
      → Says (whole P) bytes lim (at_front one)
  whole_says bytes lim (Broken offset reason) h = (refl, offset, h)
  whole_says bytes lim (Found x size) h =
      record { rest = h.rest; fits = h.fits; split = h.split; is_size = h.is_size; within = h.within }

  pub whole_decides : Decides (whole P) (one_field R)
  whole_decides = record {
    takes = λ x rest lim fits within. rw (it.takes x rest lim fits within) refl;
    faults = λ bytes lim offset reason h. rw (it.faults bytes lim h.1 reason h.2, h.0) refl;
    says = λ bytes lim fit. whole_says bytes lim (R bytes lim) (it.says bytes lim fit);
  }

-- ---- values seen as others

pub record IsView {X A : Type 0} (P : Part A) (view : X → Option A) (make : A → X) : Type 0 where
  pub back : (x : X) (a : A) → view x ≡ Some a → P.Fits a → make a ≡ x
  pub there : (a : A) → P.Fits a → view (make a) ≡ Some a

module _ {X A : Type 0} (P : Part A) (R : Reader A) (view : X → Option A) (make : A → X) (is_view : IsView P view make)
    (it : Decides P R) where
  seen_says : (bytes : List ℕ) (lim : ℕ) (one : Outcome A) → Says P bytes lim one
      → Says (seen view P) bytes lim (mapped make one)
  seen_says bytes lim (Broken offset reason) h = h
  seen_says bytes lim (Found a size) h =
      let e : view (make a) ≡ Some a = is_view.there a h.fits in
      record { rest = h.rest; fits = rw e h.fits; split = rw e h.split; is_size = rw e h.is_size; within = h.within }

  seen_takes : (x : X) (rest : List ℕ) (lim : ℕ) (o : Option A) → view x ≡ o → FitsAs P o
      → length (spelled_as P o) ≤ lim → made make R (spelled_as P o ++ rest) lim ≡ found x (length (spelled_as P o))
  seen_takes x rest lim None e fits within = absurd fits
  seen_takes x rest lim (Some a) e fits within =
      rw (it.takes a rest lim fits within) (ap (λ (y : X). found y (length (P.spell a))) (is_view.back x a e fits))

  pub seen_decides : Decides (seen view P) (made make R)
  seen_decides = record {
    takes = λ x rest lim fits within. seen_takes x rest lim (view x) refl fits within;
    faults = λ bytes lim offset reason h. rw (it.faults bytes lim offset reason h) refl;
    says = λ bytes lim fit. seen_says bytes lim (R bytes lim) (it.says bytes lim fit);
  }

pub record IsTotalView {X A : Type 0} (P : Part A) (view : X → A) (Is : X → Type 0) (make : A → X) : Type 0 where
  pub back : (x : X) → Is x → P.Fits (view x) → make (view x) ≡ x
  pub holds : (a : A) → P.Fits a → Is (make a)
  pub there : (a : A) → P.Fits a → view (make a) ≡ a

module _ {X A : Type 0} (P : Part A) (R : Reader A) (view : X → A) (Is : X → Type 0) (make : A → X)
    (is_view : IsTotalView P view Is make) (it : Decides P R) where
  viewed_says : (bytes : List ℕ) (lim : ℕ) (one : Outcome A) → Says P bytes lim one
      → Says (viewed view Is P) bytes lim (mapped make one)
  viewed_says bytes lim (Broken offset reason) h = h
  viewed_says bytes lim (Found a size) h =
      let e : view (make a) ≡ a = is_view.there a h.fits in
      record {
        rest = h.rest;
        fits = (is_view.holds a h.fits, rw e h.fits);
        split = rw e h.split;
        is_size = rw e h.is_size;
        within = h.within;
      }

  pub viewed_decides : Decides (viewed view Is P) (made make R)
  viewed_decides = record {
    takes =
        λ x rest lim fits within.
        rw (it.takes (view x) rest lim fits.1 within)
        (ap (λ (y : X). found y (length (P.spell (view x)))) (is_view.back x fits.0 fits.1));
    faults = λ bytes lim offset reason h. rw (it.faults bytes lim offset reason h) refl;
    says = λ bytes lim fit. viewed_says bytes lim (R bytes lim) (it.says bytes lim fit);
  }

-- ---- no bytes

pub nothing_decides : Decides nothing (returned tt)
nothing_decides = record {
  takes = λ x rest lim fits within. refl;
  faults = λ bytes lim offset reason h. absurd h;
  says = λ bytes lim fit. record { rest = bytes; fits = tt; split = refl; is_size = refl; within = omega arith };
}

pub exactly_decides : {X : Type 0} (x : X) → Decides (exactly x) (returned x)
exactly_decides x = record {
  takes = λ y rest lim fits within. ap (λ (z : _). found z 0) (sym fits);
  faults = λ bytes lim offset reason h. absurd h;
  says = λ bytes lim fit. record { rest = bytes; fits = refl; split = refl; is_size = refl; within = omega arith };
}

pub refused_decides : {X : Type 0} (why : Reason) → Decides (refused {X = X} why) (failing why)
refused_decides {X} why = record {
  takes = λ y rest lim fits within. absurd fits;
  faults = λ bytes lim offset reason h. rw (h.0, h.1) refl;
  says = λ bytes lim fit. (refl, refl);
}

-- ---- optional parts

pub optional_decides : {A : Type 0} (b : Bool) (P : Part A) (R : Reader A) → Decides P R
    → Decides (optional b P) (read_optional b R)
optional_decides true P R it =
    seen_decides P R (λ x. x) (λ a. Some a) (record { back = λ x a e fits. sym e; there = λ a fits. refl }) it
optional_decides {A} false P R it =
    seen_decides nothing (returned tt) absent (λ _. None) (record { back = back; there = λ a fits. refl })
    nothing_decides
  where
    back : (x : Option A) (a : Unit {0}) → absent x ≡ Some a → Unit {0} → None ≡ x
    back None a e fits = refl
    back (Some x) a e fits = absurd cc
