-- Moments: after how many bytes of a field its outcome first stands. With fewer the input's end cuts it off, and with
-- more it is the same.
use Rattle.std.proofs.Common.{◌≡◌, ◌≢◌, ◌⊎◌, ℕ, ◌+◌, ◌-◌, ◌<◌, ◌≤◌, Bool, true, false, cond, List, ◌++◌, length, drop, Option, Some, None, refl, sym, ap, subst, ◌∙◌, arith, inl, inr, length-drop}
use Rattle.std.specs.Prelude.{nat_lt}
use Rattle.std.proofs.lemmas.Bool.{ltb-true, ltb-false}
use Rattle.std.proofs.lemmas.List.{drop-append-le}
use Rattle.dw_leb.specs.declared.errors.Reason.{Reason}
use Rattle.dw_leb.specs.declared.errors.Reason.TheVariants.{Truncated}
use Rattle.dw_leb.specs.Reader.{Outcome, Found, Broken, Reader, paired, behind, ◌and_then◌, mapped, made, refused_if, judged_outcome, checked, at_front, one_field, returned, failing, read_optional}
use Rattle.dw_leb.specs.Decide.{found, found_value}

-- a meaning that is refused is not refused as cut
abbrev pub Judges : {X : Type 0} → (X → Option Reason) → Type 0
Judges {X} meaning = (x : X) → meaning x ≡ Some Truncated → ⊥

-- a meaning that is refused for one reason
pub refuses_where : (b : Bool) (why : Reason) → why ≢ Truncated → cond b (Some why) None ≡ Some Truncated → ⊥
refuses_where true why ne h = ne cc
refuses_where false why ne h = cc

pub refuses_unless : (b : Bool) (why : Reason) → why ≢ Truncated → cond b None (Some why) ≡ Some Truncated → ⊥
refuses_unless true why ne h = cc
refuses_unless false why ne h = ne cc

-- how many bytes are wanted, given those at hand and lim
abbrev pub Moment : Type 0
Moment = List ℕ → ℕ → ℕ

-- cut off by the input's end
abbrev pub IsCut : {X : Type 0} → Outcome X → Type 0
IsCut (Found x size) = ⊥
IsCut (Broken offset reason) = reason ≡ Truncated

-- A reader's outcome first stands at its moment: fewer bytes than are wanted are cut off (waits), as many are not
-- (stands). Where longer bytes have their moment within a front, so has the front (early), then it is the same moment
-- (steady), and the outcome is the same (stays). What is found has as many bytes as are wanted (whole).
pub record HasMoment {X : Type 0} (R : Reader X) (m : Moment) : Type 0 where
  pub waits : (bytes : List ℕ) (lim : ℕ) → length bytes < m bytes lim → IsCut (R bytes lim)
  pub stands : (bytes : List ℕ) (lim : ℕ) → m bytes lim ≤ length bytes → IsCut (R bytes lim) → ⊥
  pub early : (bytes more : List ℕ) (lim : ℕ) → m (bytes ++ more) lim ≤ length bytes → m bytes lim ≤ length bytes
  pub steady : (bytes more : List ℕ) (lim : ℕ) → m bytes lim ≤ length bytes → m (bytes ++ more) lim ≡ m bytes lim
  pub stays : (bytes more : List ℕ) (lim : ℕ) → m bytes lim ≤ length bytes → R (bytes ++ more) lim ≡ R bytes lim
  pub whole : (bytes : List ℕ) (lim : ℕ) (x : X) (size : ℕ) → R bytes lim ≡ Found x size → m bytes lim ≡ size

-- ---- what follows

pub fewer_or_enough : (m n : ℕ) → (m < n) ⊎ (n ≤ m)
fewer_or_enough m n = by (nat_lt m n) refl
  where
    by : (v : Bool) → nat_lt m n ≡ v → (m < n) ⊎ (n ≤ m)
    by true e = inl (ltb-true m n e)
    by false e = inr (ltb-false m n e)

module _ {X : Type 0} (R : Reader X) (m : Moment) (it : HasMoment R m) where
  -- what is found is there
  pub there : (bytes : List ℕ) (lim : ℕ) (x : X) (size : ℕ) → R bytes lim ≡ Found x size → size ≤ length bytes
  there bytes lim x size e = elim (fewer_or_enough (length bytes) (m bytes lim)) [
    | inl short ↦ absurd (subst IsCut e (it.waits bytes lim short))
    | inr long ↦ omega (arith, it.whole bytes lim x size e, long)
  ]

  -- a proper front of what is wanted is cut: not sooner
  pub front_cut : (front rest : List ℕ) (lim : ℕ) → length front < m (front ++ rest) lim → IsCut (R front lim)
  front_cut front rest lim h = elim (fewer_or_enough (length front) (m front lim)) [
    | inl short ↦ it.waits front lim short
    | inr long ↦ absurd (omega (arith, h, long, it.steady front rest lim long))
  ]

  -- and the outcome stood at the moment, with no byte more: not later
  pub front_stands : (front rest : List ℕ) (lim : ℕ) → m (front ++ rest) lim ≤ length front
      → R front lim ≡ R (front ++ rest) lim
  front_stands front rest lim h = sym (it.stays front rest lim (it.early front rest lim h))

-- ---- the combinators

abbrev pub at_no_byte : Moment
at_no_byte bytes lim = 0

pub returned_moment : {A : Type 0} (a : A) → HasMoment (returned a) at_no_byte
returned_moment a = record {
  waits = λ bytes lim h. absurd (omega (arith, h));
  stands = λ bytes lim h c. c;
  early = λ bytes more lim h. omega arith;
  steady = λ bytes more lim h. refl;
  stays = λ bytes more lim h. refl;
  whole = λ bytes lim x size e. (found_value a x 0 size e).1;
}

pub failing_moment : {A : Type 0} (why : Reason) → why ≢ Truncated → HasMoment (failing {A = A} why) at_no_byte
failing_moment why ne = record {
  waits = λ bytes lim h. absurd (omega (arith, h));
  stands = λ bytes lim h c. ne c;
  early = λ bytes more lim h. omega arith;
  steady = λ bytes more lim h. refl;
  stays = λ bytes more lim h. refl;
  whole = λ bytes lim x size e. absurd cc;
}

module _ {A X : Type 0} (f : A → X) (R : Reader A) (m : Moment) (it : HasMoment R m) where
  cut_made : (o : Outcome A) → IsCut o → IsCut (mapped f o)
  cut_made (Found a size) c = c
  cut_made (Broken offset reason) c = c

  cut_back : (o : Outcome A) → IsCut (mapped f o) → IsCut o
  cut_back (Found a size) c = c
  cut_back (Broken offset reason) c = c

  size_back : (o : Outcome A) (x : X) (size : ℕ) → mapped f o ≡ Found x size → (a : A) × (o ≡ Found a size)
  size_back (Found a s) x size e = (a, ap (λ (n : ℕ). found a n) (found_value (f a) x s size e).1)
  size_back (Broken offset reason) x size e = absurd cc

  pub made_moment : HasMoment (made f R) m
  made_moment = record {
    waits = λ bytes lim h. cut_made (R bytes lim) (it.waits bytes lim h);
    stands = λ bytes lim h c. it.stands bytes lim h (cut_back (R bytes lim) c);
    early = it.early;
    steady = it.steady;
    stays = λ bytes more lim h. ap (mapped f) (it.stays bytes more lim h);
    whole = λ bytes lim x size e. let b = size_back (R bytes lim) x size e in it.whole bytes lim b.0 size b.1;
  }

module _ {A : Type 0} (R : Reader A) (meaning : A → Option Reason) (judges : Judges meaning) (m : Moment)
    (it : HasMoment R m) where
  cut_checked : (o : Outcome A) → IsCut o → IsCut (judged_outcome meaning o)
  cut_checked (Found a size) c = absurd c
  cut_checked (Broken offset reason) c = c

  refusal_back : (a : A) (size : ℕ) (w : Option Reason) → meaning a ≡ w → IsCut (refused_if w a size) → ⊥
  refusal_back a size None e c = c
  refusal_back a size (Some reason) e c = judges a (e ∙ ap (λ (r : Reason). Some r) c)

  checked_back : (o : Outcome A) → IsCut (judged_outcome meaning o) → IsCut o
  checked_back (Found a size) c = refusal_back a size (meaning a) refl c
  checked_back (Broken offset reason) c = c

  same_size : (a : A) (s : ℕ) (w : Option Reason) (x : A) (size : ℕ) → refused_if w a s ≡ Found x size → s ≡ size
  same_size a s None x size e = (found_value a x s size e).1
  same_size a s (Some reason) x size e = absurd cc

  checked_size : (o : Outcome A) (x : A) (size : ℕ) → judged_outcome meaning o ≡ Found x size
      → (a : A) × (o ≡ Found a size)
  checked_size (Found a s) x size e = (a, ap (λ (n : ℕ). found a n) (same_size a s (meaning a) x size e))
  checked_size (Broken offset reason) x size e = absurd cc

  pub checked_moment : HasMoment (checked R meaning) m
  checked_moment = record {
    waits = λ bytes lim h. cut_checked (R bytes lim) (it.waits bytes lim h);
    stands = λ bytes lim h c. it.stands bytes lim h (checked_back (R bytes lim) c);
    early = it.early;
    steady = it.steady;
    stays = λ bytes more lim h. ap (judged_outcome meaning) (it.stays bytes more lim h);
    whole = λ bytes lim x size e. let b = checked_size (R bytes lim) x size e in it.whole bytes lim b.0 size b.1;
  }

module _ {A : Type 0} (R : Reader A) (m : Moment) (it : HasMoment R m) where
  cut_front : (o : Outcome A) → IsCut o → IsCut (at_front o)
  cut_front (Found a size) c = c
  cut_front (Broken offset reason) c = c

  front_back : (o : Outcome A) → IsCut (at_front o) → IsCut o
  front_back (Found a size) c = c
  front_back (Broken offset reason) c = c

  front_size : (o : Outcome A) (x : A) (size : ℕ) → at_front o ≡ Found x size → o ≡ Found x size
  front_size (Found a s) x size e = e
  front_size (Broken offset reason) x size e = absurd cc

  pub one_field_moment : HasMoment (one_field R) m
  one_field_moment = record {
    waits = λ bytes lim h. cut_front (R bytes lim) (it.waits bytes lim h);
    stands = λ bytes lim h c. it.stands bytes lim h (front_back (R bytes lim) c);
    early = it.early;
    steady = it.steady;
    stays = λ bytes more lim h. ap at_front (it.stays bytes more lim h);
    whole = λ bytes lim x size e. it.whole bytes lim x size (front_size (R bytes lim) x size e);
  }

-- behind a first value the moment is the second's; where the first breaks, its own
abbrev pub behind_moment : {A : Type 0} → Outcome A → ℕ → (A → Moment) → Moment
behind_moment (Found a size) own next bytes lim = size + next a (drop size bytes) (lim - size)
behind_moment (Broken offset reason) own next bytes lim = own

abbrev pub moment_then : {A : Type 0} → Reader A → Moment → (A → Moment) → Moment
moment_then R m next bytes lim = behind_moment (R bytes lim) (m bytes lim) next bytes lim

module _ {A B : Type 0} (R : Reader A) (S : A → Reader B) (m : Moment) (n : A → Moment) (first : HasMoment R m)
    (second : (a : A) → HasMoment (S a) (n a)) where
  cut_paired : (a : A) (size : ℕ) (o : Outcome B) → IsCut o → IsCut (paired a size o)
  cut_paired a size (Found b own) c = c
  cut_paired a size (Broken offset reason) c = c

  paired_back : (a : A) (size : ℕ) (o : Outcome B) → IsCut (paired a size o) → IsCut o
  paired_back a size (Found b own) c = c
  paired_back a size (Broken offset reason) c = c

  by_waits : (bytes : List ℕ) (lim : ℕ) (o : Outcome A) → R bytes lim ≡ o
      → length bytes < behind_moment o (m bytes lim) n bytes lim → IsCut (behind o S bytes lim)
  by_waits bytes lim (Found a size) e h =
      cut_paired a size (S a (drop size bytes) (lim - size))
      ((second a).waits (drop size bytes) (lim - size)
      (omega (arith, h, length-drop size bytes, there R m first bytes lim a size e)))
  by_waits bytes lim (Broken offset reason) e h = subst IsCut e (first.waits bytes lim h)

  by_stands : (bytes : List ℕ) (lim : ℕ) (o : Outcome A) → R bytes lim ≡ o
      → behind_moment o (m bytes lim) n bytes lim ≤ length bytes → IsCut (behind o S bytes lim) → ⊥
  by_stands bytes lim (Found a size) e h c =
      (second a).stands (drop size bytes) (lim - size)
      (omega (arith, h, length-drop size bytes, there R m first bytes lim a size e))
      (paired_back a size (S a (drop size bytes) (lim - size)) c)
  by_stands bytes lim (Broken offset reason) e h c = first.stands bytes lim h (subst IsCut (sym e) c)

  by_early : (bytes more : List ℕ) (lim : ℕ) (o : Outcome A) → R (bytes ++ more) lim ≡ o
      → behind_moment o (m (bytes ++ more) lim) n (bytes ++ more) lim ≤ length bytes
      → behind_moment (R bytes lim) (m bytes lim) n bytes lim ≤ length bytes
  by_early bytes more lim (Found a size) e h =
      let le : size ≤ length bytes = omega (arith, h) in
      let own : m bytes lim ≤ length bytes =
      first.early bytes more lim (omega (arith, first.whole (bytes ++ more) lim a size e, le)) in
      let same : R bytes lim ≡ Found a size = sym (first.stays bytes more lim own) ∙ e in
      let second_early : n a (drop size bytes) (lim - size) ≤ length (drop size bytes) =
      (second a).early (drop size bytes) more (lim - size)
      (omega (
        arith,
        h,
        length-drop size bytes,
        ap (λ (bs : List ℕ). n a bs (lim - size)) (drop-append-le size bytes more le),
      ))
      in
      subst (λ (o : Outcome A). behind_moment o (m bytes lim) n bytes lim ≤ length bytes) (sym same)
      (omega (arith, second_early, length-drop size bytes, le))
  by_early bytes more lim (Broken offset reason) e h =
      let own : m bytes lim ≤ length bytes = first.early bytes more lim h in
      let same : R bytes lim ≡ Broken offset reason = sym (first.stays bytes more lim own) ∙ e in
      subst (λ (o : Outcome A). behind_moment o (m bytes lim) n bytes lim ≤ length bytes) (sym same) own

  by_steady : (bytes more : List ℕ) (lim : ℕ) (o : Outcome A) → R bytes lim ≡ o
      → behind_moment o (m bytes lim) n bytes lim ≤ length bytes
      → behind_moment (R (bytes ++ more) lim) (m (bytes ++ more) lim) n (bytes ++ more) lim
      ≡ behind_moment o (m bytes lim) n bytes lim
  by_steady bytes more lim (Found a size) e h =
      let le : size ≤ length bytes = there R m first bytes lim a size e in
      let own : m bytes lim ≤ length bytes = omega (arith, first.whole bytes lim a size e, le) in
      ap (λ (o : Outcome A). behind_moment o (m (bytes ++ more) lim) n (bytes ++ more) lim)
      (first.stays bytes more lim own ∙ e)
      ∙ ap (λ (bs : List ℕ). size + n a bs (lim - size)) (drop-append-le size bytes more le)
      ∙ ap (λ (k : ℕ). size + k)
      ((second a).steady (drop size bytes) more (lim - size) (omega (arith, h, length-drop size bytes, le)))
  by_steady bytes more lim (Broken offset reason) e h =
      ap (λ (o : Outcome A). behind_moment o (m (bytes ++ more) lim) n (bytes ++ more) lim)
      (first.stays bytes more lim h ∙ e)
      ∙ first.steady bytes more lim h

  by_stays : (bytes more : List ℕ) (lim : ℕ) (o : Outcome A) → R bytes lim ≡ o
      → behind_moment o (m bytes lim) n bytes lim ≤ length bytes
      → behind (R (bytes ++ more) lim) S (bytes ++ more) lim ≡ behind o S bytes lim
  by_stays bytes more lim (Found a size) e h =
      let le : size ≤ length bytes = there R m first bytes lim a size e in
      let own : m bytes lim ≤ length bytes = omega (arith, first.whole bytes lim a size e, le) in
      ap (λ (o : Outcome A). behind o S (bytes ++ more) lim) (first.stays bytes more lim own ∙ e)
      ∙ ap (λ (bs : List ℕ). paired a size (S a bs (lim - size))) (drop-append-le size bytes more le)
      ∙ ap (paired a size)
      ((second a).stays (drop size bytes) more (lim - size) (omega (arith, h, length-drop size bytes, le)))
  by_stays bytes more lim (Broken offset reason) e h =
      ap (λ (o : Outcome A). behind o S (bytes ++ more) lim) (first.stays bytes more lim h ∙ e)

  paired_size : (a : A) (size : ℕ) (o : Outcome B) (x : A × B) (total : ℕ) → paired a size o ≡ Found x total
      → (b : B) × (own : ℕ) × (o ≡ Found b own) × (size + own ≡ total)
  paired_size a size (Found b own) x total e = (b, own, refl, (found_value (a, b) x (size + own) total e).1)
  paired_size a size (Broken offset reason) x total e = absurd cc

  by_whole : (bytes : List ℕ) (lim : ℕ) (o : Outcome A) (x : A × B) (total : ℕ) → behind o S bytes lim ≡ Found x total
      → behind_moment o (m bytes lim) n bytes lim ≡ total
  by_whole bytes lim (Found a size) x total e =
      let p = paired_size a size (S a (drop size bytes) (lim - size)) x total e in
      ap (λ (k : ℕ). size + k) ((second a).whole (drop size bytes) (lim - size) p.0 p.1 p.2) ∙ p.3
  by_whole bytes lim (Broken offset reason) x total e = absurd cc

  pub then_moment : HasMoment (R and_then S) (moment_then R m n)
  then_moment = record {
    waits = λ bytes lim h. by_waits bytes lim (R bytes lim) refl h;
    stands = λ bytes lim h c. by_stands bytes lim (R bytes lim) refl h c;
    early = λ bytes more lim h. by_early bytes more lim (R (bytes ++ more) lim) refl h;
    steady = λ bytes more lim h. by_steady bytes more lim (R bytes lim) refl h;
    stays = λ bytes more lim h. by_stays bytes more lim (R bytes lim) refl h;
    whole = λ bytes lim x size e. by_whole bytes lim (R bytes lim) x size e;
  }

abbrev pub optional_when : Bool → Moment → Moment
optional_when true m = m
optional_when false m = at_no_byte

pub optional_moment : {A : Type 0} (b : Bool) (R : Reader A) (m : Moment) → HasMoment R m
    → HasMoment (read_optional b R) (optional_when b m)
optional_moment true R m it = made_moment (λ a. Some a) R m it
optional_moment false R m it = returned_moment None

-- ---- a lim of its own, and readers that give the same

-- a reader under a lim of its own
abbrev pub bounded : {X : Type 0} → ℕ → Reader X → Reader X
bounded n R bytes lim = R bytes n

abbrev pub bounded_by : ℕ → Moment → Moment
bounded_by n m bytes lim = m bytes n

pub bounded_moment : {X : Type 0} (n : ℕ) (R : Reader X) (m : Moment) → HasMoment R m
    → HasMoment (bounded n R) (bounded_by n m)
bounded_moment n R m it = record {
  waits = λ bytes lim h. it.waits bytes n h;
  stands = λ bytes lim h c. it.stands bytes n h c;
  early = λ bytes more lim h. it.early bytes more n h;
  steady = λ bytes more lim h. it.steady bytes more n h;
  stays = λ bytes more lim h. it.stays bytes more n h;
  whole = λ bytes lim x size e. it.whole bytes n x size e;
}

-- a reader that gives the same
pub same_moment : {X : Type 0} (R S : Reader X) (m : Moment) → ((bytes : List ℕ) (lim : ℕ) → S bytes lim ≡ R bytes lim)
    → HasMoment R m → HasMoment S m
same_moment R S m e it = record {
  waits = λ bytes lim h. subst IsCut (sym (e bytes lim)) (it.waits bytes lim h);
  stands = λ bytes lim h c. it.stands bytes lim h (subst IsCut (e bytes lim) c);
  early = it.early;
  steady = it.steady;
  stays = λ bytes more lim h. e (bytes ++ more) lim ∙ it.stays bytes more lim h ∙ sym (e bytes lim);
  whole = λ bytes lim x size q. it.whole bytes lim x size (sym (e bytes lim) ∙ q);
}
