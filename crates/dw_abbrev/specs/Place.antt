-- Reading at a place of a section, to no end but the section's: what stands there, and what the plain reader says of
-- it.
use Rattle.std.proofs.Common.{◌≡◌, ℕ, suc, ◌+◌, ◌-◌, ◌<◌, ◌≤◌, Bool, true, false, List, [], ◌∷◌, ◌++◌, length, drop, take, min, Option, Some, None, refl, sym, ap, subst, ◌∙◌, arith}
use Rattle.std.specs.Prelude.{nat_le, ◌==◌, if◌then◌else◌}
use Rattle.std.proofs.lemmas.Bool.{leb-false, ne_eqb}
use Rattle.std.proofs.lemmas.List.{take_all, drop-drop, length-drop, length-append}
use Rattle.std.proofs.Math.Nat.{min-eq_left}
use Rattle.dw_leb.specs.Part.{Part, Taken}
use Rattle.dw_leb.specs.declared.errors.Reason.TheVariants.{LebTooLong, PastUnit, Truncated}
use Rattle.dw_leb.specs.Number.{above_u64, outside_i64, unended}
use Rattle.dw_leb.specs.ReadNumber.{groups_of, groups_outcome, read_groups, uleb_from, sleb_from, read_uleb, read_sleb}
use Rattle.dw_leb.specs.declared.errors.Reason.{Reason}
use Rattle.dw_leb.specs.declared.errors.ReadError.{ReadError}
use Rattle.dw_leb.specs.declared.errors.ReadError.TheVariants as reads
use Rattle.dw_leb.specs.declared.errors.Fault.{Fault}
use Rattle.dw_leb.specs.declared.errors.SectionId.TheVariants as sections
use Rattle.dw_leb.specs.Reader.{Outcome, Reader, paired, behind, ◌and_then◌, mapped, made, refused_if, judged_outcome, checked, read_repeated}
use Rattle.dw_leb.specs.Decide.{Decides, found, broken}
use Rattle.dw_abbrev.specs.Table.{first_of}
use Rattle.dw_leb.specs.ItemSteps.{ReadSoFar, none_read, one_read, all_read, head_breaks, body_breaks}

-- The reader finds a at the place, and what follows begins at next. It finds it under each lim past the section's end.
pub record Gives {A : Type 0} (R : Reader A) (abbreviations : List ℕ) (at : ℕ) (a : A) (next : ℕ) : Type 0 where
  pub forward : at ≤ next
  pub within : next ≤ length abbreviations
  pub reads : (lim : ℕ) → length abbreviations < lim + at → R (drop at abbreviations) lim ≡ found a (next - at)

-- The reader says that the field of the fault breaks, under each lim past the section's end.
pub record BreaksAt {A : Type 0} (R : Reader A) (abbreviations : List ℕ) (at : ℕ) (f : Fault) : Type 0 where
  pub in_table : f.section ≡ sections.Abbrev
  pub forward : at ≤ f.offset
  pub reads : (lim : ℕ) → length abbreviations < lim + at
      → R (drop at abbreviations) lim ≡ broken A (f.offset - at) f.reason

-- what an error of a reading tells: a break, or nothing where memory was refused; no reader can fail
abbrev pub IsErrorAt : {A : Type 0} → Reader A → List ℕ → ℕ → ReadError → Type 0
IsErrorAt R abbreviations at (reads.Fault f) = BreaksAt R abbreviations at f
IsErrorAt R abbreviations at reads.NoMemory = Unit {0}
IsErrorAt R abbreviations at (reads.Io kind) = ⊥

abbrev pub fault_at : ℕ → Reason → ReadError
fault_at offset reason = reads.Fault (record { section = sections.Abbrev; offset = offset; reason = reason })

pub drop_to : (abbreviations : List ℕ) (at next : ℕ) → at ≤ next
    → drop (next - at) (drop at abbreviations) ≡ drop next abbreviations
drop_to abbreviations at next le = let e : at + (next - at) ≡ next = omega arith in
    drop-drop (next - at) at abbreviations ∙ ap (λ (n : ℕ). drop n abbreviations) e

module _ {A B : Type 0} (R : Reader A) (S : A → Reader B) (abbreviations : List ℕ) (at : ℕ) where
  pub then_first : (e : ReadError) → IsErrorAt R abbreviations at e → IsErrorAt (R and_then S) abbreviations at e
  then_first (reads.Fault f) h =
      record {
        in_table = h.in_table;
        forward = h.forward;
        reads = λ lim lt. ap (λ (o : Outcome A). behind o S (drop at abbreviations) lim) (h.reads lim lt);
      }
  then_first reads.NoMemory h = tt
  then_first (reads.Io kind) h = absurd h

  then_at : (a : A) (next : ℕ) → Gives R abbreviations at a next → (lim : ℕ) → length abbreviations < lim + at
      → (R and_then S) (drop at abbreviations) lim
      ≡ paired a (next - at) (S a (drop next abbreviations) (lim - (next - at)))
  then_at a next g lim lt =
      ap (λ (o : Outcome A). behind o S (drop at abbreviations) lim) (g.reads lim lt)
      ∙ ap (λ (b : List ℕ). paired a (next - at) (S a b (lim - (next - at)))) (drop_to abbreviations at next g.forward)

  pub then_second : (a : A) (next : ℕ) → Gives R abbreviations at a next → (e : ReadError)
      → IsErrorAt (S a) abbreviations next e → IsErrorAt (R and_then S) abbreviations at e
  then_second a next g (reads.Fault f) h = record {
    in_table = h.in_table;
    forward = omega (arith, g.forward, h.forward);
    reads = λ lim lt.
        let sum : next - at + (f.offset - next) ≡ f.offset - at = omega (arith, g.forward, h.forward) in
        then_at a next g lim lt
        ∙ ap (paired a (next - at)) (h.reads (lim - (next - at)) (omega (arith, g.forward, g.within, lt)))
        ∙ ap (λ (n : ℕ). broken (A × B) n f.reason) sum;
  }
  then_second a next g reads.NoMemory h = tt
  then_second a next g (reads.Io kind) h = absurd h

  pub then_both : (a : A) (next : ℕ) → Gives R abbreviations at a next → (b : B) (end : ℕ)
      → Gives (S a) abbreviations next b end → Gives (R and_then S) abbreviations at (a, b) end
  then_both a next g b end h = record {
    forward = omega (arith, g.forward, h.forward);
    within = h.within;
    reads = λ lim lt.
        let sum : next - at + (end - next) ≡ end - at = omega (arith, g.forward, h.forward) in
        then_at a next g lim lt
        ∙ ap (paired a (next - at)) (h.reads (lim - (next - at)) (omega (arith, g.forward, g.within, lt)))
        ∙ ap (λ (n : ℕ). found (a, b) n) sum;
  }

module _ {A : Type 0} (R : Reader A) (meaning : A → Option Reason) (abbreviations : List ℕ) (at : ℕ) where
  pub checked_fails : (e : ReadError) → IsErrorAt R abbreviations at e
      → IsErrorAt (checked R meaning) abbreviations at e
  checked_fails (reads.Fault f) h =
      record
      { in_table = h.in_table; forward = h.forward; reads = λ lim lt. ap (judged_outcome meaning) (h.reads lim lt) }
  checked_fails reads.NoMemory h = tt
  checked_fails (reads.Io kind) h = absurd h

  pub checked_refuses : (a : A) (next : ℕ) → Gives R abbreviations at a next → (reason : Reason)
      → meaning a ≡ Some reason → IsErrorAt (checked R meaning) abbreviations at (fault_at at reason)
  checked_refuses a next g reason e = record {
    in_table = refl;
    forward = omega arith;
    reads = λ lim lt.
        let none : 0 ≡ at - at = omega arith in
        ap (judged_outcome meaning) (g.reads lim lt) ∙ ap (λ (m : Option Reason). refused_if m a (next - at)) e
        ∙ ap (λ (n : ℕ). broken A n reason) none;
  }

  pub checked_passes : (a : A) (next : ℕ) → Gives R abbreviations at a next → meaning a ≡ None
      → Gives (checked R meaning) abbreviations at a next
  checked_passes a next g e = record {
    forward = g.forward;
    within = g.within;
    reads =
        λ lim lt.
        ap (judged_outcome meaning) (g.reads lim lt) ∙ ap (λ (m : Option Reason). refused_if m a (next - at)) e;
  }

-- two judgements, one behind the other
module _ {A : Type 0} (R : Reader A) (m n : A → Option Reason) (abbreviations : List ℕ) (at : ℕ) (a : A) (next : ℕ)
    (g : Gives R abbreviations at a next) where
  pub twice_refuses : (reason : Reason) → first_of (m a) (n a) ≡ Some reason
      → IsErrorAt (checked (checked R m) n) abbreviations at (fault_at at reason)
  twice_refuses reason e = by (m a) refl e
    where
      by : (o : Option Reason) → m a ≡ o → first_of o (n a) ≡ Some reason
          → IsErrorAt (checked (checked R m) n) abbreviations at (fault_at at reason)
      by (Some r) is f =
          checked_fails (checked R m) n abbreviations at (fault_at at reason)
          (checked_refuses R m abbreviations at a next g reason (is ∙ f))
      by None is f =
          checked_refuses (checked R m) n abbreviations at a next (checked_passes R m abbreviations at a next g is)
          reason f

  pub twice_passes : first_of (m a) (n a) ≡ None → Gives (checked (checked R m) n) abbreviations at a next
  twice_passes e = by (m a) refl e
    where
      by : (o : Option Reason) → m a ≡ o → first_of o (n a) ≡ None
          → Gives (checked (checked R m) n) abbreviations at a next
      by (Some r) is f = absurd cc
      by None is f =
          checked_passes (checked R m) n abbreviations at a next (checked_passes R m abbreviations at a next g is) f

module _ {A X : Type 0} (f : A → X) (R : Reader A) (abbreviations : List ℕ) (at : ℕ) where
  pub made_fails : (e : ReadError) → IsErrorAt R abbreviations at e → IsErrorAt (made f R) abbreviations at e
  made_fails (reads.Fault b) h =
      record { in_table = h.in_table; forward = h.forward; reads = λ lim lt. ap (mapped f) (h.reads lim lt) }
  made_fails reads.NoMemory h = tt
  made_fails (reads.Io kind) h = absurd h

  pub made_gives : (a : A) (next : ℕ) → Gives R abbreviations at a next → Gives (made f R) abbreviations at (f a) next
  made_gives a next g =
      record { forward = g.forward; within = g.within; reads = λ lim lt. ap (mapped f) (g.reads lim lt) }

-- ---- fields

-- a lim that no field of these bytes reaches: past their end, or past sixteen of them
abbrev pub Past : List ℕ → ℕ → Type 0
Past bytes lim = (length bytes ≤ lim) × (length bytes < 16 → length bytes < lim) × (0 < lim)

-- the slice from a place on, as code takes it
abbrev pub sliced : List ℕ → ℕ → List ℕ
sliced abbreviations at = take (length abbreviations - at) (drop at abbreviations)

sliced_is : (abbreviations : List ℕ) (at : ℕ) → sliced abbreviations at ≡ drop at abbreviations
sliced_is abbreviations at =
    take_all (length abbreviations - at) (drop at abbreviations) (omega (arith, length-drop at abbreviations))

-- under each lim past the end the reader says the same
abbrev pub SameBelow : {A : Type 0} → Reader A → Type 0
SameBelow R = (bytes : List ℕ) (m n : ℕ) → Past bytes m → Past bytes n → R bytes m ≡ R bytes n

module _ {A : Type 0} (P : Part A) (R : Reader A) (it : Decides P R) (abbreviations : List ℕ) (at lim : ℕ) where
  pub field_gives : (x : A) (size : ℕ) → at ≤ length abbreviations → Taken P (sliced abbreviations at) lim x size
      → Gives R abbreviations at x (at + size)
  field_gives x size le h =
      let split : drop at abbreviations ≡ P.spell x ++ h.rest = sym (sliced_is abbreviations at) ∙ h.split in
      let all : length (drop at abbreviations) ≡ length (P.spell x) + length h.rest =
      ap length split ∙ length-append (P.spell x) h.rest in
      let left : length (drop at abbreviations) ≡ length abbreviations - at = length-drop at abbreviations in
      record {
        forward = omega arith;
        within = omega (arith, h.is_size);
        reads = λ n past.
            let sized : length (P.spell x) ≡ at + size - at = omega (arith, h.is_size) in
            ap (λ (b : List ℕ). R b n) split ∙ it.takes x h.rest n h.fits (omega (arith, h.is_size))
            ∙ ap (λ (k : ℕ). found x k) sized;
      }

  pub field_fails : SameBelow R → (reason : Reason) → at ≤ length abbreviations → length abbreviations ≤ lim → 16 ≤ lim
      → P.Break (sliced abbreviations at) lim 0 reason → IsErrorAt R abbreviations at (fault_at at reason)
  field_fails same reason le long some h =
      let left : length (drop at abbreviations) ≡ length abbreviations - at = length-drop at abbreviations in
      let e : sliced abbreviations at ≡ drop at abbreviations = sliced_is abbreviations at in
      record {
        in_table = refl;
        forward = omega arith;
        reads = λ n past.
            let none : 0 ≡ at - at = omega arith in
            let here : Past (drop at abbreviations) lim = (omega arith, λ few. omega arith, omega arith) in
            let there : Past (drop at abbreviations) n = (omega arith, λ few. omega arith, omega arith) in
            same (drop at abbreviations) n lim there here ∙ ap (λ (b : List ℕ). R b lim) (sym e)
            ∙ it.faults (sliced abbreviations at) lim 0 reason h ∙ ap (λ (k : ℕ). broken A k reason) none;
      }

groups_past : (bytes : List ℕ) (lim : ℕ) → Past bytes lim → (o : Option (List ℕ))
    → groups_outcome (length bytes) lim o ≡ groups_outcome (length bytes) (suc (length bytes)) o
groups_past bytes lim past (Some front) = refl
groups_past bytes lim past None = by (nat_le 16 (length bytes)) refl
  where
    by : (v : Bool) → nat_le 16 (length bytes) ≡ v
        → broken (List ℕ) 0 (if v then LebTooLong else unended (length bytes) lim)
        ≡ broken (List ℕ) 0 (if v then LebTooLong else unended (length bytes) (suc (length bytes)))
    by true e = refl
    by false e =
        let few : length bytes < 16 = leb-false 16 (length bytes) e in
        let less : length bytes < lim = past.1 few in
        let one : (length bytes == lim) ≡ false = ne_eqb (length bytes) lim (λ same. omega (arith, same)) in
        let two : (length bytes == suc (length bytes)) ≡ false =
        ne_eqb (length bytes) (suc (length bytes)) (λ same. omega (arith, same)) in
        ap (λ (b : Bool). broken (List ℕ) 0 (if b then PastUnit else Truncated)) (one ∙ sym two)

groups_at : (bytes : List ℕ) (lim : ℕ) → Past bytes lim
    → read_groups bytes lim
    ≡ groups_outcome (length bytes) (suc (length bytes)) (groups_of (take (min 16 (length bytes)) bytes))
groups_at bytes lim past =
    let e : min (length bytes) lim ≡ length bytes = min-eq_left past.0 in
    ap (λ (m : ℕ). groups_outcome m lim (groups_of (take (min 16 m) bytes))) e
    ∙ groups_past bytes lim past (groups_of (take (min 16 (length bytes)) bytes))

pub groups_same : SameBelow read_groups
groups_same bytes m n p q = groups_at bytes m p ∙ sym (groups_at bytes n q)

pub uleb_same : SameBelow read_uleb
uleb_same bytes m n p q =
    ap (λ (o : Outcome (List ℕ)). judged_outcome above_u64 (mapped uleb_from o)) (groups_same bytes m n p q)

pub sleb_same : SameBelow read_sleb
sleb_same bytes m n p q =
    ap (λ (o : Outcome (List ℕ)). judged_outcome outside_i64 (mapped sleb_from o)) (groups_same bytes m n p q)

-- ---- items

module _ {H B : Type 0} (head : List (H × B) → Reader H) (ends : H → Bool) (body : H → Reader B)
    (abbreviations : List ℕ) (start : ℕ) where
  -- the items before are read, and the next one begins at the place
  pub record ReadTo (before : List (H × B)) (at : ℕ) : Type 0 where
    pub forward : start ≤ at
    pub within : at ≤ length abbreviations
    pub so_far : (lim : ℕ) → length abbreviations < lim + start
        → ReadSoFar head ends body (drop start abbreviations) lim before (at - start)

  pub nothing_yet : start ≤ length abbreviations → ReadTo [] start
  nothing_yet within = record {
    forward = omega arith;
    within = within;
    so_far = λ lim lt. let none : 0 ≡ start - start = omega arith in
        subst (λ (n : ℕ). ReadSoFar head ends body (drop start abbreviations) lim [] n) none
        (none_read head ends body (drop start abbreviations) lim);
  }

  -- the next head is read where the items before end
  head_there : (before : List (H × B)) (at : ℕ) (lim : ℕ) (o : Outcome H) → start ≤ at
      → head before (drop at abbreviations) (lim - (at - start)) ≡ o
      → head before (drop (at - start) (drop start abbreviations)) (lim - (at - start)) ≡ o
  head_there before at lim o le e =
      ap (λ (b : List ℕ). head before b (lim - (at - start))) (drop_to abbreviations start at le) ∙ e

  body_there : (h : H) (at next : ℕ) (lim : ℕ) (o : Outcome B) → start ≤ at → at ≤ next
      → body h (drop next abbreviations) (lim - (at - start) - (next - at)) ≡ o
      → body h (drop (next - at) (drop (at - start) (drop start abbreviations))) (lim - (at - start) - (next - at)) ≡ o
  body_there h at next lim o le le2 e =
      ap (λ (b : List ℕ). body h (drop (next - at) b) (lim - (at - start) - (next - at)))
      (drop_to abbreviations start at le)
      ∙ ap (λ (b : List ℕ). body h b (lim - (at - start) - (next - at))) (drop_to abbreviations at next le2) ∙ e

  pub one_item : (before : List (H × B)) (at : ℕ) → ReadTo before at → (h : H) (next : ℕ)
      → Gives (head before) abbreviations at h next → at < next → ends h ≡ false
      → (b : B) (end : ℕ) → Gives (body h) abbreviations next b end → ReadTo (before ++ (h, b) ∷ []) end
  one_item before at r h next g lt e b end k = record {
    forward = omega (arith, r.forward, g.forward, k.forward);
    within = k.within;
    so_far = λ lim past.
        let sum : at - start + (next - at + (end - next)) ≡ end - start =
        omega (arith, r.forward, g.forward, k.forward) in
        let size : length (drop start abbreviations) ≡ length abbreviations - start = length-drop start abbreviations in
        subst (λ (n : ℕ). ReadSoFar head ends body (drop start abbreviations) lim (before ++ (h, b) ∷ []) n) sum
        (one_read head ends body (drop start abbreviations) lim before (at - start) (r.so_far lim past) h b (next - at)
        (end - next)
        (head_there before at lim (found h (next - at)) r.forward
        (g.reads (lim - (at - start)) (omega (arith, r.forward, r.within, past))))
        e
        (body_there h at next lim (found b (end - next)) r.forward g.forward
        (k.reads (lim - (at - start) - (next - at)) (omega (arith, r.forward, r.within, g.forward, g.within, past))))
        (omega (arith, lt))
        (omega (arith, r.forward, g.forward, k.forward, k.within)));
  }

  pub items_end : (before : List (H × B)) (at : ℕ) → ReadTo before at → (h : H) (next : ℕ)
      → Gives (head before) abbreviations at h next → ends h ≡ true
      → Gives (read_repeated head ends body) abbreviations start (before, h) next
  items_end before at r h next g e = record {
    forward = omega (arith, r.forward, g.forward);
    within = g.within;
    reads = λ lim past.
        let sum : at - start + (next - at) ≡ next - start = omega (arith, r.forward, g.forward) in
        all_read head ends body (drop start abbreviations) lim before (at - start) (r.so_far lim past) h (next - at)
        (head_there before at lim (found h (next - at)) r.forward
        (g.reads (lim - (at - start)) (omega (arith, r.forward, r.within, past))))
        e
        ∙ ap (λ (n : ℕ). found (before, h) n) sum;
  }

  pub head_fails : (before : List (H × B)) (at : ℕ) → ReadTo before at → (e : ReadError)
      → IsErrorAt (head before) abbreviations at e → IsErrorAt (read_repeated head ends body) abbreviations start e
  head_fails before at r (reads.Fault f) h = record {
    in_table = h.in_table;
    forward = omega (arith, r.forward, h.forward);
    reads = λ lim past.
        let sum : at - start + (f.offset - at) ≡ f.offset - start = omega (arith, r.forward, h.forward) in
        head_breaks head ends body (drop start abbreviations) lim before (at - start) (r.so_far lim past)
        (f.offset - at) f.reason
        (head_there before at lim (broken H (f.offset - at) f.reason) r.forward
        (h.reads (lim - (at - start)) (omega (arith, r.forward, r.within, past))))
        ∙ ap (λ (n : ℕ). broken (List (H × B) × H) n f.reason) sum;
  }
  head_fails before at r reads.NoMemory h = tt
  head_fails before at r (reads.Io kind) h = absurd h

  pub body_fails : (before : List (H × B)) (at : ℕ) → ReadTo before at → (h : H) (next : ℕ)
      → Gives (head before) abbreviations at h next → ends h ≡ false
      → (e : ReadError) → IsErrorAt (body h) abbreviations next e
      → IsErrorAt (read_repeated head ends body) abbreviations start e
  body_fails before at r h next g e (reads.Fault f) k = record {
    in_table = k.in_table;
    forward = omega (arith, r.forward, g.forward, k.forward);
    reads = λ lim past.
        let sum : at - start + (next - at + (f.offset - next)) ≡ f.offset - start =
        omega (arith, r.forward, g.forward, k.forward) in
        body_breaks head ends body (drop start abbreviations) lim before (at - start) (r.so_far lim past) h (next - at)
        (f.offset - next) f.reason
        (head_there before at lim (found h (next - at)) r.forward
        (g.reads (lim - (at - start)) (omega (arith, r.forward, r.within, past))))
        e
        (body_there h at next lim (broken B (f.offset - next) f.reason) r.forward g.forward
        (k.reads (lim - (at - start) - (next - at)) (omega (arith, r.forward, r.within, g.forward, g.within, past))))
        ∙ ap (λ (n : ℕ). broken (List (H × B) × H) n f.reason) sum;
  }
  body_fails before at r h next g e reads.NoMemory k = tt
  body_fails before at r h next g e (reads.Io kind) k = absurd k
