-- The findings of an entry, attribute by attribute; of a unit, entry by entry.
use Rattle.std.proofs.Common.{◌≡◌, ℕ, suc, ◌+◌, Bool, List, [], ◌∷◌, ◌++◌, length, refl, sym, ap, subst, ◌∙◌, arith, append_assoc, length-append}
use Rattle.std.specs.Prelude.{◌==◌, Option, Some, None, true, false, is_some, if◌then◌else◌}
use Rattle.std.proofs.lemmas.List.{append-nil}
use Rattle.dw_form.specs.Form.{Value, at_number}
use Rattle.dw_form.specs.Lent.{number_in, text_in}
use Rattle.dw_section.specs.Reference.{ref_forms, named, named_if}
use Rattle.dw_strings.specs.Text.{stored_forms, named_text, own_text, by_number, text_if_placed}
use Rattle.dw_tree.specs.Lent.{LentAttribute, EntryAt, attributes_of}
use Rattle.dw_check.specs.declared.finding.Finding.{Finding}
use Rattle.dw_check.specs.Findings.{UnitIn, is_named_among, is_unresolved, is_unreadable, findings_at, findings_behind, entry_findings}
use Rattle.dw_check.specs.Repeats.{AreRepeatsOf, IsPlain}

-- what was found so far, and what is still to be found in the attributes that are left
pub record FoundSoFar (u : UnitIn) (e : EntryAt) (old found : List Finding) (position : ℕ) (left : List LentAttribute) (repeats all : List Bool) : Type 0 where
  pub before : List LentAttribute
  pub count : position ≡ length before
  pub room : position + length repeats ≡ length all
  pub repeating : AreRepeatsOf before left repeats
  pub so_far : old ++ entry_findings u e ≡ found ++ findings_behind u e before left

pub none_found : (u : UnitIn) (e : EntryAt) (old : List Finding) (all : List Bool) → AreRepeatsOf [] (attributes_of e) all → FoundSoFar u e old old 0 (attributes_of e) all all
none_found u e old all h = record { before = []; count = refl; room = omega arith; repeating = h; so_far = refl }

pub one_found : (u : UnitIn) (e : EntryAt) (old found new : List Finding) (position : ℕ) (a : LentAttribute) (left : List LentAttribute) (m : Bool) (repeats all : List Bool)
    → FoundSoFar u e old found position (a ∷ left) (m ∷ repeats) all → new ≡ found ++ findings_at u e (position + 1) a m → FoundSoFar u e old new (position + 1) left repeats all
one_found u e old found new position a left m repeats all h is =
    let count : suc (length h.before) ≡ position + 1 = omega (arith, h.count) in
    let here : findings_at u e (position + 1) a m ≡ findings_at u e (suc (length h.before)) a (is_named_among a.name h.before) = ap (λ (n : ℕ). findings_at u e n a m) (sym count) ∙ ap (λ (b : Bool). findings_at u e (suc (length h.before)) a b) h.repeating.0 in
    record {
      before = h.before ++ a ∷ [];
      count = omega (arith, h.count, length-append h.before (a ∷ []));
      room = omega (arith, h.room);
      repeating = h.repeating.1;
      so_far = h.so_far
          ∙ sym (append_assoc found (findings_at u e (suc (length h.before)) a (is_named_among a.name h.before)) (findings_behind u e (h.before ++ a ∷ []) left))
          ∙ ap (λ (f : List Finding). f ++ findings_behind u e (h.before ++ a ∷ []) left) (ap (λ (f : List Finding). found ++ f) (sym here) ∙ sym is);
    }

pub all_found : (u : UnitIn) (e : EntryAt) (old found : List Finding) (position : ℕ) (repeats all : List Bool) → FoundSoFar u e old found position [] repeats all → found ≡ old ++ entry_findings u e
all_found u e old found position repeats all h = sym (append-nil found) ∙ sym h.so_far

-- the findings of the attribute that comes next, with the flag that comes next
pub next_found : {u : UnitIn} {e : EntryAt} {old found new : List Finding} {position : ℕ} {a : LentAttribute} {attributes left : List LentAttribute} {m : Bool} {repeats others all : List Bool}
    → FoundSoFar u e old found position attributes repeats all → attributes ≡ a ∷ left → repeats ≡ m ∷ others → new ≡ found ++ findings_at u e (position + 1) a m → FoundSoFar u e old new (position + 1) left others all
next_found {u} {e} {old} {found} {new} {position} {a} {attributes} {left} {m} {repeats} {others} {all} h attribute mark is =
    let there : FoundSoFar u e old found position (a ∷ left) repeats all = subst (λ (xs : List LentAttribute). FoundSoFar u e old found position xs repeats all) attribute h in
    one_found u e old found new position a left m others all (subst (λ (ms : List Bool). FoundSoFar u e old found position (a ∷ left) ms all) mark there) is

-- ---- what has no flag

none_is : {X : Type 0} (o : Option X) → is_some o ≡ false → o ≡ None
none_is None e = refl
none_is (Some x) e = absurd cc

-- a value of such a form is no reference
no_reference : (u : UnitIn) (form : ℕ) (v : Value) → is_some (at_number form ref_forms) ≡ false → is_unresolved (named u.items u.number u.unit form v) ≡ false
no_reference u form v other = by (number_in v)
  where
    by : (n : Option ℕ) → is_unresolved (named_if u.items u.number u.unit form n) ≡ false
    by None = refl
    by (Some n) = rw (none_is (at_number form ref_forms) other) refl

-- a value of such a form is its own text, or none
no_stored_text : (u : UnitIn) (form : ℕ) (v : Value) → is_some (at_number form stored_forms) ≡ false → is_unreadable (named_text u.strings u.unit form v) ≡ false
no_stored_text u form v other = by (form == 0x08) (text_in v) (number_in v)
  where
    by : (own : Bool) (t : Option (List ℕ)) (n : Option ℕ) → is_unreadable (text_if_placed u.strings (if own then own_text t else by_number u.strings u.unit form n)) ≡ false
    by true None n = refl
    by true (Some t) n = refl
    by false t None = refl
    by false t (Some n) = rw (none_is (at_number form stored_forms) other) refl

plain_at : (u : UnitIn) (e : EntryAt) (n : ℕ) (a : LentAttribute) → IsPlain a → findings_at u e n a false ≡ []
plain_at u e n a h = rw (h.0, no_reference u a.form a.attr.value h.1.0, no_stored_text u a.form a.attr.value h.1.1) refl

plain_behind : (u : UnitIn) (e : EntryAt) (before left : List LentAttribute) → AreRepeatsOf before left [] → findings_behind u e before left ≡ []
plain_behind u e before [] h = refl
plain_behind u e before (a ∷ left) h =
    rw (h.1.0, plain_at u e (suc (length before)) a h.0) (plain_behind u e (before ++ a ∷ []) left h.1.1)

-- the attributes that are left without a flag have no findings
pub repeats_end : (u : UnitIn) (e : EntryAt) (old found : List Finding) (position : ℕ) (left : List LentAttribute) (repeats all : List Bool)
    → FoundSoFar u e old found position left repeats all → length repeats ≡ 0 → found ≡ old ++ entry_findings u e
repeats_end u e old found position left [] all h none =
    let rest : findings_behind u e h.before left ≡ [] = plain_behind u e h.before left h.repeating in
    sym (append-nil found) ∙ ap (λ (f : List Finding). found ++ f) (sym rest) ∙ sym h.so_far
repeats_end u e old found position left (m ∷ repeats) all h none = absurd cc

-- what stands behind findings, and what behind those
pub regrouped : (old mid new a b : List Finding) → mid ≡ old ++ a → new ≡ mid ++ b → new ≡ old ++ (a ++ b)
regrouped old mid new a b e f = f ∙ ap (λ (xs : List Finding). xs ++ b) e ∙ append_assoc old a b
