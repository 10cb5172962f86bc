-- Where items of a section start, and what references name there.
use Rattle.std.proofs.Common.{◌≡◌, ◌∙◌, ℕ, zero, suc, ◌+◌, List, [], ◌∷◌, ◌++◌, length, take, drop, Option, Some, None, refl, sym, ap, subst, append-nil, arith}
use Rattle.std.specs.Prelude.{Result, Ok, Err, IsSome, IfOk, is_some, slice_get, Bool, true, false, ◌==◌, if◌then◌else◌}
use Rattle.std.proofs.lemmas.Bool.{eqb-true}
use Rattle.std.proofs.lemmas.List.{length-append}
use Rattle.dw_leb.specs.declared.errors.WriteError.{WriteError}
use Rattle.dw_form.specs.Form.{at_number}
use Rattle.dw_form.specs.Lent.{number_in}
use Rattle.dw_tree.specs.Lent.{EntryAt, LentAttribute}
use Rattle.dw_unit.specs.Unit.{WholeUnit}
use Rattle.dw_section.specs.Item.{Item, Known, item_bytes}
use Rattle.dw_section.specs.Section.{items_bytes}
use Rattle.dw_section.specs.Reference.{Target, named, ref_forms}
use Rattle.dw_section.specs.Lookup.{known_of, unit_at, starts_from, start_of, entry}
use Rattle.dw_section.specs.Found.{InUnit, entry_in_unit}
use Rattle.dw_strings.specs.Text.{StringSections, stored_forms}
use Rattle.dw_tool.specs.declared.output.Output.{Output}
use Rattle.dw_tool.specs.Output.{IsClear, Puts}
use Rattle.dw_tool.specs.Show.{named_behind, named_quoted, start_at, stored_text, target_if, target_of, target_text, text_if, text_of}
use Rattle.dw_tool.proofs.Appending.{puts_nothing}

-- ---- starts

start_from : (xs : List Item) (start i q : ℕ) → slice_get (starts_from start xs) i ≡ Some q → q ≡ start + length (items_bytes (take i xs))
start_from [] start i q e = absurd cc
start_from (x ∷ xs) start zero q e = let same : start ≡ q = cc in omega (arith, same)
start_from (x ∷ xs) start (suc i) q e = omega (arith, start_from xs (start + length (item_bytes x)) i q e, length-append (item_bytes x) (items_bytes (take i xs)))

pub start_is : (items : List Item) (i q : ℕ) → start_of items i ≡ Some q → q ≡ start_at items i
start_is items i q e = omega (arith, start_from items 0 i q e)

starts_there : (xs : List Item) (start i : ℕ) (x : Item) → slice_get xs i ≡ Some x → IsSome (slice_get (starts_from start xs) i)
starts_there [] start i x e = absurd cc
starts_there (y ∷ xs) start zero x e = refl
starts_there (y ∷ xs) start (suc i) x e = starts_there xs (start + length (item_bytes y)) i x e

-- each item starts somewhere
pub start_there : (items : List Item) (i : ℕ) (x : Item) → slice_get items i ≡ Some x → IsSome (start_of items i)
start_there items i x e = starts_there items 0 i x e

pub no_start : (items : List Item) (i : ℕ) (x : Item) → slice_get items i ≡ Some x → start_of items i ≡ None → ⊥
no_start items i x e none = let some : IsSome {T = ℕ} None = subst (λ (o : Option ℕ). IsSome o) none (start_there items i x e) in absurd cc

-- ---- items

-- the first of those that are left
pub first_left : (xs ys : List Item) (i : ℕ) (x : Item) → drop i xs ≡ x ∷ ys → slice_get xs i ≡ Some x
first_left [] ys zero x e = absurd cc
first_left [] ys (suc i) x e = absurd cc
first_left (y ∷ xs) ys zero x e = let same : y ≡ x = cc in ap Some same
first_left (y ∷ xs) ys (suc i) x e = first_left xs ys i x e

-- the others
pub others_left : (xs ys : List Item) (i : ℕ) (x : Item) → drop i xs ≡ x ∷ ys → drop (suc i) xs ≡ ys
others_left [] ys zero x e = absurd cc
others_left [] ys (suc i) x e = absurd cc
others_left (y ∷ xs) ys zero x e = let same : xs ≡ ys = cc in same
others_left (y ∷ xs) ys (suc i) x e = others_left xs ys i x e

pub unit_there : (items : List Item) (i : ℕ) (u : WholeUnit) → slice_get items i ≡ Some (Known u) → IsSome (unit_at items i)
unit_there items i u e = subst (λ (o : Option Item). IsSome (known_of o)) (sym e) refl

-- ---- targets

-- what an attribute of a unit names
pub target_is : (items : List Item) (item : ℕ) (a : LentAttribute) (t : Target) → IsSome (unit_at items item) → ((u : WholeUnit) → unit_at items item ≡ Some u → t ≡ named items item u a.form a.attr.value) → t ≡ target_of items item a
target_is items item a t some is = by (unit_at items item) refl some
  where
    by : (o : Option WholeUnit) → unit_at items item ≡ o → IsSome o → t ≡ target_if items item a o
    by None e h = absurd cc
    by (Some u) e h = is u e

-- a value under a form that no reference has names nothing
pub no_target : (items : List Item) (item : ℕ) (a : LentAttribute) → at_number a.form ref_forms ≡ None → target_text items (target_of items item a) ≡ []
no_target items item a none = by (unit_at items item) (number_in a.attr.value) refl
  where
    by : (o : Option WholeUnit) (v : Option ℕ) → number_in a.attr.value ≡ v → target_text items (target_if items item a o) ≡ []
    by None v e = refl
    by (Some u) None e = rw e refl
    by (Some u) (Some n) e = rw (e, none) refl

-- the item of an entry that is named starts somewhere
pub target_starts : (items : List Item) (t : Target) → IfOk t (λ id. (e : EntryAt) × (entry items id ≡ Some e) × (e.offset ≡ id.offset)) → IfOk t (λ id. IsSome (start_of items id.item))
target_starts items (Ok id) h = let there : InUnit items id h.0 = entry_in_unit items id h.0 h.1 in start_there items id.item (Known there.unit) there.known
target_starts items (Err why) h = tt

-- ---- texts

-- a value under a form that no number names a text under has nothing to say
pub none_stored : (strings : StringSections) (items : List Item) (item : ℕ) (a : LentAttribute) → at_number a.form stored_forms ≡ None → stored_text strings items item a ≡ []
none_stored strings items item a none = by (a.form == 0x08) (unit_at items item) (number_in a.attr.value) refl refl
  where
    by : (own : Bool) (o : Option WholeUnit) (v : Option ℕ) → (a.form == 0x08) ≡ own → number_in a.attr.value ≡ v → (if own then [] else named_quoted (text_if strings a o)) ≡ []
    by true o v e f = refl
    by false None v e f = refl
    by false (Some u) None e f = rw (e, f) refl
    by false (Some u) (Some n) e f = rw (e, f, none) refl

pub none_is : {X : Type 0} (o : Option X) → is_some o ≡ false → o ≡ None
none_is None e = refl
none_is (Some x) e = absurd cc

-- a number that names a text is not a text itself
stored_by_number : (form : ℕ) → is_some (at_number form stored_forms) ≡ true → (form == 0x08) ≡ false
stored_by_number form stored = by (form == 0x08) refl
  where
    by : (own : Bool) → (form == 0x08) ≡ own → own ≡ false
    by false e = refl
    by true e =
        let none : false ≡ true = subst (λ (n : ℕ). is_some (at_number n stored_forms) ≡ true) (eqb-true form 0x08 e) stored in
        absurd cc

-- a value under a form of references has no text behind it
pub entry_behind : {W X : Type 0} (contents : W → Option (List ℕ)) (r : Result X WriteError) (strings : StringSections) (items : List Item) (item : ℕ) (a : LentAttribute) (old new : Output W)
    → is_some (at_number a.form stored_forms) ≡ false → Puts contents old new (target_text items (target_of items item a)) r → Puts contents old new (named_behind strings items item a) r
entry_behind contents r strings items item a old new text h =
    let entry : List ℕ = target_text items (target_of items item a) in
    let no_text = none_stored strings items item a (none_is (at_number a.form stored_forms) text) in
    subst (λ (t : List ℕ). Puts contents old new t r) (sym (append-nil entry) ∙ ap (λ (t : List ℕ). entry ++ t) (sym no_text)) h

-- one under a form of texts has no entry behind it
pub text_behind : {W X : Type 0} (contents : W → Option (List ℕ)) (r : Result X WriteError) (strings : StringSections) (items : List Item) (item : ℕ) (a : LentAttribute) (old new : Output W)
    → is_some (at_number a.form ref_forms) ≡ false → is_some (at_number a.form stored_forms) ≡ true → Puts contents old new (named_quoted (text_of strings items item a)) r → Puts contents old new (named_behind strings items item a) r
text_behind contents r strings items item a old new entry text h =
    let said : List ℕ = named_quoted (text_of strings items item a) in
    let no_entry = no_target items item a (none_is (at_number a.form ref_forms) entry) in
    let stored : stored_text strings items item a ≡ said = ap (λ (own : Bool). if own then [] else said) (stored_by_number a.form text) in
    subst (λ (t : List ℕ). Puts contents old new t r) (sym stored ∙ ap (λ (t : List ℕ). t ++ stored_text strings items item a) (sym no_entry)) h

-- a value under a form of neither names nothing
pub nothing_named : {W : Type 0} (contents : W → Option (List ℕ)) (strings : StringSections) (items : List Item) (item : ℕ) (a : LentAttribute) (out : Output W)
    → is_some (at_number a.form ref_forms) ≡ false → is_some (at_number a.form stored_forms) ≡ false → IsClear out → Puts {X = Unit {0}} contents out out (named_behind strings items item a) (Ok tt)
nothing_named contents strings items item a out entry text clear =
    let no_entry = no_target items item a (none_is (at_number a.form ref_forms) entry) in
    let no_text = none_stored strings items item a (none_is (at_number a.form stored_forms) text) in
    subst (λ (t : List ℕ). Puts contents out out (t ++ stored_text strings items item a) (Ok tt)) (sym no_entry)
    (subst (λ (t : List ℕ). Puts contents out out t (Ok tt)) (sym no_text) (puts_nothing contents out clear))
