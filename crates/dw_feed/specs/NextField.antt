-- The next field at a place, by the plain reader with its value aside: its moment, and where it breaks.
use Rattle.std.proofs.Common.{◌≡◌, ℕ, ◌-◌, ◌<◌, List, [], ◌∷◌, length, Option, Some, None, ap₂, subst, inl, inr}
use Rattle.dw_leb.specs.declared.errors.Reason.{Reason}
use Rattle.dw_leb.specs.Part.{Part, judged}
use Rattle.dw_leb.specs.Number.{Unsigned, uleb}
use Rattle.dw_leb.specs.Reader.{Outcome, Found, Broken, Reader, mapped, made, checked, returned}
use Rattle.dw_leb.specs.ReadNumber.{read_uleb}
use Rattle.dw_leb.specs.Decide.{Decides, Says, AreBytes, broken, broken_value, judged_decides}
use Rattle.dw_leb.specs.DecideNumber.{uleb_decides, uleb_field}
use Rattle.dw_leb.specs.Field.{IsField}
use Rattle.dw_form.specs.declared.shape.Ctx.{Ctx}
use Rattle.dw_form.specs.Form.{attribute}
use Rattle.dw_form.specs.ReadForm.{read_attribute}
use Rattle.dw_form.specs.DecideForm.{attribute_decides}
use Rattle.dw_abbrev.specs.Table.{Pair, Table}
use Rattle.dw_tree.specs.Tree.{Forest, none, more, bad_root, bad_child, not_null, nesting}
use Rattle.dw_tree.specs.Place.{Frame, UnfinishedEntry}
use Rattle.dw_tree.specs.Steps.{next_pairs}
use Rattle.dw_feed.specs.Room.{has_room}
use Rattle.dw_leb.specs.Moments.{Moment, HasMoment, at_no_byte, returned_moment, made_moment}
use Rattle.dw_leb.specs.NumberMoments.{leb_moment}
use Rattle.dw_form.specs.FormMoments.{attribute_moment, attribute_has}
use Rattle.dw_feed.specs.CodeMoments.{root_code_has, child_code_has, null_has}
use Rattle.dw_feed.specs.FieldPlace.{ValueBreaks, NextBreaks}

abbrev pub nothing_of : {X : Type 0} → X → Unit {0}
nothing_of x = tt

module _ (k : Ctx) (t : Table) where
  abbrev pub read_next_value : List Pair → Reader (Unit {0})
  read_next_value [] = returned tt
  read_next_value (p ∷ ps) = made nothing_of (read_attribute k p.form.value p.constant)

  abbrev pub read_next : List Frame → Forest → Option UnfinishedEntry → Reader (Unit {0})
  read_next fs ts (Some r) = read_next_value (next_pairs t r)
  read_next [] none None = made nothing_of (checked read_uleb (bad_root t))
  read_next [] (more x ts) None = made nothing_of (checked read_uleb not_null)
  read_next (f ∷ fs) ts None = made nothing_of (checked read_uleb (bad_child t (has_room (nesting - length (f ∷ fs)))))

  abbrev pub next_value_moment : List Pair → Moment
  next_value_moment [] = at_no_byte
  next_value_moment (p ∷ ps) = attribute_moment k p.form.value

  -- after how many bytes of it the next field stands
  abbrev pub next_moment : List Frame → Forest → Option UnfinishedEntry → Moment
  next_moment fs ts (Some r) = next_value_moment (next_pairs t r)
  next_moment [] none None = leb_moment
  next_moment [] (more x ts) None = leb_moment
  next_moment (f ∷ fs) ts None = leb_moment

  next_value_has : (ps : List Pair) → HasMoment (read_next_value ps) (next_value_moment ps)
  next_value_has [] = returned_moment tt
  next_value_has (p ∷ ps) =
      made_moment nothing_of (read_attribute k p.form.value p.constant) (attribute_moment k p.form.value)
      (attribute_has k p.form.value p.constant)

  pub next_has : (fs : List Frame) (ts : Forest) (o : Option UnfinishedEntry)
      → HasMoment (read_next fs ts o) (next_moment fs ts o)
  next_has [] none (Some r) = next_value_has (next_pairs t r)
  next_has [] (more x ts) (Some r) = next_value_has (next_pairs t r)
  next_has (f ∷ fs) ts (Some r) = next_value_has (next_pairs t r)
  next_has [] none None = made_moment nothing_of (checked read_uleb (bad_root t)) leb_moment (root_code_has t)
  next_has [] (more x ts) None = made_moment nothing_of (checked read_uleb not_null) leb_moment null_has
  next_has (f ∷ fs) ts None =
      made_moment nothing_of (checked read_uleb (bad_child t (has_room (nesting - length (f ∷ fs))))) leb_moment
      (child_code_has t (has_room (nesting - length (f ∷ fs))))

  -- the unit isn't whole: behind its root it isn't at its end
  abbrev pub GoesOn : List Frame → Forest → Option UnfinishedEntry → ℕ → Type 0
  GoesOn fs ts (Some r) lim = Unit {0}
  GoesOn [] none None lim = Unit {0}
  GoesOn [] (more x ts) None lim = 0 < lim
  GoesOn (f ∷ fs) ts None lim = Unit {0}

  mapped_broken : {X : Type 0} (o : Outcome X) (offset : ℕ) (reason : Reason)
      → mapped {X = Unit {0}} nothing_of o ≡ Broken offset reason → o ≡ Broken offset reason
  mapped_broken (Found x size) offset reason e = absurd cc
  mapped_broken {X} (Broken at why) offset reason e =
      let p = broken_value (Unit {0}) at offset why reason e in ap₂ (λ (n : ℕ) (r : Reason). broken X n r) p.0 p.1

  -- what the plain reader refuses breaks
  part_breaks : {X : Type 0} (P : Part X) (R : Reader X) → Decides P R → (bytes : List ℕ) (lim offset : ℕ)
      (reason : Reason) → AreBytes bytes → made {X = Unit {0}} nothing_of R bytes lim ≡ Broken offset reason
      → P.Break bytes lim offset reason
  part_breaks P R it bytes lim offset reason fit e =
      subst (Says P bytes lim) (mapped_broken (R bytes lim) offset reason e) (it.says bytes lim fit)

  value_breaks : (ps : List Pair) (bytes : List ℕ) (lim offset : ℕ) (reason : Reason) → AreBytes bytes
      → read_next_value ps bytes lim ≡ Broken offset reason → ValueBreaks k t ps bytes lim offset reason
  value_breaks [] bytes lim offset reason fit e = absurd cc
  value_breaks (p ∷ ps) bytes lim offset reason fit e =
      part_breaks (attribute k p.form.value p.constant) (read_attribute k p.form.value p.constant)
      (attribute_decides k p.form.value p.constant) bytes lim offset reason fit e

  code_breaks : (meaning : Unsigned → Option Reason) (bytes : List ℕ) (lim offset : ℕ) (reason : Reason)
      → AreBytes bytes → made {X = Unit {0}} nothing_of (checked read_uleb meaning) bytes lim ≡ Broken offset reason
      → (judged uleb meaning).Break bytes lim offset reason
  code_breaks meaning =
      part_breaks (judged uleb meaning) (checked read_uleb meaning) (judged_decides uleb read_uleb meaning uleb_decides)

  pub next_breaks : (fs : List Frame) (ts : Forest) (o : Option UnfinishedEntry) (bytes : List ℕ) (lim offset : ℕ)
      (reason : Reason) → GoesOn fs ts o lim → AreBytes bytes → read_next fs ts o bytes lim ≡ Broken offset reason
      → NextBreaks k t fs ts o bytes lim offset reason
  next_breaks [] none (Some r) bytes lim offset reason on fit e =
      value_breaks (next_pairs t r) bytes lim offset reason fit e
  next_breaks [] (more x ts) (Some r) bytes lim offset reason on fit e =
      value_breaks (next_pairs t r) bytes lim offset reason fit e
  next_breaks (f ∷ fs) ts (Some r) bytes lim offset reason on fit e =
      value_breaks (next_pairs t r) bytes lim offset reason fit e
  next_breaks [] none None bytes lim offset reason on fit e = code_breaks (bad_root t) bytes lim offset reason fit e
  next_breaks [] (more x ts) None bytes lim offset reason on fit e =
      (on, code_breaks not_null bytes lim offset reason fit e)
  next_breaks (f ∷ fs) ts None bytes lim offset reason on fit e =
      code_breaks (bad_child t (has_room (nesting - length (f ∷ fs)))) bytes lim offset reason fit e

  -- a field breaks at its first byte
  code_field : (meaning : Unsigned → Option Reason) → IsField (judged uleb meaning)
  code_field meaning bytes lim offset reason (inl h) = uleb_field bytes lim offset reason h
  code_field meaning bytes lim offset reason (inr h) = h.here

  value_field : (ps : List Pair) (bytes : List ℕ) (lim offset : ℕ) (reason : Reason)
      → ValueBreaks k t ps bytes lim offset reason → offset ≡ 0
  unfolding attribute
  value_field [] bytes lim offset reason h = absurd h
  value_field (p ∷ ps) bytes lim offset reason h = h.0

  pub next_field : (fs : List Frame) (ts : Forest) (o : Option UnfinishedEntry) (bytes : List ℕ) (lim offset : ℕ)
      (reason : Reason) → NextBreaks k t fs ts o bytes lim offset reason → offset ≡ 0
  next_field [] none (Some r) bytes lim offset reason h = value_field (next_pairs t r) bytes lim offset reason h
  next_field [] (more x ts) (Some r) bytes lim offset reason h = value_field (next_pairs t r) bytes lim offset reason h
  next_field (f ∷ fs) ts (Some r) bytes lim offset reason h = value_field (next_pairs t r) bytes lim offset reason h
  next_field [] none None bytes lim offset reason h = code_field (bad_root t) bytes lim offset reason h
  next_field [] (more x ts) None bytes lim offset reason h = code_field not_null bytes lim offset reason h.1
  next_field (f ∷ fs) ts None bytes lim offset reason h =
      code_field (bad_child t (has_room (nesting - length (f ∷ fs)))) bytes lim offset reason h
