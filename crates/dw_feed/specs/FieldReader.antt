-- The next field at a place, by the plain reader, with the place behind it.
use Rattle.std.proofs.Common.{◌≡◌, ℕ, ◌-◌, ◌<◌, ◌≤◌, Bool, true, false, List, [], ◌∷◌, ◌++◌, length, take, Option, Some, None, refl, sym, ap, subst, ◌∙◌, arith, length-drop}
use Rattle.std.specs.Prelude.{if◌then◌else◌}
use Rattle.std.proofs.lemmas.List.{take_at}
use Rattle.dw_leb.specs.declared.errors.Reason.{Reason}
use Rattle.dw_leb.specs.declared.errors.Reason.TheVariants.{SecondRoot}
use Rattle.dw_leb.specs.Part.{Part, Taken, judged}
use Rattle.dw_leb.specs.Number.{Unsigned, uleb}
use Rattle.dw_leb.specs.Reader.{Outcome, Found, Broken, Reader, mapped, made, checked, returned}
use Rattle.dw_leb.specs.ReadNumber.{read_uleb}
use Rattle.dw_leb.specs.Decide.{Decides, Says, AreBytes, found, found_value, judged_decides}
use Rattle.dw_leb.specs.DecideNumber.{uleb_decides}
use Rattle.dw_form.specs.declared.shape.Ctx.{Ctx}
use Rattle.dw_form.specs.Form.{Attribute, attribute}
use Rattle.dw_form.specs.ReadForm.{read_attribute}
use Rattle.dw_form.specs.DecideForm.{attribute_decides}
use Rattle.dw_abbrev.specs.Table.{Pair, Table, declared, is_null}
use Rattle.dw_tree.specs.Tree.{Forest, none, more, declared_pairs, bad_root, bad_child, not_null, nesting}
use Rattle.dw_tree.specs.Place.{Frame, Spot, UnfinishedEntry, Place, leave}
use Rattle.dw_tree.specs.Steps.{FirstFits, first_bytes, next_pairs, settle}
use Rattle.dw_feed.specs.Room.{has_room}
use Rattle.dw_feed.specs.NextPlace.{Stands}
use Rattle.dw_feed.specs.FieldFound.{Leads, place, root_leads, child_leads, close_leads, value_leads, pad_leads}
use Rattle.dw_feed.specs.NextField.{nothing_of, read_next_value, read_next}

-- the place behind a field, and the widths of the nulls of the padding there
abbrev pub PlaceBehind : Type 0
PlaceBehind = Place × List ℕ

module _ (k : Ctx) (t : Table) where
  -- a null closes the chain's entry, another code begins one
  abbrev pub by_code : Bool → Spot → Unsigned → PlaceBehind
  by_code true s code = (record { spot = leave code.width s; unfinished = None }, [])
  by_code false s code = (settle t s code [], [])

  abbrev pub read_value : List Frame → Forest → UnfinishedEntry → List Pair → Reader PlaceBehind
  read_value fs ts r [] = returned (place fs ts (Some r), [])
  read_value fs ts r (p ∷ ps) =
      made (λ v. (settle t (record { above = fs; left = ts }) r.code (r.values ++ v ∷ []), []))
      (read_attribute k p.form.value p.constant)

  abbrev pub read_field : List Frame → Forest → Option UnfinishedEntry → List ℕ → Reader PlaceBehind
  read_field fs ts (Some r) ws = read_value fs ts r (next_pairs t r)
  read_field [] none None ws =
      made (λ code. (settle t (record { above = []; left = none }) code [], [])) (checked read_uleb (bad_root t))
  read_field [] (more x ts) None ws =
      made (λ code. (place [] (more x ts) None, ws ++ code.width ∷ [])) (checked read_uleb not_null)
  read_field (f ∷ fs) ts None ws =
      made (λ code. by_code (is_null code) (record { above = f ∷ fs; left = ts }) code)
      (checked read_uleb (bad_child t (has_room (nesting - length (f ∷ fs)))))

  -- it is the next field, with its value
  blind : {A X : Type 0} (f : A → X) (o : Outcome A)
      → mapped {X = Unit {0}} nothing_of (mapped f o) ≡ mapped nothing_of o
  blind f (Found a size) = refl
  blind f (Broken offset reason) = refl

  value_is_next : (fs : List Frame) (ts : Forest) (r : UnfinishedEntry) (ps : List Pair) (bytes : List ℕ) (lim : ℕ)
      → mapped {X = Unit {0}} nothing_of (read_value fs ts r ps bytes lim) ≡ read_next_value k t ps bytes lim
  value_is_next fs ts r [] bytes lim = refl
  value_is_next fs ts r (p ∷ ps) bytes lim = blind _ (read_attribute k p.form.value p.constant bytes lim)

  pub is_next : (fs : List Frame) (ts : Forest) (o : Option UnfinishedEntry) (ws : List ℕ) (bytes : List ℕ) (lim : ℕ)
      → mapped {X = Unit {0}} nothing_of (read_field fs ts o ws bytes lim) ≡ read_next k t fs ts o bytes lim
  is_next [] none (Some r) ws bytes lim = value_is_next [] none r (next_pairs t r) bytes lim
  is_next [] (more x ts) (Some r) ws bytes lim = value_is_next [] (more x ts) r (next_pairs t r) bytes lim
  is_next (f ∷ fs) ts (Some r) ws bytes lim = value_is_next (f ∷ fs) ts r (next_pairs t r) bytes lim
  is_next [] none None ws bytes lim = blind _ (checked read_uleb (bad_root t) bytes lim)
  is_next [] (more x ts) None ws bytes lim = blind _ (checked read_uleb not_null bytes lim)
  is_next (f ∷ fs) ts None ws bytes lim =
      blind _ (checked read_uleb (bad_child t (has_room (nesting - length (f ∷ fs)))) bytes lim)

  -- ---- where it is found, the place behind it stands

  made_found : {A X : Type 0} (f : A → X) (o : Outcome A) (x : X) (size : ℕ) → mapped f o ≡ Found x size
      → (a : A) × (o ≡ Found a size) × (f a ≡ x)
  made_found f (Found a s) x size e = let p = found_value (f a) x s size e in (a, ap (λ (n : ℕ). found a n) p.1, p.0)
  made_found f (Broken offset reason) x size e = absurd cc

  taken_of : {X : Type 0} (P : Part X) (R : Reader X) → Decides P R → (bytes : List ℕ) (lim : ℕ) (x : X) (size : ℕ)
      → AreBytes bytes → R bytes lim ≡ Found x size → Taken P bytes lim x size
  taken_of P R it bytes lim x size fit e = subst (Says P bytes lim) e (it.says bytes lim fit)

  front_is : {X : Type 0} (P : Part X) (bytes : List ℕ) (lim : ℕ) (x : X) (size : ℕ) → Taken P bytes lim x size
      → P.spell x ≡ take size bytes
  front_is P bytes lim x size g = sym (ap (take size) g.split ∙ take_at (P.spell x) g.rest size g.is_size)

  code_taken : (meaning : Unsigned → Option Reason) (bytes : List ℕ) (lim : ℕ) (code : Unsigned) (size : ℕ)
      → AreBytes bytes → checked read_uleb meaning bytes lim ≡ Found code size
      → Taken (judged uleb meaning) bytes lim code size
  code_taken meaning =
      taken_of (judged uleb meaning) (checked read_uleb meaning) (judged_decides uleb read_uleb meaning uleb_decides)

  -- the place behind, and that the field is within lim
  abbrev pub Follows : Place → List ℕ → List ℕ → ℕ → ℕ → PlaceBehind → Type 0
  Follows p ws bytes lim size q = Leads k t p ws (take size bytes) q.0 q.1 × (size ≤ lim)

  follows_code : (meaning : Unsigned → Option Reason) (p : Place) (ws bytes : List ℕ) (lim : ℕ)
      (f : Unsigned → PlaceBehind) → AreBytes bytes
      → ((code : Unsigned) → (judged uleb meaning).Fits code → Leads k t p ws (uleb.spell code) (f code).0 (f code).1)
      → (q : PlaceBehind) (size : ℕ) → made f (checked read_uleb meaning) bytes lim ≡ Found q size
      → Follows p ws bytes lim size q
  follows_code meaning p ws bytes lim f fit leads q size e =
      let m = made_found f (checked read_uleb meaning bytes lim) q size e in
      let g = code_taken meaning bytes lim m.0 size fit m.1 in
      let at : Leads k t p ws (take size bytes) (f m.0).0 (f m.0).1 =
      subst (λ (bs : List ℕ). Leads k t p ws bs (f m.0).0 (f m.0).1)
      (front_is (judged uleb meaning) bytes lim m.0 size g) (leads m.0 g.fits) in
      (subst (λ (b : PlaceBehind). Leads k t p ws (take size bytes) b.0 b.1) m.2 at, g.within)

  follows_value : (fs : List Frame) (ts : Forest) (r : UnfinishedEntry) (bytes : List ℕ) (lim : ℕ) → AreBytes bytes
      → Stands k t (place fs ts (Some r)) []
      → (ps : List Pair) → next_pairs t r ≡ ps → (q : PlaceBehind) (size : ℕ)
      → read_value fs ts r ps bytes lim ≡ Found q size → Follows (place fs ts (Some r)) [] bytes lim size q
  follows_value fs ts r bytes lim fit stands [] none_left q size e =
      let short : length r.values < length (declared_pairs (declared t r.code.value)) = stands.spot_fits.short in
      absurd
      (omega (
        arith,
        short,
        length-drop (length r.values) (declared_pairs (declared t r.code.value)),
        ap length none_left,
      ))
  follows_value fs ts r bytes lim fit stands (p ∷ ps) is q size e =
      let f : Attribute → PlaceBehind =
      λ v. (settle t (record { above = fs; left = ts }) r.code (r.values ++ v ∷ []), []) in
      let m = made_found f (read_attribute k p.form.value p.constant bytes lim) q size e in
      let g =
      taken_of (attribute k p.form.value p.constant) (read_attribute k p.form.value p.constant)
      (attribute_decides k p.form.value p.constant) bytes lim m.0 size fit m.1 in
      let fits : FirstFits k (next_pairs t r) m.0 = subst (λ (xs : List Pair). FirstFits k xs m.0) (sym is) g.fits in
      let same : first_bytes k (next_pairs t r) m.0 ≡ take size bytes =
      ap (λ (xs : List Pair). first_bytes k xs m.0) is
      ∙ front_is (attribute k p.form.value p.constant) bytes lim m.0 size g in
      let at : Leads k t (place fs ts (Some r)) [] (take size bytes) (f m.0).0 (f m.0).1 =
      subst (λ (bs : List ℕ). Leads k t (place fs ts (Some r)) [] bs (f m.0).0 (f m.0).1) same
      (value_leads k t fs ts r m.0 stands fits) in
      (subst (λ (b : PlaceBehind). Leads k t (place fs ts (Some r)) [] (take size bytes) b.0 b.1) m.2 at, g.within)

  null_is_null : (code : Unsigned) → (judged uleb not_null).Fits code → is_null code ≡ true
  null_is_null code fits = by (is_null code) fits.1
    where
      by : (v : Bool) → (if v then None else Some SecondRoot) ≡ None → v ≡ true
      by true e = refl
      by false e = absurd cc

  child_by : (f : Frame) (fs : List Frame) (ts : Forest) → Stands k t (place (f ∷ fs) ts None) [] → (code : Unsigned)
      → (judged uleb (bad_child t (has_room (nesting - length (f ∷ fs))))).Fits code → (v : Bool) → is_null code ≡ v
      → Leads k t (place (f ∷ fs) ts None) [] (uleb.spell code)
      (by_code v (record { above = f ∷ fs; left = ts }) code).0
      (by_code v (record { above = f ∷ fs; left = ts }) code).1
  child_by f fs ts stands code fits true e = close_leads k t f fs ts code stands fits.0 e
  child_by f fs ts stands code fits false e = child_leads k t f fs ts code stands fits e

  pub follows : (fs : List Frame) (ts : Forest) (o : Option UnfinishedEntry) (ws bytes : List ℕ) (lim : ℕ)
      → AreBytes bytes → Stands k t (place fs ts o) ws
      → (q : PlaceBehind) (size : ℕ) → read_field fs ts o ws bytes lim ≡ Found q size
      → Follows (place fs ts o) ws bytes lim size q
  follows [] none (Some r) [] bytes lim fit stands q size e =
      follows_value [] none r bytes lim fit stands _ refl q size e
  follows [] (more x ts) (Some r) [] bytes lim fit stands q size e =
      follows_value [] (more x ts) r bytes lim fit stands _ refl q size e
  follows (f ∷ fs) ts (Some r) [] bytes lim fit stands q size e =
      follows_value (f ∷ fs) ts r bytes lim fit stands _ refl q size e
  follows [] none (Some r) (w ∷ ws) bytes lim fit stands q size e = absurd stands.padding_fits
  follows [] (more x ts) (Some r) (w ∷ ws) bytes lim fit stands q size e = absurd stands.padding_fits
  follows (f ∷ fs) ts (Some r) (w ∷ ws) bytes lim fit stands q size e = absurd stands.padding_fits
  follows [] none None [] bytes lim fit stands q size e =
      follows_code (bad_root t) (place [] none None) [] bytes lim
      (λ code. (settle t (record { above = []; left = none }) code [], [])) fit
      (λ code fits. root_leads k t code stands fits) q size e
  follows [] none None (w ∷ ws) bytes lim fit stands q size e = absurd stands.padding_fits
  follows [] (more x ts) None ws bytes lim fit stands q size e =
      follows_code not_null (place [] (more x ts) None) ws bytes lim
      (λ code. (place [] (more x ts) None, ws ++ code.width ∷ [])) fit
      (λ code fits. pad_leads k t x ts ws code stands fits.0 (null_is_null code fits)) q size e
  follows (f ∷ fs) ts None [] bytes lim fit stands q size e =
      follows_code (bad_child t (has_room (nesting - length (f ∷ fs)))) (place (f ∷ fs) ts None) [] bytes lim
      (λ code. by_code (is_null code) (record { above = f ∷ fs; left = ts }) code) fit
      (λ code fits. child_by f fs ts stands code fits (is_null code) refl) q size e
  follows (f ∷ fs) ts None (w ∷ ws) bytes lim fit stands q size e = absurd stands.padding_fits
