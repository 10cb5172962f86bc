-- The next field with the place behind it, by what stands at the front: a value, a code, a null, or a break.
use Rattle.std.proofs.Common.{◌≡◌, ℕ, ◌≤◌, List, [], ◌∷◌, ◌++◌, length, Some, ap, ◌∙◌, arith}
use Rattle.dw_leb.specs.declared.errors.Reason.{Reason}
use Rattle.dw_leb.specs.Part.{Part, Taken}
use Rattle.dw_leb.specs.Reader.{Reader, mapped, made}
use Rattle.dw_leb.specs.Decide.{Decides, found, broken}
use Rattle.dw_form.specs.declared.shape.Ctx.{Ctx}
use Rattle.dw_form.specs.Form.{Attribute, attribute}
use Rattle.dw_form.specs.ReadForm.{read_attribute}
use Rattle.dw_form.specs.DecideForm.{attribute_decides}
use Rattle.dw_abbrev.specs.Table.{Pair, Table}
use Rattle.dw_tree.specs.Tree.{Forest}
use Rattle.dw_tree.specs.Place.{Frame, UnfinishedEntry}
use Rattle.dw_tree.specs.Steps.{next_pairs, settle}
use Rattle.dw_feed.specs.FieldReader.{PlaceBehind, read_value, read_field}

-- what is spelled at the front is found ..
front_found : {A X : Type 0} (P : Part A) (R : Reader A) → Decides P R → (f : A → X) (bytes : List ℕ) (lim : ℕ) (a : A)
    (size : ℕ) → Taken P bytes lim a size → made f R bytes lim ≡ found (f a) size
front_found P R it f bytes lim a size h =
    let within : length (P.spell a) ≤ lim = omega (arith, h.is_size, h.within) in
    ap (λ (bs : List ℕ). mapped f (R bs lim)) h.split
    ∙ ap (mapped f) (it.takes a h.rest lim h.fits within)
    ∙ ap (λ (n : ℕ). found (f a) n) h.is_size

-- .. and a break is refused
front_broken : {A X : Type 0} (P : Part A) (R : Reader A) → Decides P R → (f : A → X) (bytes : List ℕ) (lim offset : ℕ)
    (reason : Reason) → P.Break bytes lim offset reason → made f R bytes lim ≡ broken X offset reason
front_broken P R it f bytes lim offset reason h = ap (mapped f) (it.faults bytes lim offset reason h)

module _ (k : Ctx) (t : Table) (ws bytes : List ℕ) (lim : ℕ) where
  -- ---- a value of the unfinished entry

  module _ (fs : List Frame) (ts : Forest) (r : UnfinishedEntry) (p : Pair) (ps : List Pair)
      (next : next_pairs t r ≡ p ∷ ps) where
    value_reader : read_field k t fs ts (Some r) ws bytes lim ≡ read_value k t fs ts r (p ∷ ps) bytes lim
    value_reader = ap (λ (qs : List Pair). read_value k t fs ts r qs bytes lim) next

    pub value_found : (v : Attribute) (size : ℕ) → Taken (attribute k p.form.value p.constant) bytes lim v size
        → read_field k t fs ts (Some r) ws bytes lim
        ≡ found (settle t (record { above = fs; left = ts }) r.code (r.values ++ v ∷ []), []) size
    value_found v size h =
        value_reader
        ∙ front_found (attribute k p.form.value p.constant) (read_attribute k p.form.value p.constant)
        (attribute_decides k p.form.value p.constant) _ bytes lim v size h

    pub value_broken : (offset : ℕ) (reason : Reason)
        → (attribute k p.form.value p.constant).Break bytes lim offset reason
        → read_field k t fs ts (Some r) ws bytes lim ≡ broken PlaceBehind offset reason
    value_broken offset reason h =
        value_reader
        ∙ front_broken (attribute k p.form.value p.constant) (read_attribute k p.form.value p.constant)
        (attribute_decides k p.form.value p.constant) _ bytes lim offset reason h
