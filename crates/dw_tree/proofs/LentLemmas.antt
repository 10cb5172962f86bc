-- Values that fit their pairs, one by one.
use Rattle.std.proofs.Common.{◌≡◌, ◌+◌, ◌∷◌, ℕ, Bool, true, false, List, length, drop, Option, Some, None, refl, sym, ap, subst, ◌∙◌, arith}
use Rattle.std.specs.Prelude.{◌==◌, is_some, map}
use Rattle.std.proofs.lemmas.List.{length-append, drop_at}
use Rattle.dw_leb.specs.Number.{Unsigned, Signed}
use Rattle.dw_form.specs.declared.shape.Ctx.{Ctx}
use Rattle.dw_form.specs.declared.shape.Shape.{Shape}
use Rattle.dw_form.specs.declared.shape.Shape.TheVariants as shapes
use Rattle.dw_form.specs.Form.{Value, Implicit, Attribute, shape, shaped, shaped_if, by_indirection, attribute}
use Rattle.dw_form.specs.Pieces.{constant_in, HasSpelling, spelling}
use Rattle.dw_form.specs.BareFits.{bare_fits}
use Rattle.dw_form.specs.Head.{bare_value, head, head_at}
use Rattle.dw_abbrev.specs.declared.pair.Pair.{Pair as RustPair}
use Rattle.dw_abbrev.specs.PairView.{pair_of}
use Rattle.dw_abbrev.specs.Table.{Pair}
use Rattle.dw_tree.specs.Lent.{AreLent, begins_bare, lent_attributes}
use Rattle.dw_tree.specs.RowHeads.{Here, run_bytes, First, Next, first_found, next_here, put_in, values_at}

-- ---- the constant of a declaration tells nothing that its value doesn't

module _ (k : Ctx) (c : Option Signed) where
  shaped_same : (s : Shape) (v : Value) → (shaped k c s).Fits v → (shaped k (constant_in v) s).Fits v × ((shaped k (constant_in v) s).spell v ≡ (shaped k c s).spell v)
  unfolding shaped
  shaped_same (shapes.Fixed n) v fits = (fits, refl)
  shaped_same shapes.Uleb v fits = (fits, refl)
  shaped_same shapes.Sleb v fits = (fits, refl)
  shaped_same (shapes.Counted n) v fits = (fits, refl)
  shaped_same shapes.CountedUleb v fits = (fits, refl)
  shaped_same shapes.Text v fits = (fits, refl)
  shaped_same shapes.Present v fits = (fits, refl)
  shaped_same shapes.Implicit v fits = by c v fits
    where
      by : (d : Option Signed) (v : Value) → (shaped k d shapes.Implicit).Fits v → (shaped k (constant_in v) shapes.Implicit).Fits v × ((shaped k (constant_in v) shapes.Implicit).spell v ≡ (shaped k d shapes.Implicit).spell v)
      by None v fits = absurd fits
      by (Some x) (Implicit y) fits = (refl, refl)
      by (Some x) _ fits = absurd cc
  shaped_same shapes.Indirect v fits = absurd fits

  formed_same : (o : Option Shape) (v : Value) → (shaped_if k c o).Fits v → (shaped_if k (constant_in v) o).Fits v × ((shaped_if k (constant_in v) o).spell v ≡ (shaped_if k c o).spell v)
  formed_same None v fits = absurd fits
  formed_same (Some s) v fits = shaped_same s v fits

  -- a value that fits under some constant has a spelling, which is the same
  pub spelled_alone : (form : ℕ) (a : Attribute) → (attribute k form c).Fits a → HasSpelling k form a × (spelling k form a ≡ (attribute k form c).spell a)
  unfolding attribute
  spelled_alone form a fits = by (form == 0x16) a.via fits
    where
      by : (b : Bool) (via : Option Unsigned) → (by_indirection k c form b).Fits (record { via = via; value = a.value })
          → (by_indirection k (constant_in a.value) form b).Fits (record { via = via; value = a.value })
          × ((by_indirection k (constant_in a.value) form b).spell (record { via = via; value = a.value }) ≡ (by_indirection k c form b).spell (record { via = via; value = a.value }))
      by true via fits = (fits, refl)
      by false None fits = formed_same (shape form k.address_size k.format) a.value fits
      by false (Some u) fits = absurd fits

-- the first of the values that are lent has a spelling, and the others begin where it ends
module _ (k : Ctx) (at : ℕ) (hs pool : List ℕ) (ps : List Pair) (p : Pair) (rest : List Pair) (is : ps ≡ p ∷ rest) (lent : AreLent k at ps hs pool) where
  abbrev next : Next k p rest hs pool
  next = next_here k p rest hs pool (subst (λ (qs : List Pair). Here k qs hs pool) is lent.here)

  abbrev pub first_value : First k p hs pool
  first_value = next.first

  pub first_spelled : HasSpelling k p.form.value first_value.value
  first_spelled = (spelled_alone k p.constant p.form.value first_value.value first_value.fits).0

  abbrev pub first_size : ℕ
  first_size = length (head k p.form.value first_value.start first_value.value)

  pub behind_first_is : drop first_size hs ≡ first_value.rest
  behind_first_is = ap (drop first_size) first_value.split ∙ drop_at (head k p.form.value first_value.start first_value.value) first_value.rest first_size refl

  own : length (spelling k p.form.value first_value.value) ≡ length ((attribute k p.form.value p.constant).spell first_value.value)
  own = ap length (spelled_alone k p.constant p.form.value first_value.value first_value.fits).1

  pub others_lent : AreLent k (at + length (spelling k p.form.value first_value.value)) rest (drop first_size hs) pool
  others_lent = record {
    context = lent.context;
    here = subst (λ (b : List ℕ). Here k rest b pool) (sym behind_first_is) next.others;
    room =
        let all = ap (λ (qs : List Pair). length (run_bytes k qs hs pool)) is ∙ ap length next.spelled in
        let tail = ap (λ (b : List ℕ). length (run_bytes k rest b pool)) behind_first_is in
        omega (arith, lent.room, all, tail, own, length-append ((attribute k p.form.value p.constant).spell first_value.value) (run_bytes k rest first_value.rest pool));
  }

-- ---- what is left behind the first value, where its head gives it

pub record Left (k : Ctx) (at : ℕ) (hs pool : List ℕ) (p : Pair) (rest : List Pair) (a : Attribute) (width : ℕ) : Type 0 where
  pub spelled : HasSpelling k p.form.value a
  pub own_head : (start : ℕ) × (width ≡ length (head k p.form.value start a))
  pub others : AreLent k (at + length (spelling k p.form.value a)) rest (drop width hs) pool

abbrev pair : Attribute → ℕ → Attribute × ℕ
pair a n = (a, n)

abbrev some_pair : Attribute → ℕ → Option (Attribute × ℕ)
some_pair a n = Some (a, n)

module _ (k : Ctx) (at : ℕ) (hs pool : List ℕ) (all : List RustPair) (q : RustPair) (qs : List RustPair) (items : all ≡ q ∷ qs) (lent : AreLent k at (map pair_of all) hs pool) where
  abbrev p : Pair
  p = pair_of q

  abbrev rest : List Pair
  rest = map pair_of qs

  is : map pair_of all ≡ p ∷ rest
  is = ap (λ (xs : List RustPair). map pair_of xs) items

  pub left : (a : Attribute) (width : ℕ) → head_at k p.form.value p.constant hs pool ≡ Some (a, width) → Left k at hs pool p rest a width
  left a width e =
      let x = first_value k at hs pool (map pair_of all) p rest is lent in
      let same = both a x.value width (length (head k p.form.value x.start x.value)) (sym e ∙ first_found k p hs pool x) in
      let others = others_lent k at hs pool (map pair_of all) p rest is lent in
      record {
        spelled = subst (λ (b : Attribute). HasSpelling k p.form.value b) (sym same.0) (first_spelled k at hs pool (map pair_of all) p rest is lent);
        own_head = (x.start, same.1 ∙ ap (λ (b : Attribute). length (head k p.form.value x.start b)) (sym same.0));
        others = subst (λ (b : Attribute). AreLent k (at + length (spelling k p.form.value b)) rest (drop width hs) pool) (sym same.0)
            (subst (λ (n : ℕ). AreLent k (at + length (spelling k p.form.value x.value)) rest (drop n hs) pool) (sym same.1) others);
      }
    where
      both : (a b : Attribute) (n m : ℕ) → some_pair a n ≡ some_pair b m → (a ≡ b) × (n ≡ m)
      both a b n m e =
          let same : pair a n ≡ pair b m = cc in
          (ap (λ (y : Attribute × ℕ). y.0) same, ap (λ (y : Attribute × ℕ). y.1) same)

  -- the form of its declaration tells whether it has no bytes
  pub bare_first : begins_bare (lent_attributes k at (map pair_of all) (values_at k (map pair_of all) hs pool)) ≡ is_some (bare_value (shape p.form.value k.address_size k.format) p.constant)
  bare_first =
      let x = first_value k at hs pool (map pair_of all) p rest is lent in
      ap (λ (ps : List Pair). begins_bare (lent_attributes k at ps (values_at k ps hs pool))) is
      ∙ (ap (λ (o : Option (Attribute × ℕ)). begins_bare (lent_attributes k at (p ∷ rest) (put_in o (λ n. values_at k rest (drop n hs) pool)))) (first_found k p hs pool x)
      ∙ sym (ap is_some (bare_fits k p.form.value p.constant x.value x.fits)))
