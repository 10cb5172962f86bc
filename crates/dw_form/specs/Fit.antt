-- Which values have a spelling under a form, as a test.
use Rattle.std.proofs.Common.{◌≡◌, ◌<◌, ◌^◌, ℕ, Bool, true, false, List, [], ◌∷◌, length, Option, Some, None, refl, sym, ap, ap₂, ◌∙◌, arith}
use Rattle.std.specs.Prelude.{nat_le, nat_lt, ◌==◌, ◌&&◌, ◌||◌, not, if◌then◌else◌, is_some, IsTrue, ◌↔◌, IfSome, option_map}
use Rattle.std.specs.List.{AllByRecursion}
use Rattle.std.specs.Ordering.{int_eq}
use Rattle.std.proofs.lemmas.Bool.{leb-true, le-leb, ltb-true, lt-ltb, eqb-true, eqb-false, eq-eqb, ne_eqb, and_parts}
use Rattle.std.proofs.lemmas.Bool.Decides.{Decides-int_eq}
use Rattle.dw_leb.specs.Constants.{DW_FORM_implicit_const, DW_FORM_indirect}
use Rattle.dw_leb.specs.declared.errors.Reason.TheVariants.{BadIndirect}
use Rattle.dw_leb.specs.Part.{Part, FitsAs, ◌then◌}
use Rattle.dw_leb.specs.Number.{Unsigned, Signed, UlebFits, SlebFits, fixed, content}
use Rattle.dw_leb.specs.DecideNumber.{uleb_fits, sleb_fits, fits_uleb}
use Rattle.dw_leb.specs.ReadNumber.{before_zero}
use Rattle.dw_form.specs.declared.shape.Ctx.{Ctx}
use Rattle.dw_form.specs.declared.shape.Shape.{Shape}
use Rattle.dw_form.specs.declared.shape.Shape.TheVariants as shapes
use Rattle.dw_leb.specs.View.{uleb_of}
use Rattle.dw_leb.specs.declared.unsigned.Uleb as leb
use Rattle.dw_form.specs.declared.value.Value as declared
use Rattle.dw_form.specs.declared.value.Value.TheVariants as values
use Rattle.dw_form.specs.Lent.{value_of}
use Rattle.dw_form.specs.Form.{Value, Num, Wide, Uleb, Sleb, Block, Text, Present, Implicit, Attribute, shape, shaped, shaped_if, bad_inner, by_indirection, attribute}

-- no byte is 0
abbrev pub is_text : List ℕ → Bool
is_text bytes = not (is_some (before_zero bytes))

-- so many bytes of an unsigned LEB128 number hold the length
abbrev pub is_length : ℕ → ℕ → Bool
is_length width n = (nat_le 1 width && nat_le width 16) && (nat_lt n (128 ^ width) && nat_lt n (2 ^ 64))

-- the constant of the declaration, in its width
abbrev pub is_constant : Option Signed → Signed → Bool
is_constant None s = false
is_constant (Some c) s = int_eq c.value s.value && (c.width == s.width)

-- a value under a shape; its LEB128 numbers fit their widths
abbrev pub shape_fits : Option Signed → Shape → Value → Bool
shape_fits c (shapes.Fixed n) (Num x) = not (n == 16) && nat_lt x (256 ^ n)
shape_fits c (shapes.Fixed n) (Wide x) = n == 16 && nat_lt x (256 ^ n)
shape_fits c shapes.Uleb (Uleb u) = true
shape_fits c shapes.Sleb (Sleb s) = true
shape_fits c (shapes.Counted n) (Block width bytes) = width == n && nat_lt (length bytes) (256 ^ n)
shape_fits c shapes.CountedUleb (Block width bytes) = is_length width (length bytes)
shape_fits c shapes.Text (Text bytes) = is_text bytes
shape_fits c shapes.Present Present = true
shape_fits c shapes.Implicit (Implicit s) = is_constant c s
shape_fits c s v = false

abbrev pub fits_if : Option Signed → Option Shape → Value → Bool
fits_if c None v = false
fits_if c (Some s) v = shape_fits c s v

abbrev pub form_fits : Ctx → Option Signed → ℕ → Value → Bool
form_fits k c form v = fits_if c (shape form k.address_size k.format) v

-- the forms that an indirect value may name
abbrev pub is_inner : Unsigned → Bool
is_inner form = not (form.value == DW_FORM_indirect || form.value == DW_FORM_implicit_const)

abbrev pub fits_by : Ctx → Option Signed → ℕ → Bool → Option Unsigned → Value → Bool
fits_by k c form true None v = false
fits_by k c form true (Some u) v = is_inner u && form_fits k None u.value v
fits_by k c form false None v = form_fits k c form v
fits_by k c form false (Some u) v = false

abbrev pub value_fits : Ctx → ℕ → Option Signed → Attribute → Bool
value_fits k form c a = fits_by k c form (form == DW_FORM_indirect) a.via a.value

-- ---- the test is right of values whose LEB128 numbers fit their widths

abbrev pub NumbersFit : Value → Type 0
NumbersFit (Uleb u) = UlebFits u
NumbersFit (Sleb s) = SlebFits s
NumbersFit v = Unit {0}

one : {X : Type 0} (b : Bool) (P : Part X) (x : X) → b ≡ true → P.Fits x → FitsAs P (if b then Some x else None)
one true P x e h = h
one false P x e h = absurd cc

other : {X : Type 0} (b : Bool) (P : Part X) (x : X) → not b ≡ true → P.Fits x → FitsAs P (if b then None else Some x)
other true P x e h = absurd cc
other false P x e h = h

one_back : {X : Type 0} (b : Bool) (P : Part X) (x : X) → FitsAs P (if b then Some x else None) → (b ≡ true) × P.Fits x
one_back true P x h = (refl, h)
one_back false P x h = absurd h

other_back : {X : Type 0} (b : Bool) (P : Part X) (x : X) → FitsAs P (if b then None else Some x)
    → (not b ≡ true) × P.Fits x
other_back true P x h = absurd h
other_back false P x h = (refl, h)

text_fits : (bytes : List ℕ) → is_text bytes ≡ true → AllByRecursion (λ b. 0 < b) bytes
text_fits [] e = tt
text_fits (x ∷ xs) e = by (x == 0) refl (before_zero xs) (text_fits xs) e
  where
    by : (v : Bool) → (x == 0) ≡ v → (o : Option (List ℕ)) → (not (is_some o) ≡ true → AllByRecursion (λ b. 0 < b) xs)
        → not (is_some (if v then Some [] else elim o [ None ↦ None | Some front ↦ Some (x ∷ front) ])) ≡ true
        → (0 < x) × AllByRecursion (λ b. 0 < b) xs
    by true f o g h = absurd cc
    by false f None g h = (omega (arith, eqb-false x 0 f), g refl)
    by false f (Some front) g h = absurd cc

text_back : (bytes : List ℕ) → AllByRecursion (λ b. 0 < b) bytes → before_zero bytes ≡ None
text_back [] h = refl
text_back (x ∷ xs) h = rw (ne_eqb x 0 (λ e. omega (arith, h.0, e)), text_back xs h.1) refl

pub length_held : (width n : ℕ) → is_length width n ≡ true → UlebFits (record { value = n; width = width })
length_held width n e =
    let h = and_parts (nat_le 1 width && nat_le width 16) (nat_lt n (128 ^ width) && nat_lt n (2 ^ 64)) e in
    let w = and_parts (nat_le 1 width) (nat_le width 16) h.0 in
    let v = and_parts (nat_lt n (128 ^ width)) (nat_lt n (2 ^ 64)) h.1 in
    record {
      some = leb-true 1 width w.0;
      most = leb-true width 16 w.1;
      held = ltb-true n (128 ^ width) v.0;
      range = ltb-true n (2 ^ 64) v.1;
    }

pub length_is : (width n : ℕ) → UlebFits (record { value = n; width = width }) → is_length width n ≡ true
length_is width n h =
    rw (le-leb 1 width h.some, le-leb width 16 h.most, lt-ltb n (128 ^ width) h.held, lt-ltb n (2 ^ 64) h.range) refl

same_signed : (c s : Signed) → int_eq c.value s.value ≡ true → (c.width == s.width) ≡ true → s ≡ c
same_signed c s v w =
    ap₂ (λ (x : _) (n : ℕ). record { value = x; width = n }) (sym ((Decides-int_eq c.value s.value).0 v))
    (sym (eqb-true c.width s.width w))

to : (k : Ctx) (c : Option Signed) (s : Shape) (v : Value) → NumbersFit v → shape_fits c s v ≡ true
    → (shaped k c s).Fits v
unfolding shaped
to k c (shapes.Fixed n) (Num x) h e =
    let p = and_parts (not (n == 16)) (nat_lt x (256 ^ n)) e in
    other (n == 16) (fixed k.order n) x p.0 (ltb-true x (256 ^ n) p.1)
to k c (shapes.Fixed n) (Wide x) h e =
    let p = and_parts (n == 16) (nat_lt x (256 ^ n)) e in
    one (n == 16) (fixed k.order n) x p.0 (ltb-true x (256 ^ n) p.1)
to k c (shapes.Fixed n) _ h e = absurd cc
to k c shapes.Uleb (Uleb u) h e = uleb_fits u h
to k c shapes.Uleb _ h e = absurd cc
to k c shapes.Sleb (Sleb x) h e = sleb_fits x h
to k c shapes.Sleb _ h e = absurd cc
to k c (shapes.Counted n) (Block width bytes) h e =
    let p = and_parts (width == n) (nat_lt (length bytes) (256 ^ n)) e in
    one (width == n) (fixed k.order n then content) (length bytes, bytes) p.0
    (ltb-true (length bytes) (256 ^ n) p.1, refl)
to k c (shapes.Counted n) _ h e = absurd cc
to k c shapes.CountedUleb (Block width bytes) h e =
    (uleb_fits (record { value = length bytes; width = width }) (length_held width (length bytes) e), refl)
to k c shapes.CountedUleb _ h e = absurd cc
to k c shapes.Text (Text bytes) h e = text_fits bytes e
to k c shapes.Text _ h e = absurd cc
to k c shapes.Present Present h e = tt
to k c shapes.Present _ h e = absurd cc
to k None shapes.Implicit (Implicit y) h e = absurd cc
to k (Some x) shapes.Implicit (Implicit y) h e =
    let p = and_parts (int_eq x.value y.value) (x.width == y.width) e in ap Implicit (same_signed x y p.0 p.1)
to k c shapes.Implicit _ h e = absurd cc
to k c shapes.Indirect v h e = absurd cc

constant_same : (c : Signed) → is_constant (Some c) c ≡ true
constant_same c = rw ((Decides-int_eq c.value c.value).1 refl, eq-eqb c.width c.width refl) refl

back : (k : Ctx) (c : Option Signed) (s : Shape) (v : Value) → (shaped k c s).Fits v → shape_fits c s v ≡ true
unfolding shaped
back k c (shapes.Fixed n) (Num x) h =
    let p = other_back (n == 16) (fixed k.order n) x h in rw (p.0, lt-ltb x (256 ^ n) p.1) refl
back k c (shapes.Fixed n) (Wide x) h =
    let p = one_back (n == 16) (fixed k.order n) x h in rw (p.0, lt-ltb x (256 ^ n) p.1) refl
back k c (shapes.Fixed n) _ h = absurd h
back k c shapes.Uleb (Uleb u) h = refl
back k c shapes.Uleb _ h = absurd h
back k c shapes.Sleb (Sleb x) h = refl
back k c shapes.Sleb _ h = absurd h
back k c (shapes.Counted n) (Block width bytes) h =
    let p = one_back (width == n) (fixed k.order n then content) (length bytes, bytes) h in
    rw (p.0, lt-ltb (length bytes) (256 ^ n) p.1.0) refl
back k c (shapes.Counted n) _ h = absurd h
back k c shapes.CountedUleb (Block width bytes) h =
    length_is width (length bytes) (fits_uleb (record { value = length bytes; width = width }) h.0)
back k c shapes.CountedUleb _ h = absurd h
back k c shapes.Text (Text bytes) h = rw (text_back bytes h) refl
back k c shapes.Text _ h = absurd h
back k c shapes.Present Present h = refl
back k c shapes.Present _ h = absurd h
back k None shapes.Implicit v h = absurd h
back k (Some x) shapes.Implicit (Implicit y) h =
    let same : y ≡ x = cc in ap (λ (z : Signed). is_constant (Some x) z) same ∙ constant_same x
back k (Some x) shapes.Implicit _ h = absurd cc
back k c shapes.Indirect v h = absurd h

formed_to : (k : Ctx) (c : Option Signed) (o : Option Shape) (v : Value) → NumbersFit v → fits_if c o v ≡ true
    → (shaped_if k c o).Fits v
formed_to k c None v h e = absurd cc
formed_to k c (Some s) v h e = to k c s v h e

formed_back : (k : Ctx) (c : Option Signed) (o : Option Shape) (v : Value) → (shaped_if k c o).Fits v
    → fits_if c o v ≡ true
formed_back k c None v h = absurd h
formed_back k c (Some s) v h = back k c s v h

inner_good : (u : Unsigned) → is_inner u ≡ true → bad_inner u ≡ None
inner_good u e = by (u.value == DW_FORM_indirect || u.value == DW_FORM_implicit_const) e
  where
    by : (b : Bool) → not b ≡ true → (if b then Some BadIndirect else None) ≡ None
    by true h = absurd cc
    by false h = refl

inner_back : (u : Unsigned) → bad_inner u ≡ None → is_inner u ≡ true
inner_back u e = by (u.value == DW_FORM_indirect || u.value == DW_FORM_implicit_const) e
  where
    by : (b : Bool) → (if b then Some BadIndirect else None) ≡ None → not b ≡ true
    by true h = absurd cc
    by false h = refl

-- the value has a spelling where the test says so, and nowhere else
pub fits_is : (k : Ctx) (form : ℕ) (c : Option Signed) (a : Attribute) → IfSome a.via UlebFits → NumbersFit a.value
    → IsTrue (value_fits k form c a) ↔ (attribute k form c).Fits a
unfolding attribute
fits_is k form c a u h = by (form == DW_FORM_indirect) a.via u
  where
    by : (b : Bool) (via : Option Unsigned) → IfSome via UlebFits
        → IsTrue (fits_by k c form b via a.value) ↔ (by_indirection k c form b).Fits
        (record { via = via; value = a.value })
    by true None w = (λ e. absurd cc, λ f. absurd f)
    by true (Some x) w = (
      λ e. let p = and_parts (is_inner x) (form_fits k None x.value a.value) e in
          ((uleb_fits x w, inner_good x p.0), formed_to k None (shape x.value k.address_size k.format) a.value h p.1),
      λ f. rw (inner_back x f.0.1, formed_back k None (shape x.value k.address_size k.format) a.value f.1) refl,
    )
    by false None w = (
      λ e. formed_to k c (shape form k.address_size k.format) a.value h e,
      λ f. formed_back k c (shape form k.address_size k.format) a.value f,
    )
    by false (Some x) w = (λ e. absurd cc, λ f. absurd f)

-- the numbers of the program fit
pub numbers_fit : (v : declared.Value) → NumbersFit (value_of v)
numbers_fit (values.Num x) = tt
numbers_fit (values.Wide x) = tt
numbers_fit (values.Uleb u) = u.fits
numbers_fit (values.Sleb s) = s.fits
numbers_fit (values.Block width bytes) = tt
numbers_fit (values.Text bytes) = tt
numbers_fit values.Present = tt
numbers_fit (values.Implicit s) = tt

pub via_fits : (o : Option leb.Uleb) → IfSome (option_map uleb_of o) UlebFits
via_fits None = tt
via_fits (Some u) = u.fits
