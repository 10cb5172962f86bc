-- Which values have no bytes: the form of their declaration tells.
use Rattle.std.proofs.Common.{◌≡◌, ◌==◌, ℕ, Bool, true, false, Option, Some, None, ap, refl}
use Rattle.std.proofs.lemmas.Bool.{eqb-true}
use Rattle.dw_leb.specs.Number.{Unsigned, Signed}
use Rattle.dw_form.specs.declared.shape.Ctx.{Ctx}
use Rattle.dw_form.specs.declared.shape.Shape.{Shape}
use Rattle.dw_form.specs.declared.shape.Shape.TheVariants as shapes
use Rattle.dw_form.specs.Form.{Value, Num, Wide, Uleb, Sleb, Block, Text, Present, Implicit, Attribute, attribute, by_indirection, shape, shaped, shaped_if}
use Rattle.dw_form.specs.Head.{bare_value, bare_if, own_bare}

module _ (k : Ctx) where
  of_shape : (c : Option Signed) (s : Shape) (v : Value) → (shaped k c s).Fits v
      → bare_value (Some s) c ≡ bare_if None v
  unfolding shaped
  of_shape c (shapes.Fixed n) (Num x) fits = refl
  of_shape c (shapes.Fixed n) (Wide x) fits = refl
  of_shape c (shapes.Fixed n) _ fits = absurd fits
  of_shape c shapes.Uleb (Uleb u) fits = refl
  of_shape c shapes.Uleb _ fits = absurd fits
  of_shape c shapes.Sleb (Sleb x) fits = refl
  of_shape c shapes.Sleb _ fits = absurd fits
  of_shape c (shapes.Counted n) (Block width bytes) fits = refl
  of_shape c (shapes.Counted n) _ fits = absurd fits
  of_shape c shapes.CountedUleb (Block width bytes) fits = refl
  of_shape c shapes.CountedUleb _ fits = absurd fits
  of_shape c shapes.Text (Text bytes) fits = refl
  of_shape c shapes.Text _ fits = absurd fits
  of_shape c shapes.Present Present fits = refl
  of_shape c shapes.Present _ fits = absurd fits
  of_shape None shapes.Implicit v fits = absurd fits
  of_shape (Some x) shapes.Implicit (Implicit y) fits = cc
  of_shape (Some x) shapes.Implicit _ fits = absurd cc
  of_shape c shapes.Indirect v fits = absurd fits

  formed_bare : (c : Option Signed) (o : Option Shape) (v : Value) → (shaped_if k c o).Fits v
      → bare_value o c ≡ bare_if None v
  formed_bare c None v fits = absurd fits
  formed_bare c (Some s) v fits = of_shape c s v fits

  -- the form indirect has a shape of its own
  indirect_bare : (form : ℕ) (c : Option Signed) → form ≡ 0x16
      → bare_value (shape form k.address_size k.format) c ≡ None
  unfolding shape
  indirect_bare form c e = ap (λ (f : ℕ). bare_value (shape f k.address_size k.format) c) e

  -- a value that fits has no bytes exactly where the shape of its form says so
  pub bare_fits : (form : ℕ) (c : Option Signed) (a : Attribute) → (attribute k form c).Fits a
      → bare_value (shape form k.address_size k.format) c ≡ own_bare a
  unfolding attribute
  bare_fits form c a fits = by (form == 0x16) refl a.via fits
    where
      by : (b : Bool) → (form == 0x16) ≡ b → (via : Option Unsigned)
          → (by_indirection k c form b).Fits (record { via = via; value = a.value })
          → bare_value (shape form k.address_size k.format) c ≡ bare_if via a.value
      by true e None fits = absurd fits
      by true e (Some u) fits = indirect_bare form c (eqb-true form 0x16 e)
      by false e None fits = formed_bare c (shape form k.address_size k.format) a.value fits
      by false e (Some u) fits = absurd fits
