-- Values whose size their form tells.
use Rattle.std.specs.Prelude.{◌≡◌, ℕ, Bool, true, false, length, Option, Some, None, ◌==◌, if◌then◌else◌}
use Rattle.std.proofs.Common.{refl, sym, subst, ◌∙◌}
use Rattle.std.proofs.lemmas.Bool.{eqb-true}
use Rattle.dw_leb.specs.Part.{Part, FitsAs, spelled_as}
use Rattle.dw_leb.specs.Number.{Unsigned, Signed, fixed}
use Rattle.dw_leb.specs.Digits.{length-fixed}
use Rattle.dw_form.specs.declared.shape.Ctx.{Ctx}
use Rattle.dw_form.specs.declared.shape.Shape.{Shape}
use Rattle.dw_form.specs.declared.shape.Shape.TheVariants as shapes
use Rattle.dw_form.specs.Form.{Value, Num, Wide, Present, Implicit, Attribute, shape, shaped, shaped_if, attribute, by_indirection}
use Rattle.dw_form.specs.HeadSize.{is_plain}

-- ---- values whose size their form tells

abbrev pub size_of_shape : Option Shape → Option ℕ
size_of_shape (Some (shapes.Fixed n)) = Some n
size_of_shape (Some shapes.Present) = Some 0
size_of_shape (Some shapes.Implicit) = Some 0
size_of_shape _ = None

abbrev pub form_size : Ctx → ℕ → Option ℕ
form_size k form = size_of_shape (shape form k.address_size k.format)

unless_long : {A : Type 0} (b : Bool) (P : Part A) (x : A) (n : ℕ) → FitsAs P (if b then None else Some x)
    → length (P.spell x) ≡ n → length (spelled_as P (if b then None else Some x)) ≡ n
unless_long true P x n fits e = absurd fits
unless_long false P x n fits e = e

if_long : {A : Type 0} (b : Bool) (P : Part A) (x : A) (n : ℕ) → FitsAs P (if b then Some x else None)
    → length (P.spell x) ≡ n → length (spelled_as P (if b then Some x else None)) ≡ n
if_long true P x n fits e = e
if_long false P x n fits e = absurd fits

by_shape : (k : Ctx) (c : Option Signed) (o : Option Shape) (v : Value) (n : ℕ) → size_of_shape o ≡ Some n
    → (shaped_if k c o).Fits v → (is_plain v ≡ true) × (length ((shaped_if k c o).spell v) ≡ n)
unfolding shaped
by_shape k c (Some (shapes.Fixed m)) (Num x) n e fits =
    let same : m ≡ n = cc in (refl, unless_long (m == 16) (fixed k.order m) x n fits (length-fixed k.order m x ∙ same))
by_shape k c (Some (shapes.Fixed m)) (Wide x) n e fits =
    let same : m ≡ n = cc in (refl, if_long (m == 16) (fixed k.order m) x n fits (length-fixed k.order m x ∙ same))
by_shape k c (Some (shapes.Fixed m)) _ n e fits = absurd fits
by_shape k c (Some shapes.Present) Present n e fits = (refl, cc)
by_shape k c (Some shapes.Present) _ n e fits = absurd fits
by_shape k None (Some shapes.Implicit) v n e fits = absurd fits
by_shape k (Some x) (Some shapes.Implicit) (Implicit y) n e fits = (refl, cc)
by_shape k (Some x) (Some shapes.Implicit) _ n e fits = absurd cc
by_shape k c None v n e fits = absurd cc
by_shape k c (Some shapes.Uleb) v n e fits = absurd cc
by_shape k c (Some shapes.Sleb) v n e fits = absurd cc
by_shape k c (Some (shapes.Counted m)) v n e fits = absurd cc
by_shape k c (Some shapes.CountedUleb) v n e fits = absurd cc
by_shape k c (Some shapes.Text) v n e fits = absurd cc
by_shape k c (Some shapes.Indirect) v n e fits = absurd cc

-- form indirect tells no size
indirect_shape : (k : Ctx) → form_size k 0x16 ≡ None
unfolding shape
indirect_shape k = refl

pub form_size_there : (k : Ctx) (form : ℕ) (c : Option Signed) (a : Attribute) (n : ℕ) → form_size k form ≡ Some n
    → (attribute k form c).Fits a → (is_plain a.value ≡ true) × (length ((attribute k form c).spell a) ≡ n)
unfolding attribute
form_size_there k form c a n e fits = by (form == 0x16) refl a.via fits
  where
    by : (b : Bool) → (form == 0x16) ≡ b → (via : Option Unsigned)
        → (by_indirection k c form b).Fits (record { via = via; value = a.value })
        → (is_plain a.value ≡ true)
        × (length ((by_indirection k c form b).spell (record { via = via; value = a.value })) ≡ n)
    by true is via f =
        let none : form_size k form ≡ None =
        subst (λ (m : ℕ). form_size k m ≡ None) (sym (eqb-true form 0x16 is)) (indirect_shape k) in
        absurd cc
    by false is None f = by_shape k c (shape form k.address_size k.format) a.value n e f
    by false is (Some u) f = absurd f
