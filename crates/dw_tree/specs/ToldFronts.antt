-- The first values of an entry whose forms tell their sizes: they are spelled as they are kept.
use Rattle.std.specs.Prelude.{◌≡◌, ◌≤◌, ◌&&◌, ◌==◌, if◌then◌else◌, ℕ, List, length, take, drop, Option, Some, None, is_some, Bool, true, false}
use Rattle.std.proofs.Common.{refl, sym, ap}
use Rattle.std.proofs.lemmas.Bool.{eqb-true}
use Rattle.dw_form.specs.declared.shape.Ctx.{Ctx}
use Rattle.dw_form.specs.declared.shape.Shape.{Shape}
use Rattle.dw_form.specs.declared.shape.Shape.TheVariants as shapes
use Rattle.dw_form.specs.declared.size.FormSize.{FormSize}
use Rattle.dw_form.specs.declared.size.FormSize.TheVariants.{Bytes}
use Rattle.dw_form.specs.Form.{shape}
use Rattle.dw_form.specs.FormSize.{HasSize, told_form, size_in, told_shape}
use Rattle.dw_abbrev.specs.Table.{Pair}
use Rattle.dw_abbrev.specs.Prefix.{told, AreTold}
use Rattle.dw_tree.specs.Runs.{size_of_shape}

-- the first values have so many bytes in all, and these are the pairs of the others
abbrev pub ToldFront : Ctx → List Pair → ℕ → List Pair → Type 0
ToldFront k ps size others =
    (count : ℕ) × (count ≤ length ps) × AreTold k (take count ps) size × (others ≡ drop count ps)

-- ---- the size of one

by_shape : (o : Option Shape) (n : ℕ) → HasSize o n → size_of_shape o ≡ Some n
by_shape None n h = absurd h
by_shape (Some (shapes.Fixed m)) n h = ap Some h
by_shape (Some shapes.Present) n h = ap Some h
by_shape (Some shapes.Implicit) n h = absurd h
by_shape (Some shapes.Uleb) n h = absurd h
by_shape (Some shapes.Sleb) n h = absurd h
by_shape (Some (shapes.Counted m)) n h = absurd h
by_shape (Some shapes.CountedUleb) n h = absurd h
by_shape (Some shapes.Text) n h = absurd h
by_shape (Some shapes.Indirect) n h = absurd h

constant_size : (k : Ctx) (form n : ℕ) → form ≡ 0x21 → n ≡ 0
    → size_of_shape (shape form k.address_size k.format) ≡ Some n
unfolding shape
constant_size k form n is zero_is = rw (is, zero_is) refl

pub told_is : (k : Ctx) (p : Pair) (s : FormSize) → told p ≡ Some s
    → size_of_shape (shape p.form.value k.address_size k.format) ≡ Some (size_in k s)
told_is k p s e = by (is_some p.constant) (p.form.value == 0x21) refl e
  where
    by : (b c : Bool) → (p.form.value == 0x21) ≡ c
        → (if b && c then Some (Bytes 0) else told_form p.form.value) ≡ Some s
        → size_of_shape (shape p.form.value k.address_size k.format) ≡ Some (size_in k s)
    by true true is h =
        let same : Bytes 0 ≡ s = cc in
        constant_size k p.form.value (size_in k s) (eqb-true p.form.value 0x21 is) (ap (size_in k) (sym same))
    by true false is h =
        by_shape (shape p.form.value k.address_size k.format) (size_in k s) (told_shape k p.form.value s h)
    by false c is h =
        by_shape (shape p.form.value k.address_size k.format) (size_in k s) (told_shape k p.form.value s h)
