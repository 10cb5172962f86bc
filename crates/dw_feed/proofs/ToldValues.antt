-- Values whose sizes their forms tell: where there are as many bytes, they are spelled there.
use Rattle.std.proofs.Common.{◌≡◌, ℕ, zero, suc, ◌+◌, ◌≤◌, List, [], ◌∷◌, ◌++◌, length, take, Option, Some, None, refl, sym, ap, ap₂, subst, ◌∙◌, arith, length-append}
use Rattle.std.specs.Prelude.{◌<◌, ◌&&◌, ◌==◌, is_some, IsSomeAnd, if◌then◌else◌, Bool, true, false}
use Rattle.std.proofs.lemmas.Bool.{eqb-true}
use Rattle.std.proofs.lemmas.List.{length-take-le}
use Rattle.std.proofs.Math.Seq.{take-append-add}
use Rattle.dw_leb.specs.Decide.{AreBytes, AreBytes-behind}
use Rattle.dw_leb.specs.Number.{Signed}
use Rattle.dw_leb.specs.Reader.{Broken}
use Rattle.dw_leb.specs.declared.errors.Reason.TheVariants.{Truncated}
use Rattle.dw_form.specs.declared.shape.Ctx.{Ctx}
use Rattle.dw_form.specs.declared.shape.Shape.{Shape}
use Rattle.dw_form.specs.declared.shape.Shape.TheVariants as shapes
use Rattle.dw_form.specs.declared.size.FormSize.{FormSize}
use Rattle.dw_form.specs.declared.size.FormSize.TheVariants.{Bytes}
use Rattle.dw_form.specs.Form.{Attribute, attribute, shape}
use Rattle.dw_form.specs.ReadForm.{read_attribute}
use Rattle.dw_form.specs.FormSize.{HasSize, told_form, size_in, told_shape}
use Rattle.dw_abbrev.specs.Table.{Pair}
use Rattle.dw_abbrev.specs.Prefix as prefix
use Rattle.dw_tree.specs.Steps.{ArePlain, SpellsFirst}
use Rattle.dw_feed.specs.FirstValues.{FirstsAreTold}
use Rattle.dw_feed.specs.PartialValues.{shape_of_indirect}
use Rattle.dw_feed.specs.PlainValues.{told, told_size, PlainAt, plain_there, cut_short}

-- ---- the size of one

by_shape : (c : Option Signed) (o : Option Shape) (n : ℕ) → HasSize o n → told c o ≡ Some n
by_shape c None n h = absurd h
by_shape None (Some (shapes.Fixed m)) n h = ap Some h
by_shape (Some x) (Some (shapes.Fixed m)) n h = ap Some h
by_shape None (Some shapes.Present) n h = ap Some h
by_shape (Some x) (Some shapes.Present) n h = ap Some h
by_shape c (Some shapes.Implicit) n h = absurd h
by_shape c (Some shapes.Uleb) n h = absurd h
by_shape c (Some shapes.Sleb) n h = absurd h
by_shape c (Some (shapes.Counted m)) n h = absurd h
by_shape c (Some shapes.CountedUleb) n h = absurd h
by_shape c (Some shapes.Text) n h = absurd h
by_shape c (Some shapes.Indirect) n h = absurd h

constant_size : (k : Ctx) (c : Option Signed) (form n : ℕ) → is_some c ≡ true → form ≡ 0x21 → n ≡ 0 → told c (shape form k.address_size k.format) ≡ Some n
unfolding shape
constant_size k None form n h is zero_is = absurd cc
constant_size k (Some x) form n h is zero_is = rw (is, zero_is) refl

told_is : (k : Ctx) (p : Pair) (s : FormSize) → prefix.told p ≡ Some s → told_size k p ≡ Some (size_in k s)
told_is k p s e = by (is_some p.constant) (p.form.value == 0x21) refl refl e
  where
    by : (b c : Bool) → is_some p.constant ≡ b → (p.form.value == 0x21) ≡ c → (if b && c then Some (Bytes 0) else told_form p.form.value) ≡ Some s → told_size k p ≡ Some (size_in k s)
    by true true constant is h = let same : Bytes 0 ≡ s = cc in constant_size k p.constant p.form.value (size_in k s) constant (eqb-true p.form.value 0x21 is) (ap (size_in k) (sym same))
    by true false constant is h = by_shape p.constant (shape p.form.value k.address_size k.format) (size_in k s) (told_shape k p.form.value s h)
    by false c constant is h = by_shape p.constant (shape p.form.value k.address_size k.format) (size_in k s) (told_shape k p.form.value s h)

-- by its shape
pub told_fixed : (k : Ctx) (p : Pair) (n : ℕ) → shape p.form.value k.address_size k.format ≡ Some (shapes.Fixed n) → told_size k p ≡ Some n
told_fixed k p n e = ap (told p.constant) e ∙ by p.constant
  where
    by : (c : Option Signed) → told c (Some (shapes.Fixed n)) ≡ Some n
    by None = refl
    by (Some x) = refl

pub told_present : (k : Ctx) (p : Pair) → shape p.form.value k.address_size k.format ≡ Some shapes.Present → told_size k p ≡ Some 0
told_present k p e = ap (told p.constant) e ∙ by p.constant
  where
    by : (c : Option Signed) → told c (Some shapes.Present) ≡ Some 0
    by None = refl
    by (Some x) = refl

pub told_indirect : (k : Ctx) (p : Pair) → p.form.value ≡ 0x16 → None ≡ told_size k p
told_indirect k p e = sym (ap (told p.constant) (ap (λ (n : ℕ). shape n k.address_size k.format) e ∙ shape_of_indirect k.address_size k.format) ∙ by p.constant)
  where
    by : (c : Option Signed) → told c (Some shapes.Indirect) ≡ None
    by None = refl
    by (Some x) = refl

pub told_constant : (k : Ctx) (p : Pair) (x : Signed) → shape p.form.value k.address_size k.format ≡ Some shapes.Implicit → p.constant ≡ Some x → told_size k p ≡ Some 0
told_constant k p x e is = ap (told p.constant) e ∙ ap (λ (c : Option Signed). told c (Some shapes.Implicit)) is

-- ---- several, one behind the other

spelled : (k : Ctx) (ps : List Pair) (n : ℕ) → prefix.AreTold k ps n → (bytes : List ℕ) → AreBytes bytes → n ≤ length bytes → SpellsFirst k ps (length ps) (take n bytes)
spelled k [] n are bytes fit there = ([], refl, ap (λ (m : ℕ). take m bytes) are)
spelled k (p ∷ ps) n (s, m, is, sum, more) bytes fit there =
    let size : ℕ = size_in k s in
    let own : PlainAt k p bytes size size = plain_there k p bytes size size fit (told_is k p s is) (omega (arith, sum, there)) (omega arith) in
    let x = own.taken in
    let front : List ℕ = (attribute k p.form.value p.constant).spell own.value in
    let others = spelled k ps m more x.rest (AreBytes-behind front x.rest (subst AreBytes x.split fit)) (omega (arith, sum, there, ap length x.split, length-append front x.rest, x.is_size)) in
    let all : n ≡ length front + m = omega (arith, sum, x.is_size) in
    let split : take n bytes ≡ front ++ take m x.rest = ap₂ take all x.split ∙ take-append-add front x.rest m in
    (own.value ∷ others.0, omega (arith, others.1), ((x.fits, own.plain), (take m x.rest, split, others.2)))

-- of the first pairs: of all
of_all : (k : Ctx) (n : ℕ) (ps : List Pair) (vs : List Attribute) (bytes : List ℕ) → ArePlain k (take n ps) vs bytes → ArePlain k ps vs bytes
of_all k n ps [] bytes h = h
of_all k zero ps (v ∷ vs) bytes h = absurd h
of_all k (suc n) [] (v ∷ vs) bytes h = absurd h
of_all k (suc n) (p ∷ ps) (v ∷ vs) bytes h = (h.0, (h.1.0, h.1.1, of_all k n ps vs h.1.0 h.1.2))

pub told_there : (k : Ctx) (ps : List Pair) (count size : ℕ) → FirstsAreTold k ps count size → (bytes : List ℕ) → AreBytes bytes → size ≤ length bytes → SpellsFirst k ps count (take size bytes)
told_there k ps count size are bytes fit there =
    let x = spelled k (take count ps) size are.1 bytes fit there in
    (x.0, omega (arith, x.1, length-take-le count ps are.0), of_all k count ps x.0 (take size bytes) x.2)

-- ---- with fewer bytes than its form tells a value is cut off

pub cut_told : (k : Ctx) (p : Pair) (bytes : List ℕ) (lim : ℕ) (o : Option ℕ) → o ≡ told_size k p → IsSomeAnd o (λ size. (length bytes < size) × (size ≤ lim)) → read_attribute k p.form.value p.constant bytes lim ≡ Broken 0 Truncated
cut_told k p bytes lim None is h = absurd h
cut_told k p bytes lim (Some size) is h = cut_short k p bytes lim size (sym is) h.0 h.1
