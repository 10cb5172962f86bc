-- Values that are no texts or blocks (section 7.5.6): those whose size their form tells are there where there are as
-- many bytes, numbers in LEB128 where they end.
use Rattle.std.proofs.Common.{◌≡◌, ◌≢◌, ℕ, ◌<◌, ◌≤◌, Bool, true, false, List, length, take, Option, Some, None, refl, ap, subst, ◌∙◌, arith}
use Rattle.std.specs.Prelude.{◌==◌, if◌then◌else◌}
use Rattle.std.proofs.lemmas.Bool.{eqb-true, le-ltb, lt-ltb}
use Rattle.dw_leb.specs.declared.errors.Reason.TheVariants.{Truncated}
use Rattle.dw_leb.specs.Part.{Taken}
use Rattle.dw_leb.specs.Number.{Unsigned, Signed}
use Rattle.dw_leb.specs.Decide.{AreBytes, Says}
use Rattle.dw_leb.specs.Reader.{Outcome, Found, Broken, mapped, at_front}
use Rattle.dw_leb.specs.ReadNumber.{bytes_of, undigits, ordered, read_uleb, read_sleb}
use Rattle.dw_form.specs.declared.shape.Ctx.{Ctx}
use Rattle.dw_form.specs.declared.shape.Shape.{Shape}
use Rattle.dw_form.specs.declared.shape.Shape.TheVariants as shapes
use Rattle.dw_form.specs.Form.{Value, Num, Wide, Uleb, Sleb, Present, Implicit, Attribute, attribute, shape}
use Rattle.dw_form.specs.HeadSize.{is_plain}
use Rattle.dw_form.specs.ReadForm.{fixed_from, read_shaped_if, read_by_indirection, direct_from, read_attribute}
use Rattle.dw_form.specs.DecideForm.{attribute_decides}
use Rattle.dw_abbrev.specs.Table.{Pair}

-- the size of a value of this shape, under a declaration with this constant
abbrev pub told : Option Signed → Option Shape → Option ℕ
told c (Some (shapes.Fixed n)) = Some n
told c (Some shapes.Present) = Some 0
told (Some c) (Some shapes.Implicit) = Some 0
told c _ = None

abbrev pub told_size : Ctx → Pair → Option ℕ
told_size k p = told p.constant (shape p.form.value k.address_size k.format)

-- a value at the front that has so many bytes, and is no text or block
pub record PlainAt (k : Ctx) (p : Pair) (bytes : List ℕ) (lim size : ℕ) : Type 0 where
  pub value : Attribute
  pub taken : Taken (attribute k p.form.value p.constant) bytes lim value size
  pub read : read_attribute k p.form.value p.constant bytes lim ≡ Found value size
  pub plain : is_plain value.value ≡ true

-- ---- it is there

zero_is : (n : ℕ) → Some 0 ≡ Some n → 0 ≡ n
zero_is n e = cc

fixed_plain : (n x : ℕ) → is_plain (fixed_from n x) ≡ true
fixed_plain n x = by (n == 16)
  where
    by : (b : Bool) → is_plain (if b then Wide x else Num x) ≡ true
    by true = refl
    by false = refl

enough : (n : ℕ) (bytes : List ℕ) (lim : ℕ) → n ≤ length bytes → n ≤ lim → bytes_of n bytes lim ≡ Found (take n bytes) n
enough n bytes lim h within = rw (le-ltb lim n within) (rw (le-ltb (length bytes) n h) refl)

abbrev FoundPlain : Outcome Value → ℕ → Type 0
FoundPlain out size = (v : Value) × (out ≡ Found v size) × (is_plain v ≡ true)

by_told : (k : Ctx) (c : Option Signed) (o : Option Shape) (bytes : List ℕ) (lim n : ℕ) → told c o ≡ Some n
    → n ≤ length bytes → n ≤ lim → FoundPlain (read_shaped_if k c o bytes lim) n
by_told k c (Some (shapes.Fixed m)) bytes lim n e h within =
    let same : m ≡ n = cc in
    let x = undigits 256 (ordered k.order (take n bytes)) in (
      fixed_from m x,
      ap (λ (i : ℕ). mapped (fixed_from m) (mapped (λ b. undigits 256 (ordered k.order b)) (bytes_of i bytes lim))) same
          ∙ ap (λ (r : Outcome (List ℕ)). mapped (fixed_from m) (mapped (λ b. undigits 256 (ordered k.order b)) r))
          (enough n bytes lim h within),
      fixed_plain m x,
    )
by_told k c (Some shapes.Present) bytes lim n e h within =
    (Present, ap (λ (i : ℕ). Found Present i) (zero_is n e), refl)
by_told k None (Some shapes.Implicit) bytes lim n e h within = absurd cc
by_told k (Some x) (Some shapes.Implicit) bytes lim n e h within =
    (Implicit x, ap (λ (i : ℕ). Found (Implicit x) i) (zero_is n e), refl)
by_told k None None bytes lim n e h within = absurd cc
by_told k (Some x) None bytes lim n e h within = absurd cc
by_told k None (Some shapes.Uleb) bytes lim n e h within = absurd cc
by_told k (Some x) (Some shapes.Uleb) bytes lim n e h within = absurd cc
by_told k None (Some shapes.Sleb) bytes lim n e h within = absurd cc
by_told k (Some x) (Some shapes.Sleb) bytes lim n e h within = absurd cc
by_told k None (Some (shapes.Counted m)) bytes lim n e h within = absurd cc
by_told k (Some x) (Some (shapes.Counted m)) bytes lim n e h within = absurd cc
by_told k None (Some shapes.CountedUleb) bytes lim n e h within = absurd cc
by_told k (Some x) (Some shapes.CountedUleb) bytes lim n e h within = absurd cc
by_told k None (Some shapes.Text) bytes lim n e h within = absurd cc
by_told k (Some x) (Some shapes.Text) bytes lim n e h within = absurd cc
by_told k None (Some shapes.Indirect) bytes lim n e h within = absurd cc
by_told k (Some x) (Some shapes.Indirect) bytes lim n e h within = absurd cc

-- form indirect tells no size
indirect_told : (k : Ctx) (c : Option Signed) (n : ℕ) → told c (shape 0x16 k.address_size k.format) ≡ Some n → ⊥
unfolding shape
indirect_told k None n e = absurd cc
indirect_told k (Some x) n e = absurd cc

abbrev FoundPlainly : Outcome Attribute → ℕ → Type 0
FoundPlainly out size = (v : Attribute) × (out ≡ Found v size) × (is_plain v.value ≡ true)

read_plain : (k : Ctx) (p : Pair) (bytes : List ℕ) (lim n : ℕ) → told_size k p ≡ Some n → n ≤ length bytes → n ≤ lim
    → FoundPlainly (read_attribute k p.form.value p.constant bytes lim) n
unfolding read_attribute
read_plain k p bytes lim n e h within = by (p.form.value == 0x16) refl
  where
    by : (b : Bool) → (p.form.value == 0x16) ≡ b
        → FoundPlainly (at_front (read_by_indirection k p.constant p.form.value b bytes lim)) n
    by true is =
        absurd
        (indirect_told k p.constant n
        (subst (λ (m : ℕ). told p.constant (shape m k.address_size k.format) ≡ Some n)
        (eqb-true p.form.value 0x16 is) e))
    by false is =
        let own = by_told k p.constant (shape p.form.value k.address_size k.format) bytes lim n e h within in
        (direct_from own.0, ap (λ (r : Outcome Value). at_front (mapped direct_from r)) own.1, own.2)

plain_by : (k : Ctx) (p : Pair) (bytes : List ℕ) (lim n : ℕ) → AreBytes bytes
    → FoundPlainly (read_attribute k p.form.value p.constant bytes lim) n → PlainAt k p bytes lim n
plain_by k p bytes lim n fit own = record {
  value = own.0;
  taken =
      subst (λ (out : Outcome Attribute). Says (attribute k p.form.value p.constant) bytes lim out) own.1
      ((attribute_decides k p.form.value p.constant).says bytes lim fit);
  read = own.1;
  plain = own.2;
}

pub plain_there : (k : Ctx) (p : Pair) (bytes : List ℕ) (lim n : ℕ) → AreBytes bytes → told_size k p ≡ Some n
    → n ≤ length bytes → n ≤ lim → PlainAt k p bytes lim n
plain_there k p bytes lim n fit e h within = plain_by k p bytes lim n fit (read_plain k p bytes lim n e h within)

-- ---- a number whose last byte is there

-- form indirect has no shape of a number
no_indirect : (k : Ctx) (s : Shape) → shape 0x16 k.address_size k.format ≡ Some s → s ≡ shapes.Indirect
unfolding shape
no_indirect k s e = cc

read_as : (k : Ctx) (p : Pair) (s : Shape) (bytes : List ℕ) (lim n : ℕ) (v : Value)
    → shape p.form.value k.address_size k.format ≡ Some s → s ≢ shapes.Indirect
    → read_shaped_if k p.constant (Some s) bytes lim ≡ Found v n → is_plain v ≡ true
    → FoundPlainly (read_attribute k p.form.value p.constant bytes lim) n
unfolding read_attribute
read_as k p s bytes lim n v is direct e plain = by (p.form.value == 0x16) refl
  where
    by : (b : Bool) → (p.form.value == 0x16) ≡ b
        → FoundPlainly (at_front (read_by_indirection k p.constant p.form.value b bytes lim)) n
    by true same =
        absurd
        (direct
        (no_indirect k s
        (subst (λ (m : ℕ). shape m k.address_size k.format ≡ Some s) (eqb-true p.form.value 0x16 same) is)))
    by false same = (
      direct_from v,
      ap (λ (o : Option Shape). at_front (mapped direct_from (read_shaped_if k p.constant o bytes lim))) is
          ∙ ap (λ (r : Outcome Value). at_front (mapped direct_from r)) e,
      plain,
    )

pub unsigned_there : (k : Ctx) (p : Pair) (bytes : List ℕ) (lim n : ℕ) (u : Unsigned) → AreBytes bytes
    → shape p.form.value k.address_size k.format ≡ Some shapes.Uleb → read_uleb bytes lim ≡ Found u n
    → PlainAt k p bytes lim n
unsigned_there k p bytes lim n u fit is e =
    plain_by k p bytes lim n fit
    (read_as k p shapes.Uleb bytes lim n (Uleb u) is (λ q. absurd cc) (ap (mapped (λ x. Uleb x)) e) refl)

pub signed_there : (k : Ctx) (p : Pair) (bytes : List ℕ) (lim n : ℕ) (s : Signed) → AreBytes bytes
    → shape p.form.value k.address_size k.format ≡ Some shapes.Sleb → read_sleb bytes lim ≡ Found s n
    → PlainAt k p bytes lim n
signed_there k p bytes lim n s fit is e =
    plain_by k p bytes lim n fit
    (read_as k p shapes.Sleb bytes lim n (Sleb s) is (λ q. absurd cc) (ap (mapped (λ x. Sleb x)) e) refl)

-- ---- a value whose form tells its size, where there are fewer bytes

fewer : (n : ℕ) (bytes : List ℕ) (lim : ℕ) → length bytes < n → n ≤ lim → bytes_of n bytes lim ≡ Broken 0 Truncated
fewer n bytes lim h within = rw (le-ltb lim n within) (rw (lt-ltb (length bytes) n h) refl)

short_by : (k : Ctx) (c : Option Signed) (o : Option Shape) (bytes : List ℕ) (lim n : ℕ) → told c o ≡ Some n
    → length bytes < n → n ≤ lim → read_shaped_if k c o bytes lim ≡ Broken 0 Truncated
short_by k c (Some (shapes.Fixed m)) bytes lim n e h within =
    let same : m ≡ n = cc in
    ap (λ (i : ℕ). mapped (fixed_from m) (mapped (λ b. undigits 256 (ordered k.order b)) (bytes_of i bytes lim))) same
    ∙ ap (λ (r : Outcome (List ℕ)). mapped (fixed_from m) (mapped (λ b. undigits 256 (ordered k.order b)) r))
    (fewer n bytes lim h within)
short_by k c (Some shapes.Present) bytes lim n e h within = absurd (omega (arith, h, zero_is n e))
short_by k None (Some shapes.Implicit) bytes lim n e h within = absurd cc
short_by k (Some x) (Some shapes.Implicit) bytes lim n e h within = absurd (omega (arith, h, zero_is n e))
short_by k None None bytes lim n e h within = absurd cc
short_by k (Some x) None bytes lim n e h within = absurd cc
short_by k None (Some shapes.Uleb) bytes lim n e h within = absurd cc
short_by k (Some x) (Some shapes.Uleb) bytes lim n e h within = absurd cc
short_by k None (Some shapes.Sleb) bytes lim n e h within = absurd cc
short_by k (Some x) (Some shapes.Sleb) bytes lim n e h within = absurd cc
short_by k None (Some (shapes.Counted m)) bytes lim n e h within = absurd cc
short_by k (Some x) (Some (shapes.Counted m)) bytes lim n e h within = absurd cc
short_by k None (Some shapes.CountedUleb) bytes lim n e h within = absurd cc
short_by k (Some x) (Some shapes.CountedUleb) bytes lim n e h within = absurd cc
short_by k None (Some shapes.Text) bytes lim n e h within = absurd cc
short_by k (Some x) (Some shapes.Text) bytes lim n e h within = absurd cc
short_by k None (Some shapes.Indirect) bytes lim n e h within = absurd cc
short_by k (Some x) (Some shapes.Indirect) bytes lim n e h within = absurd cc

-- it is cut off
pub cut_short : (k : Ctx) (p : Pair) (bytes : List ℕ) (lim n : ℕ) → told_size k p ≡ Some n → length bytes < n → n ≤ lim
    → read_attribute k p.form.value p.constant bytes lim ≡ Broken 0 Truncated
unfolding read_attribute
cut_short k p bytes lim n e h within = by (p.form.value == 0x16) refl
  where
    by : (b : Bool) → (p.form.value == 0x16) ≡ b
        → at_front (read_by_indirection k p.constant p.form.value b bytes lim) ≡ Broken 0 Truncated
    by true is =
        absurd
        (indirect_told k p.constant n
        (subst (λ (m : ℕ). told p.constant (shape m k.address_size k.format) ≡ Some n)
        (eqb-true p.form.value 0x16 is) e))
    by false is =
        ap (λ (r : Outcome Value). at_front (mapped direct_from r))
        (short_by k p.constant (shape p.form.value k.address_size k.format) bytes lim n e h within)
