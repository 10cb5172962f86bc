-- Where a head gives a number of at most eight bytes, and where it doesn't.
use Rattle.std.proofs.Common.{◌≡◌, ◌≢◌, ◌==◌, ℕ, Bool, true, false, List, ap, length, refl, ◌∙◌, sym}
use Rattle.std.specs.Prelude.{Option, Some, None, drop, option_map}
use Rattle.dw_leb.specs.declared.order.Order.TheVariants.{Little}
use Rattle.dw_leb.specs.declared.errors.Reason.{Reason}
use Rattle.dw_leb.specs.Number.{Unsigned, Signed}
use Rattle.dw_leb.specs.Reader.{Outcome, Found, Broken, mapped}
use Rattle.dw_leb.specs.ReadNumber.{read_fixed, read_uleb, read_sleb}
use Rattle.dw_form.specs.declared.shape.Ctx.{Ctx}
use Rattle.dw_form.specs.declared.shape.Shape.{Shape}
use Rattle.dw_form.specs.declared.shape.Shape.TheVariants as shapes
use Rattle.dw_form.specs.Form.{Value, Uleb, Sleb, shape}
use Rattle.dw_form.specs.ReadForm.{fixed_from}
use Rattle.dw_form.specs.Head.{head_at, number_by_head, both_found, via_at, uleb_at, and_so, behind_via, by_via, by_shape, by_content, has_content, placed_at, with_count, with_part, count_at, fixed_at, part_at}
use Rattle.dw_form.proofs.PlainHead.{not_indirect}

-- the number that a value of its own form is
abbrev number_of : Option (Value × ℕ) → Option (ℕ × ℕ)
number_of o = number_by_head (behind_via None o)

-- a shape under which no value is such a number
abbrev pub HasNoNumber : Shape → Type 0
HasNoNumber (shapes.Fixed n) = n ≡ 16
HasNoNumber _ = Unit {0}

abbrev pub HaveNoNumber : Option Shape → Type 0
HaveNoNumber None = Unit {0}
HaveNoNumber (Some s) = HasNoNumber s

-- no block or text is a number
part_no : (s : Shape) (w : ℕ) (o : Option (List ℕ)) → number_of (with_part s w o) ≡ None
part_no s w None = refl
part_no shapes.Text w (Some bytes) = refl
part_no (shapes.Fixed n) w (Some bytes) = refl
part_no shapes.Uleb w (Some bytes) = refl
part_no shapes.Sleb w (Some bytes) = refl
part_no (shapes.Counted n) w (Some bytes) = refl
part_no shapes.CountedUleb w (Some bytes) = refl
part_no shapes.Present w (Some bytes) = refl
part_no shapes.Implicit w (Some bytes) = refl
part_no shapes.Indirect w (Some bytes) = refl

placed_no : (k : Ctx) (s : Shape) (b pool : List ℕ) → number_of (placed_at k s b pool) ≡ None
placed_no k s b pool = by (count_at k s b)
  where
    at : (u : Unsigned) (o : Option ℕ) → number_of (and_so o (λ start. with_part s u.width (part_at pool start u.value))) ≡ None
    at u None = refl
    at u (Some start) = part_no s u.width (part_at pool start u.value)

    by : (o : Option Unsigned) → number_of (and_so o (with_count s b pool)) ≡ None
    by None = refl
    by (Some u) = at u (fixed_at Little 8 (drop u.width b))

module _ (k : Ctx) (c : Option Signed) (b pool : List ℕ) where
  wide_no : (n : ℕ) → n ≡ 16 → (o : Outcome ℕ) → number_of (both_found (mapped (fixed_from n) o)) ≡ None
  wide_no n e (Found x size) = rw e refl
  wide_no n e (Broken offset reason) = refl

  uleb_no : (o : Outcome Unsigned) → number_of (both_found (mapped (λ u. Uleb u) o)) ≡ None
  uleb_no (Found x size) = refl
  uleb_no (Broken offset reason) = refl

  sleb_no : (o : Outcome Signed) → number_of (both_found (mapped (λ s. Sleb s) o)) ≡ None
  sleb_no (Found x size) = refl
  sleb_no (Broken offset reason) = refl

  constant_no : (d : Option Signed) → number_of (by_content k d b pool shapes.Implicit false) ≡ None
  constant_no None = refl
  constant_no (Some x) = refl

  shape_no : (s : Shape) → HasNoNumber s → number_of (by_content k c b pool s (has_content s)) ≡ None
  shape_no (shapes.Fixed n) e = wide_no n e (read_fixed k.order n b (length b))
  shape_no shapes.Uleb e = uleb_no (read_uleb b (length b))
  shape_no shapes.Sleb e = sleb_no (read_sleb b (length b))
  shape_no (shapes.Counted n) e = placed_no k (shapes.Counted n) b pool
  shape_no shapes.CountedUleb e = placed_no k shapes.CountedUleb b pool
  shape_no shapes.Text e = placed_no k shapes.Text b pool
  shape_no shapes.Present e = refl
  shape_no shapes.Implicit e = constant_no c
  shape_no shapes.Indirect e = refl

  shapes_no : (o : Option Shape) → HaveNoNumber o → number_of (by_shape k c b pool o) ≡ None
  shapes_no None e = refl
  shapes_no (Some s) e = shape_no s e

-- a value that names a form is none
via_no : (u : Unsigned) (o : Option (Value × ℕ)) → number_by_head (behind_via (Some u) o) ≡ None
via_no u None = refl
via_no u (Some x) = refl

-- no number stands under a form of such a shape, or of none
pub no_number : (k : Ctx) (form : ℕ) (c : Option Signed) (b pool : List ℕ) (o : Option Shape) → shape form k.address_size k.format ≡ o → HaveNoNumber o → None ≡ number_by_head (head_at k form c b pool)
unfolding head_at
no_number k form c b pool o is none = sym (by (form == 0x16))
  where
    named : (o : Option Unsigned) → number_by_head (and_so (option_map (λ u. Some u) o) (by_via k form c b pool)) ≡ None
    named None = refl
    named (Some u) = via_no u (by_shape k None (drop u.width b) pool (shape u.value k.address_size k.format))

    by : (d : Bool) → number_by_head (and_so (via_at d b) (by_via k form c b pool)) ≡ None
    by true = named (uleb_at b)
    by false = ap (λ (o : Option Shape). number_of (by_shape k c b pool o)) is ∙ shapes_no k c b pool o none

-- as any but that of a fixed number
pub not_fixed : (s : Shape) → ((n : ℕ) → s ≢ shapes.Fixed n) → HasNoNumber s
not_fixed (shapes.Fixed n) other = absurd (other n refl)
not_fixed shapes.Uleb other = tt
not_fixed shapes.Sleb other = tt
not_fixed (shapes.Counted n) other = tt
not_fixed shapes.CountedUleb other = tt
not_fixed shapes.Text other = tt
not_fixed shapes.Present other = tt
not_fixed shapes.Implicit other = tt
not_fixed shapes.Indirect other = tt

-- nor where the bytes of a fixed number are broken
pub broken_no : (k : Ctx) (form : ℕ) (c : Option Signed) (b pool : List ℕ) (n offset : ℕ) (reason : Reason) → shape form k.address_size k.format ≡ Some (shapes.Fixed n)
    → read_fixed k.order n b (length b) ≡ Broken offset reason → None ≡ number_by_head (head_at k form c b pool)
unfolding head_at
broken_no k form c b pool n offset reason h broken = rw (not_indirect form k.address_size k.format (shapes.Fixed n) h (λ e. cc), h, broken) refl
