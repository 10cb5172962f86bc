-- The moments of attribute values.
use Rattle.std.proofs.Common.{◌≡◌, ◌≢◌, ℕ, ◌+◌, ◌-◌, ◌^◌, ◌<◌, ◌≤◌, Bool, true, false, List, ◌++◌, length, Option, Some, None, ap, ◌∙◌, refl, arith}
use Rattle.std.specs.Prelude.{◌==◌, ◌||◌}
use Rattle.std.proofs.lemmas.Bool.{ne_eqb}
use Rattle.dw_leb.specs.declared.errors.Reason.TheVariants.{UnknownForm, BadIndirect}
use Rattle.dw_leb.specs.Part.{judged}
use Rattle.dw_leb.specs.Number.{Unsigned, Signed, uleb, fixed, fixed_bytes}
use Rattle.dw_leb.specs.Reader.{◌and_then◌, checked}
use Rattle.dw_leb.specs.ReadNumber.{bytes_of, read_fixed, read_text, read_uleb, read_sleb}
use Rattle.dw_leb.specs.Decide.{judged_decides}
use Rattle.dw_leb.specs.DecideNumber.{uleb_decides, length-uleb}
use Rattle.dw_leb.specs.Digits.{fixed_decides, length-fixed}
use Rattle.dw_form.specs.declared.shape.Ctx.{Ctx}
use Rattle.dw_form.specs.declared.shape.Shape.{Shape}
use Rattle.dw_form.specs.declared.shape.Shape.TheVariants as shapes
use Rattle.dw_form.specs.Form.{shape, Uleb, Sleb, Block, Text, Present, Implicit, bad_inner}
use Rattle.dw_form.specs.ReadForm.{fixed_from, read_constant, read_shaped, read_shaped_if, read_formed, read_indirect, direct_from, indirect_from, read_by_indirection, read_attribute}
use Rattle.dw_leb.specs.Moments.{Moment, HasMoment, Judges, refuses_where, at_no_byte, moment_then, returned_moment, failing_moment, made_moment, checked_moment, one_field_moment, then_moment}
use Rattle.dw_leb.specs.NumberMoments.{count_moment, leb_moment, text_moment, count_has, fixed_has, uleb_has, sleb_has, text_has, count_wants, count_faults, behind_spelled}

abbrev pub shaped_moment : Ctx → Shape → Moment
shaped_moment k (shapes.Fixed n) = count_moment n
shaped_moment k shapes.Uleb = leb_moment
shaped_moment k shapes.Sleb = leb_moment
shaped_moment k (shapes.Counted n) = moment_then (read_fixed k.order n) (count_moment n) count_moment
shaped_moment k shapes.CountedUleb = moment_then read_uleb leb_moment (λ u. count_moment u.value)
shaped_moment k shapes.Text = text_moment
shaped_moment k shapes.Present = at_no_byte
shaped_moment k shapes.Implicit = at_no_byte
shaped_moment k shapes.Indirect = at_no_byte

abbrev pub shaped_moment_if : Ctx → Option Shape → Moment
shaped_moment_if k None = at_no_byte
shaped_moment_if k (Some s) = shaped_moment k s

abbrev pub formed_moment : Ctx → ℕ → Moment
formed_moment k form = shaped_moment_if k (shape form k.address_size k.format)

abbrev pub moment_by_indirection : Ctx → ℕ → Bool → Moment
moment_by_indirection k form true = moment_then (checked read_uleb bad_inner) leb_moment (λ u. formed_moment k u.value)
moment_by_indirection k form false = formed_moment k form

-- an attribute's value: its form's moment, or that of the form that it names
abbrev pub attribute_moment : Ctx → ℕ → Moment
attribute_moment k form = moment_by_indirection k form (form == 0x16)

constant_has : (c : Option Signed) → HasMoment (read_constant c) at_no_byte
constant_has None = failing_moment BadIndirect (λ e. cc)
constant_has (Some c) = returned_moment (Implicit c)

pub shaped_has : (k : Ctx) (c : Option Signed) (s : Shape) → HasMoment (read_shaped k c s) (shaped_moment k s)
shaped_has k c (shapes.Fixed n) =
    made_moment (fixed_from n) (read_fixed k.order n) (count_moment n) (fixed_has k.order n)
shaped_has k c shapes.Uleb = made_moment (λ u. Uleb u) read_uleb leb_moment uleb_has
shaped_has k c shapes.Sleb = made_moment (λ s. Sleb s) read_sleb leb_moment sleb_has
shaped_has k c (shapes.Counted n) =
    made_moment (λ x. Block n x.1) (read_fixed k.order n and_then bytes_of)
    (moment_then (read_fixed k.order n) (count_moment n) count_moment)
    (then_moment (read_fixed k.order n) bytes_of (count_moment n) count_moment (fixed_has k.order n) count_has)
shaped_has k c shapes.CountedUleb =
    made_moment (λ x. Block x.0.width x.1) (read_uleb and_then λ u. bytes_of u.value)
    (moment_then read_uleb leb_moment (λ u. count_moment u.value))
    (then_moment read_uleb (λ u. bytes_of u.value) leb_moment (λ u. count_moment u.value) uleb_has
    (λ u. count_has u.value))
shaped_has k c shapes.Text = made_moment (λ bytes. Text bytes) read_text text_moment text_has
shaped_has k c shapes.Present = returned_moment Present
shaped_has k c shapes.Implicit = constant_has c
shaped_has k c shapes.Indirect = failing_moment BadIndirect (λ e. cc)

shaped_if_has : (k : Ctx) (c : Option Signed) (s : Option Shape)
    → HasMoment (read_shaped_if k c s) (shaped_moment_if k s)
shaped_if_has k c None = failing_moment UnknownForm (λ e. cc)
shaped_if_has k c (Some s) = shaped_has k c s

inner_judges : Judges bad_inner
inner_judges u = refuses_where (u.value == 0x16 || u.value == 0x21) BadIndirect (λ e. cc)

by_indirection_has : (k : Ctx) (c : Option Signed) (form : ℕ) (b : Bool)
    → HasMoment (read_by_indirection k c form b) (moment_by_indirection k form b)
by_indirection_has k c form true =
    made_moment indirect_from (read_indirect k) _
    (then_moment (checked read_uleb bad_inner) (λ u. read_formed k None u.value) leb_moment
    (λ u. formed_moment k u.value) (checked_moment read_uleb bad_inner inner_judges leb_moment uleb_has)
    (λ u. shaped_if_has k None (shape u.value k.address_size k.format)))
by_indirection_has k c form false =
    made_moment direct_from (read_formed k c form) _ (shaped_if_has k c (shape form k.address_size k.format))

pub attribute_has : (k : Ctx) (form : ℕ) (c : Option Signed)
    → HasMoment (read_attribute k form c) (attribute_moment k form)
unfolding read_attribute
attribute_has k form c =
    one_field_moment (read_by_indirection k c form (form == 0x16)) (attribute_moment k form)
    (by_indirection_has k c form (form == 0x16))

-- ---- values that aren't complete

-- blocks: with the length field complete, all of the content within lim is wanted; past the unit's end nothing more
pub block_wants : (k : Ctx) (n count : ℕ) (content : List ℕ) (lim : ℕ) → count < 256 ^ n → n + count ≤ lim
    → shaped_moment k (shapes.Counted n) (fixed_bytes k.order n count ++ content) lim ≡ n + count
block_wants k n count content lim fits within =
    let len : length (fixed_bytes k.order n count) ≡ n = length-fixed k.order n count in
    behind_spelled (fixed k.order n) (read_fixed k.order n) (fixed_decides k.order n) (count_moment n) count_moment
    count content lim fits (omega (arith, len, within))
    ∙ ap (λ (c : ℕ). length (fixed_bytes k.order n count) + c)
    (count_wants count content (lim - length (fixed_bytes k.order n count)) (omega (arith, len, within)))
    ∙ omega (arith, len)

pub block_faults : (k : Ctx) (n count : ℕ) (content : List ℕ) (lim : ℕ) → count < 256 ^ n → n ≤ lim → lim < n + count
    → shaped_moment k (shapes.Counted n) (fixed_bytes k.order n count ++ content) lim ≡ n
block_faults k n count content lim fits within past =
    let len : length (fixed_bytes k.order n count) ≡ n = length-fixed k.order n count in
    behind_spelled (fixed k.order n) (read_fixed k.order n) (fixed_decides k.order n) (count_moment n) count_moment
    count content lim fits (omega (arith, len, within))
    ∙ ap (λ (c : ℕ). length (fixed_bytes k.order n count) + c)
    (count_faults count content (lim - length (fixed_bytes k.order n count)) (omega (arith, len, within, past)))
    ∙ omega (arith, len)

pub uleb_block_wants : (k : Ctx) (u : Unsigned) (content : List ℕ) (lim : ℕ) → uleb.Fits u → u.width + u.value ≤ lim
    → shaped_moment k shapes.CountedUleb (uleb.spell u ++ content) lim ≡ u.width + u.value
uleb_block_wants k u content lim fits within =
    let len : length (uleb.spell u) ≡ u.width = length-uleb u in
    behind_spelled uleb read_uleb uleb_decides leb_moment (λ v. count_moment v.value) u content lim fits
    (omega (arith, len, within))
    ∙ ap (λ (c : ℕ). length (uleb.spell u) + c)
    (count_wants u.value content (lim - length (uleb.spell u)) (omega (arith, len, within)))
    ∙ omega (arith, len)

pub uleb_block_faults : (k : Ctx) (u : Unsigned) (content : List ℕ) (lim : ℕ) → uleb.Fits u → u.width ≤ lim
    → lim < u.width + u.value → shaped_moment k shapes.CountedUleb (uleb.spell u ++ content) lim ≡ u.width
uleb_block_faults k u content lim fits within past =
    let len : length (uleb.spell u) ≡ u.width = length-uleb u in
    behind_spelled uleb read_uleb uleb_decides leb_moment (λ v. count_moment v.value) u content lim fits
    (omega (arith, len, within))
    ∙ ap (λ (c : ℕ). length (uleb.spell u) + c)
    (count_faults u.value content (lim - length (uleb.spell u)) (omega (arith, len, within, past)))
    ∙ omega (arith, len)

-- ---- indirect values: behind the form that is named, what that form wants

pub named_wants : (k : Ctx) (form : ℕ) (u : Unsigned) (rest : List ℕ) (lim : ℕ) → form ≡ 0x16
    → (judged uleb bad_inner).Fits u → u.width ≤ lim
    → attribute_moment k form (uleb.spell u ++ rest) lim ≡ u.width + formed_moment k u.value rest (lim - u.width)
named_wants k form u rest lim e fits within =
    let len : length (uleb.spell u) ≡ u.width = length-uleb u in
    ap (λ (f : ℕ). attribute_moment k f (uleb.spell u ++ rest) lim) e
    ∙ behind_spelled (judged uleb bad_inner) (checked read_uleb bad_inner)
    (judged_decides uleb read_uleb bad_inner uleb_decides) leb_moment (λ v. formed_moment k v.value) u rest lim fits
    (omega (arith, len, within))
    ∙ ap (λ (w : ℕ). w + formed_moment k u.value rest (lim - w)) len

-- a value that isn't indirect
pub plain_wants : (k : Ctx) (form : ℕ) (bytes : List ℕ) (lim : ℕ) → form ≢ 0x16
    → attribute_moment k form bytes lim ≡ formed_moment k form bytes lim
plain_wants k form bytes lim ne = rw (ne_eqb form 0x16 ne) refl
