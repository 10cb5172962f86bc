-- Values read by a plain, slow reader.
use Rattle.std.specs.Prelude.{ℕ, Bool, true, false, Option, Some, None, ◌==◌, if◌then◌else◌}
use Rattle.dw_leb.specs.declared.errors.Reason.TheVariants.{UnknownForm, BadIndirect}
use Rattle.dw_leb.specs.Number.{Unsigned, Signed}
use Rattle.dw_leb.specs.Reader.{Reader, made, checked, one_field, returned, failing, ◌and_then◌}
use Rattle.dw_leb.specs.ReadNumber.{bytes_of, read_fixed, read_text, read_uleb, read_sleb}
use Rattle.dw_form.specs.declared.shape.Ctx.{Ctx}
use Rattle.dw_form.specs.declared.shape.Shape.{Shape}
use Rattle.dw_form.specs.Form.{shape, Value, Num, Wide, Uleb, Sleb, Block, Text, Present, Implicit, Attribute, bad_inner}
use Rattle.dw_form.specs.declared.shape.Shape.TheVariants as shapes

-- the value of a fixed number of n bytes
abbrev pub fixed_from : ℕ → ℕ → Value
fixed_from n x = if n == 16 then Wide x else Num x

-- the declaration's constant, which takes no bytes
abbrev pub read_constant : Option Signed → Reader Value
read_constant None = failing BadIndirect
read_constant (Some c) = returned (Implicit c)

-- a value of a shape; c is the declaration's constant
abbrev pub read_shaped : Ctx → Option Signed → Shape → Reader Value
read_shaped k c (shapes.Fixed n) = made (fixed_from n) (read_fixed k.order n)
read_shaped k c shapes.Uleb = made (λ u. Uleb u) read_uleb
read_shaped k c shapes.Sleb = made (λ s. Sleb s) read_sleb
read_shaped k c (shapes.Counted n) = made (λ x. Block n x.1) (read_fixed k.order n and_then bytes_of)
read_shaped k c shapes.CountedUleb = made (λ x. Block x.0.width x.1) (read_uleb and_then λ u. bytes_of u.value)
read_shaped k c shapes.Text = made (λ bytes. Text bytes) read_text
read_shaped k c shapes.Present = returned Present
read_shaped k c shapes.Implicit = read_constant c
read_shaped k c shapes.Indirect = failing BadIndirect

abbrev pub read_shaped_if : Ctx → Option Signed → Option Shape → Reader Value
read_shaped_if k c None = failing UnknownForm
read_shaped_if k c (Some s) = read_shaped k c s

abbrev pub read_formed : Ctx → Option Signed → ℕ → Reader Value
read_formed k c form = read_shaped_if k c (shape form k.address_size k.format)

-- the number of a form, and a value of that form, which has no constant
abbrev pub read_indirect : Ctx → Reader (Unsigned × Value)
read_indirect k = checked read_uleb bad_inner and_then λ form. read_formed k None form.value

abbrev pub direct_from : Value → Attribute
direct_from v = record { via = None; value = v }

abbrev pub indirect_from : Unsigned × Value → Attribute
indirect_from x = record { via = Some x.0; value = x.1 }

abbrev pub read_by_indirection : Ctx → Option Signed → ℕ → Bool → Reader Attribute
read_by_indirection k c form true = made indirect_from (read_indirect k)
read_by_indirection k c form false = made direct_from (read_formed k c form)

-- an attribute's value is one field: whatever breaks in it is told at its first byte
unfoldable pub read_attribute : Ctx → ℕ → Option Signed → Reader Attribute
read_attribute k form c = one_field (read_by_indirection k c form (form == 0x16))
