-- Forms and attribute values (sections 7.5.5 and 7.5.6).
use Rattle.std.specs.Prelude.{◌≡◌, ◌≤◌, ℕ, Bool, true, false, List, [], ◌∷◌, length, Option, Some, None, ◌==◌, if◌then◌else◌, ◌||◌}
use Rattle.dw_leb.specs.Constants.{DW_FORM_GNU_ref_alt, DW_FORM_GNU_strp_alt, DW_FORM_addr, DW_FORM_addrx}
use Rattle.dw_leb.specs.Constants.{DW_FORM_addrx1, DW_FORM_addrx2, DW_FORM_addrx3, DW_FORM_addrx4, DW_FORM_block}
use Rattle.dw_leb.specs.Constants.{DW_FORM_block1, DW_FORM_block2, DW_FORM_block4, DW_FORM_data1, DW_FORM_data16}
use Rattle.dw_leb.specs.Constants.{DW_FORM_data2, DW_FORM_data4, DW_FORM_data8, DW_FORM_exprloc, DW_FORM_flag}
use Rattle.dw_leb.specs.Constants.{DW_FORM_flag_present, DW_FORM_implicit_const, DW_FORM_indirect, DW_FORM_line_strp}
use Rattle.dw_leb.specs.Constants.{DW_FORM_loclistx, DW_FORM_ref1, DW_FORM_ref2, DW_FORM_ref4, DW_FORM_ref8}
use Rattle.dw_leb.specs.Constants.{DW_FORM_ref_addr, DW_FORM_ref_sig8, DW_FORM_ref_sup4, DW_FORM_ref_sup8}
use Rattle.dw_leb.specs.Constants.{DW_FORM_ref_udata, DW_FORM_rnglistx, DW_FORM_sdata, DW_FORM_sec_offset}
use Rattle.dw_leb.specs.Constants.{DW_FORM_string, DW_FORM_strp, DW_FORM_strp_sup, DW_FORM_strx, DW_FORM_strx1}
use Rattle.dw_leb.specs.Constants.{DW_FORM_strx2, DW_FORM_strx3, DW_FORM_strx4, DW_FORM_udata}
use Rattle.dw_leb.specs.declared.errors.Reason.{Reason}
use Rattle.dw_leb.specs.declared.errors.Reason.TheVariants.{UnknownForm, BadIndirect}
use Rattle.dw_leb.specs.Part.{Part, ◌then◌, judged, whole, seen, nothing, exactly, refused}
use Rattle.dw_leb.specs.declared.order.Format.{Format}
use Rattle.dw_leb.specs.Number.{offset_size, Unsigned, Signed, fixed, content, text, uleb, sleb}
use Rattle.dw_form.specs.declared.shape.Ctx.{Ctx}
use Rattle.dw_form.specs.declared.shape.Shape.{Shape}
use Rattle.dw_form.specs.declared.shape.Shape.TheVariants as shapes

-- the forms of the standard, and two of GNU for supplementary files
abbrev pub forms : ℕ → Format → List (ℕ × Shape)
forms address_size format = let off = offset_size format in
    (DW_FORM_addr, shapes.Fixed address_size)
    ∷ (DW_FORM_block2, shapes.Counted 2)
    ∷ (DW_FORM_block4, shapes.Counted 4)
    ∷ (DW_FORM_data2, shapes.Fixed 2)
    ∷ (DW_FORM_data4, shapes.Fixed 4)
    ∷ (DW_FORM_data8, shapes.Fixed 8)
    ∷ (DW_FORM_string, shapes.Text)
    ∷ (DW_FORM_block, shapes.CountedUleb)
    ∷ (DW_FORM_block1, shapes.Counted 1)
    ∷ (DW_FORM_data1, shapes.Fixed 1)
    ∷ (DW_FORM_flag, shapes.Fixed 1)
    ∷ (DW_FORM_sdata, shapes.Sleb)
    ∷ (DW_FORM_strp, shapes.Fixed off)
    ∷ (DW_FORM_udata, shapes.Uleb)
    ∷ (DW_FORM_ref_addr, shapes.Fixed off)
    ∷ (DW_FORM_ref1, shapes.Fixed 1)
    ∷ (DW_FORM_ref2, shapes.Fixed 2)
    ∷ (DW_FORM_ref4, shapes.Fixed 4)
    ∷ (DW_FORM_ref8, shapes.Fixed 8)
    ∷ (DW_FORM_ref_udata, shapes.Uleb)
    ∷ (DW_FORM_indirect, shapes.Indirect)
    ∷ (DW_FORM_sec_offset, shapes.Fixed off)
    ∷ (DW_FORM_exprloc, shapes.CountedUleb)
    ∷ (DW_FORM_flag_present, shapes.Present)
    ∷ (DW_FORM_strx, shapes.Uleb)
    ∷ (DW_FORM_addrx, shapes.Uleb)
    ∷ (DW_FORM_ref_sup4, shapes.Fixed 4)
    ∷ (DW_FORM_strp_sup, shapes.Fixed off)
    ∷ (DW_FORM_data16, shapes.Fixed 16)
    ∷ (DW_FORM_line_strp, shapes.Fixed off)
    ∷ (DW_FORM_ref_sig8, shapes.Fixed 8)
    ∷ (DW_FORM_implicit_const, shapes.Implicit)
    ∷ (DW_FORM_loclistx, shapes.Uleb)
    ∷ (DW_FORM_rnglistx, shapes.Uleb)
    ∷ (DW_FORM_ref_sup8, shapes.Fixed 8)
    ∷ (DW_FORM_strx1, shapes.Fixed 1)
    ∷ (DW_FORM_strx2, shapes.Fixed 2)
    ∷ (DW_FORM_strx3, shapes.Fixed 3)
    ∷ (DW_FORM_strx4, shapes.Fixed 4)
    ∷ (DW_FORM_addrx1, shapes.Fixed 1)
    ∷ (DW_FORM_addrx2, shapes.Fixed 2)
    ∷ (DW_FORM_addrx3, shapes.Fixed 3)
    ∷ (DW_FORM_addrx4, shapes.Fixed 4)
    ∷ (DW_FORM_GNU_ref_alt, shapes.Fixed off)
    ∷ (DW_FORM_GNU_strp_alt, shapes.Fixed off)
    ∷ []

abbrev pub at_number : {X : Type 0} → ℕ → List (ℕ × X) → Option X
at_number n [] = None
at_number n (row ∷ rows) = if row.0 == n then Some row.1 else at_number n rows

-- the shape of a form; no other number has one
unfoldable pub shape : ℕ → ℕ → Format → Option Shape
shape form address_size format = at_number form (forms address_size format)

-- a fixed number has 1 to 8 bytes, or 16
abbrev pub IsFixedSize : ℕ → Type 0
IsFixedSize n = (1 ≤ n) × (n ≤ 16) × (9 ≤ n → n ≡ 16)

-- the sizes that the form table gives
abbrev pub ShapeFits : Shape → Type 0
ShapeFits (shapes.Fixed n) = IsFixedSize n
ShapeFits (shapes.Counted n) = (1 ≤ n) × (n ≤ 4)
ShapeFits _ = Unit {0}

-- an address has 1 to 8 bytes
abbrev pub IsContext : Ctx → Type 0
IsContext k = (1 ≤ k.address_size) × (k.address_size ≤ 8)

-- a value as it is written; a block with the width of its length field
pub data Value : Type 0 where
  Num : ℕ → Value
  Wide : ℕ → Value
  Uleb : Unsigned → Value
  Sleb : Signed → Value
  Block : ℕ → List ℕ → Value
  Text : List ℕ → Value
  Present : Value
  Implicit : Signed → Value

-- an attribute's value; via is the form that an indirect one names
pub record Attribute : Type 0 where
  pub via : Option Unsigned
  pub value : Value

-- ---- each shape's values, seen as what is spelled

abbrev pub as_fixed : ℕ → Value → Option ℕ
as_fixed n (Num x) = if n == 16 then None else Some x
as_fixed n (Wide x) = if n == 16 then Some x else None
as_fixed n _ = None

abbrev pub as_unsigned : Value → Option Unsigned
as_unsigned (Uleb u) = Some u
as_unsigned _ = None

abbrev pub as_signed : Value → Option Signed
as_signed (Sleb s) = Some s
as_signed _ = None

abbrev pub as_counted : ℕ → Value → Option (ℕ × List ℕ)
as_counted n (Block width bytes) = if width == n then Some (length bytes, bytes) else None
as_counted n _ = None

abbrev pub as_counted_unsigned : Value → Option (Unsigned × List ℕ)
as_counted_unsigned (Block width bytes) = Some (record { value = length bytes; width = width }, bytes)
as_counted_unsigned _ = None

abbrev pub as_text : Value → Option (List ℕ)
as_text (Text bytes) = Some bytes
as_text _ = None

abbrev pub as_flag : Value → Option (Unit {0})
as_flag Present = Some tt
as_flag _ = None

-- the value of implicit_const is the constant that the declaration gives; inside indirect there is none
abbrev pub constant : Option Signed → Part Value
constant None = refused BadIndirect
constant (Some c) = exactly (Implicit c)

-- a value of a shape; c is the declaration's constant
unfoldable pub shaped : Ctx → Option Signed → Shape → Part Value
shaped k c (shapes.Fixed n) = seen (as_fixed n) (fixed k.order n)
shaped k c shapes.Uleb = seen as_unsigned uleb
shaped k c shapes.Sleb = seen as_signed sleb
shaped k c (shapes.Counted n) = seen (as_counted n) (fixed k.order n then content)
shaped k c shapes.CountedUleb = seen as_counted_unsigned (uleb then λ u. content u.value)
shaped k c shapes.Text = seen as_text text
shaped k c shapes.Present = seen as_flag nothing
shaped k c shapes.Implicit = constant c
shaped k c shapes.Indirect = refused BadIndirect

abbrev pub shaped_if : Ctx → Option Signed → Option Shape → Part Value
shaped_if k c None = refused UnknownForm
shaped_if k c (Some s) = shaped k c s

-- a value of a form: a form is judged before any byte of its value
abbrev pub formed : Ctx → Option Signed → ℕ → Part Value
formed k c form = shaped_if k c (shape form k.address_size k.format)

abbrev pub direct_if : Option Unsigned → Value → Option Value
direct_if None v = Some v
direct_if (Some u) v = None

abbrev pub indirect_if : Option Unsigned → Value → Option (Unsigned × Value)
indirect_if None v = None
indirect_if (Some u) v = Some (u, v)

abbrev pub as_direct : Attribute → Option Value
as_direct a = direct_if a.via a.value

abbrev pub as_indirect : Attribute → Option (Unsigned × Value)
as_indirect a = indirect_if a.via a.value

-- an indirect value names neither indirect nor implicit_const
abbrev pub bad_inner : Unsigned → Option Reason
bad_inner form =
    if form.value == DW_FORM_indirect || form.value == DW_FORM_implicit_const then Some BadIndirect else None

abbrev pub indirect : Ctx → Part (Unsigned × Value)
indirect k = judged uleb bad_inner then λ form. formed k None form.value

abbrev pub by_indirection : Ctx → Option Signed → ℕ → Bool → Part Attribute
by_indirection k c form true = seen as_indirect (indirect k)
by_indirection k c form false = seen as_direct (formed k c form)

-- an attribute's value, one field
unfoldable pub attribute : Ctx → ℕ → Option Signed → Part Attribute
attribute k form c = whole (by_indirection k c form (form == DW_FORM_indirect))
