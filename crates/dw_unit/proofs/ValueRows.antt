-- Worked rows: indirect values, and values that are refused, computed by the plain reader.
use Rattle.std.specs.Prelude.{◌≡◌, ◌∷◌, [], Some, None}
use Rattle.std.proofs.Common.{refl}
use Rattle.dw_leb.specs.declared.errors.Reason.TheVariants.{Truncated, PastUnit, LebTooBig, UnknownForm, BadIndirect}
use Rattle.dw_leb.specs.declared.order.Format.TheVariants.{Dwarf32}
use Rattle.dw_leb.specs.Reader.{Found, Broken}
use Rattle.dw_form.specs.Form.{shape, Num, Uleb, Block}
use Rattle.dw_form.specs.ReadForm.{read_attribute}
use Rattle.dw_unit.proofs.Samples.{by_way_of, little}

-- ---- indirect values

indirect_udata : read_attribute (little Dwarf32) 0x16 None (0x0f ∷ 0x85 ∷ 0x00 ∷ []) 99 ≡ Found (by_way_of 0x0f (Uleb (record { value = 5; width = 2 }))) 3
unfolding shape read_attribute
indirect_udata = refl

indirect_block1 : read_attribute (little Dwarf32) 0x16 None (0x0a ∷ 0x02 ∷ 0xaa ∷ 0xbb ∷ []) 99 ≡ Found (by_way_of 0x0a (Block 1 (0xaa ∷ 0xbb ∷ []))) 4
unfolding shape read_attribute
indirect_block1 = refl

padded_indirect_form : read_attribute (little Dwarf32) 0x16 None (0x8b ∷ 0x00 ∷ 0x04 ∷ []) 99 ≡ Found (record { via = Some (record { value = 0x0b; width = 2 }); value = Num 4 }) 3
unfolding shape read_attribute
padded_indirect_form = refl

indirect_inside_indirect : read_attribute (little Dwarf32) 0x16 None (0x16 ∷ 0x0b ∷ 0x04 ∷ []) 99 ≡ Broken 0 BadIndirect
unfolding shape read_attribute
indirect_inside_indirect = refl

padded_indirect_inside_indirect : read_attribute (little Dwarf32) 0x16 None (0x96 ∷ 0x00 ∷ []) 99 ≡ Broken 0 BadIndirect
unfolding shape read_attribute
padded_indirect_inside_indirect = refl

implicit_inside_indirect : read_attribute (little Dwarf32) 0x16 None (0x21 ∷ []) 99 ≡ Broken 0 BadIndirect
unfolding shape read_attribute
implicit_inside_indirect = refl

unknown_form_inside_indirect : read_attribute (little Dwarf32) 0x16 None (0x02 ∷ []) 99 ≡ Broken 0 UnknownForm
unfolding shape read_attribute
unknown_form_inside_indirect = refl

indirect_form_cut : read_attribute (little Dwarf32) 0x16 None (0x8b ∷ []) 99 ≡ Broken 0 Truncated
unfolding shape read_attribute
indirect_form_cut = refl

-- the fault of the inner value stands at the value, which is one field
indirect_past_the_unit : read_attribute (little Dwarf32) 0x16 None (0x06 ∷ 0x01 ∷ 0x02 ∷ []) 3 ≡ Broken 0 PastUnit
unfolding shape read_attribute
indirect_past_the_unit = refl

indirect_cut : read_attribute (little Dwarf32) 0x16 None (0x06 ∷ 0x01 ∷ 0x02 ∷ []) 99 ≡ Broken 0 Truncated
unfolding shape read_attribute
indirect_cut = refl

-- ---- what is refused

number_past_the_unit : read_attribute (little Dwarf32) 0x06 None (0x01 ∷ 0x02 ∷ []) 3 ≡ Broken 0 PastUnit
unfolding shape read_attribute
number_past_the_unit = refl

number_cut : read_attribute (little Dwarf32) 0x06 None (0x01 ∷ 0x02 ∷ []) 4 ≡ Broken 0 Truncated
unfolding shape read_attribute
number_cut = refl

announced_block_past_the_unit : read_attribute (little Dwarf32) 0x04 None (0xff ∷ 0xff ∷ 0xff ∷ 0xff ∷ 0x00 ∷ []) 5 ≡ Broken 0 PastUnit
unfolding shape read_attribute
announced_block_past_the_unit = refl

-- the unit is compared before the input
content_past_the_unit : read_attribute (little Dwarf32) 0x0a None (0x03 ∷ 0xaa ∷ []) 2 ≡ Broken 0 PastUnit
unfolding shape read_attribute
content_past_the_unit = refl

content_cut : read_attribute (little Dwarf32) 0x0a None (0x03 ∷ 0xaa ∷ []) 99 ≡ Broken 0 Truncated
unfolding shape read_attribute
content_cut = refl

length_of_a_block_too_big : read_attribute (little Dwarf32) 0x09 None (0xff ∷ 0xff ∷ 0xff ∷ 0xff ∷ 0xff ∷ 0xff ∷ 0xff ∷ 0xff ∷ 0xff ∷ 0x02 ∷ []) 99 ≡ Broken 0 LebTooBig
unfolding shape read_attribute
length_of_a_block_too_big = refl

string_past_the_unit : read_attribute (little Dwarf32) 0x08 None (0x61 ∷ 0x62 ∷ []) 2 ≡ Broken 0 PastUnit
unfolding shape read_attribute
string_past_the_unit = refl

string_cut : read_attribute (little Dwarf32) 0x08 None (0x61 ∷ 0x62 ∷ []) 99 ≡ Broken 0 Truncated
unfolding shape read_attribute
string_cut = refl

-- a form is judged before any byte of its value
form_without_a_shape : read_attribute (little Dwarf32) 0x02 None [] 0 ≡ Broken 0 UnknownForm
unfolding shape read_attribute
form_without_a_shape = refl

split_unit_form : read_attribute (little Dwarf32) 0x1f01 None (0x01 ∷ []) 99 ≡ Broken 0 UnknownForm
unfolding shape read_attribute
split_unit_form = refl
