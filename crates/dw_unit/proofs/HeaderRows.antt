-- Worked rows: unit headers, and the order of a unit's faults, computed by the plain reader.
use Rattle.std.specs.Prelude.{◌≡◌, ◌∷◌, []}
use Rattle.std.proofs.Common.{refl}
use Rattle.dw_leb.specs.declared.errors.Reason.TheVariants.{Truncated, PastUnit, ReservedLength, LengthTooBig, BadVersion, BadUnitType, BadAddressSize, AbbrevOffset}
use Rattle.dw_leb.specs.declared.order.Order.TheVariants.{Little, Big}
use Rattle.dw_leb.specs.declared.order.Format.TheVariants.{Dwarf32, Dwarf64}
use Rattle.dw_leb.specs.declared.errors.SectionId.TheVariants.{Info, Abbrev}
use Rattle.dw_form.specs.Form.{shape}
use Rattle.dw_form.specs.ReadForm.{read_attribute}
use Rattle.dw_abbrev.specs.ReadTable.{read_table, read_table_at}
use Rattle.dw_header.specs.declared.kind.Kind.TheVariants.{Compile, Partial, TypeUnit, Skeleton, Four}
use Rattle.dw_header.specs.declared.versions.Versions.TheVariants.{Five, FourAndFive}
use Rattle.dw_tree.specs.Tree.{nesting}
use Rattle.dw_tree.specs.ReadTree.{read_children, read_tree}
use Rattle.dw_header.specs.ReadHeader.{read_fields}
use Rattle.dw_unit.specs.ReadUnit.{read_unit, read_unit_under, Unit, Fault}
use Rattle.dw_unit.proofs.Samples.{first_table, first, named, headed, unit_of}

-- ---- the four kinds, in both formats

partial_unit : read_unit Little first_table (0x0b ∷ 0x00 ∷ 0x00 ∷ 0x00 ∷ 0x05 ∷ 0x00 ∷ 0x03 ∷ 0x08 ∷ 0x00 ∷ 0x00 ∷ 0x00 ∷ 0x00 ∷ 0x01 ∷ 0x61 ∷ 0x00 ∷ []) ≡ Unit (unit_of first (headed Little Dwarf32 Partial) named) 15
unfolding shape read_attribute read_table read_table_at read_fields read_children read_tree read_unit_under nesting
partial_unit = refl

skeleton_unit : read_unit Little first_table (0x13 ∷ 0x00 ∷ 0x00 ∷ 0x00 ∷ 0x05 ∷ 0x00 ∷ 0x04 ∷ 0x08 ∷ 0x00 ∷ 0x00 ∷ 0x00 ∷ 0x00 ∷ 0x08 ∷ 0x07 ∷ 0x06 ∷ 0x05 ∷ 0x04 ∷ 0x03 ∷ 0x02 ∷ 0x01 ∷ 0x01 ∷ 0x61 ∷ 0x00 ∷ []) ≡ Unit (unit_of first (headed Little Dwarf32 (Skeleton 0x0102030405060708)) named) 23
unfolding shape read_attribute read_table read_table_at read_fields read_children read_tree read_unit_under nesting
skeleton_unit = refl

type_unit : read_unit Little first_table (0x17 ∷ 0x00 ∷ 0x00 ∷ 0x00 ∷ 0x05 ∷ 0x00 ∷ 0x02 ∷ 0x08 ∷ 0x00 ∷ 0x00 ∷ 0x00 ∷ 0x00 ∷ 0x88 ∷ 0x77 ∷ 0x66 ∷ 0x55 ∷ 0x44 ∷ 0x33 ∷ 0x22 ∷ 0x11 ∷ 0x18 ∷ 0x00 ∷ 0x00 ∷ 0x00 ∷ 0x01 ∷ 0x61 ∷ 0x00 ∷ []) ≡ Unit (unit_of first (headed Little Dwarf32 (TypeUnit 0x1122334455667788 24)) named) 27
unfolding shape read_attribute read_table read_table_at read_fields read_children read_tree read_unit_under nesting
type_unit = refl

sixty_four_bit_unit : read_unit Little first_table (0xff ∷ 0xff ∷ 0xff ∷ 0xff ∷ 0x0f ∷ 0x00 ∷ 0x00 ∷ 0x00 ∷ 0x00 ∷ 0x00 ∷ 0x00 ∷ 0x00 ∷ 0x05 ∷ 0x00 ∷ 0x01 ∷ 0x08 ∷ 0x00 ∷ 0x00 ∷ 0x00 ∷ 0x00 ∷ 0x00 ∷ 0x00 ∷ 0x00 ∷ 0x00 ∷ 0x01 ∷ 0x61 ∷ 0x00 ∷ []) ≡ Unit (unit_of first (headed Little Dwarf64 Compile) named) 27
unfolding shape read_attribute read_table read_table_at read_fields read_children read_tree read_unit_under nesting
sixty_four_bit_unit = refl

sixty_four_bit_partial_unit : read_unit Little first_table (0xff ∷ 0xff ∷ 0xff ∷ 0xff ∷ 0x0f ∷ 0x00 ∷ 0x00 ∷ 0x00 ∷ 0x00 ∷ 0x00 ∷ 0x00 ∷ 0x00 ∷ 0x05 ∷ 0x00 ∷ 0x03 ∷ 0x08 ∷ 0x00 ∷ 0x00 ∷ 0x00 ∷ 0x00 ∷ 0x00 ∷ 0x00 ∷ 0x00 ∷ 0x00 ∷ 0x01 ∷ 0x61 ∷ 0x00 ∷ []) ≡ Unit (unit_of first (headed Little Dwarf64 Partial) named) 27
unfolding shape read_attribute read_table read_table_at read_fields read_children read_tree read_unit_under nesting
sixty_four_bit_partial_unit = refl

sixty_four_bit_skeleton_unit : read_unit Little first_table (0xff ∷ 0xff ∷ 0xff ∷ 0xff ∷ 0x17 ∷ 0x00 ∷ 0x00 ∷ 0x00 ∷ 0x00 ∷ 0x00 ∷ 0x00 ∷ 0x00 ∷ 0x05 ∷ 0x00 ∷ 0x04 ∷ 0x08 ∷ 0x00 ∷ 0x00 ∷ 0x00 ∷ 0x00 ∷ 0x00 ∷ 0x00 ∷ 0x00 ∷ 0x00 ∷ 0x08 ∷ 0x07 ∷ 0x06 ∷ 0x05 ∷ 0x04 ∷ 0x03 ∷ 0x02 ∷ 0x01 ∷ 0x01 ∷ 0x61 ∷ 0x00 ∷ []) ≡ Unit (unit_of first (headed Little Dwarf64 (Skeleton 0x0102030405060708)) named) 35
unfolding shape read_attribute read_table read_table_at read_fields read_children read_tree read_unit_under nesting
sixty_four_bit_skeleton_unit = refl

sixty_four_bit_type_unit : read_unit Little first_table (0xff ∷ 0xff ∷ 0xff ∷ 0xff ∷ 0x1f ∷ 0x00 ∷ 0x00 ∷ 0x00 ∷ 0x00 ∷ 0x00 ∷ 0x00 ∷ 0x00 ∷ 0x05 ∷ 0x00 ∷ 0x02 ∷ 0x08 ∷ 0x00 ∷ 0x00 ∷ 0x00 ∷ 0x00 ∷ 0x00 ∷ 0x00 ∷ 0x00 ∷ 0x00 ∷ 0x88 ∷ 0x77 ∷ 0x66 ∷ 0x55 ∷ 0x44 ∷ 0x33 ∷ 0x22 ∷ 0x11 ∷ 0x28 ∷ 0x00 ∷ 0x00 ∷ 0x00 ∷ 0x00 ∷ 0x00 ∷ 0x00 ∷ 0x00 ∷ 0x01 ∷ 0x61 ∷ 0x00 ∷ []) ≡ Unit (unit_of first (headed Little Dwarf64 (TypeUnit 0x1122334455667788 40)) named) 43
unfolding shape read_attribute read_table read_table_at read_fields read_children read_tree read_unit_under nesting
sixty_four_bit_type_unit = refl

-- ---- big-endian

big_endian : read_unit Big first_table (0x00 ∷ 0x00 ∷ 0x00 ∷ 0x0b ∷ 0x00 ∷ 0x05 ∷ 0x01 ∷ 0x08 ∷ 0x00 ∷ 0x00 ∷ 0x00 ∷ 0x00 ∷ 0x01 ∷ 0x61 ∷ 0x00 ∷ []) ≡ Unit (unit_of first (headed Big Dwarf32 Compile) named) 15
unfolding shape read_attribute read_table read_table_at read_fields read_children read_tree read_unit_under nesting
big_endian = refl

big_endian_skeleton_unit : read_unit Big first_table (0x00 ∷ 0x00 ∷ 0x00 ∷ 0x13 ∷ 0x00 ∷ 0x05 ∷ 0x04 ∷ 0x08 ∷ 0x00 ∷ 0x00 ∷ 0x00 ∷ 0x00 ∷ 0x01 ∷ 0x02 ∷ 0x03 ∷ 0x04 ∷ 0x05 ∷ 0x06 ∷ 0x07 ∷ 0x08 ∷ 0x01 ∷ 0x61 ∷ 0x00 ∷ []) ≡ Unit (unit_of first (headed Big Dwarf32 (Skeleton 0x0102030405060708)) named) 23
unfolding shape read_attribute read_table read_table_at read_fields read_children read_tree read_unit_under nesting
big_endian_skeleton_unit = refl

big_endian_sixty_four_bit_type_unit : read_unit Big first_table (0xff ∷ 0xff ∷ 0xff ∷ 0xff ∷ 0x00 ∷ 0x00 ∷ 0x00 ∷ 0x00 ∷ 0x00 ∷ 0x00 ∷ 0x00 ∷ 0x1f ∷ 0x00 ∷ 0x05 ∷ 0x02 ∷ 0x08 ∷ 0x00 ∷ 0x00 ∷ 0x00 ∷ 0x00 ∷ 0x00 ∷ 0x00 ∷ 0x00 ∷ 0x00 ∷ 0x11 ∷ 0x22 ∷ 0x33 ∷ 0x44 ∷ 0x55 ∷ 0x66 ∷ 0x77 ∷ 0x88 ∷ 0x00 ∷ 0x00 ∷ 0x00 ∷ 0x00 ∷ 0x00 ∷ 0x00 ∷ 0x00 ∷ 0x28 ∷ 0x01 ∷ 0x61 ∷ 0x00 ∷ []) ≡ Unit (unit_of first (headed Big Dwarf64 (TypeUnit 0x1122334455667788 40)) named) 43
unfolding shape read_attribute read_table read_table_at read_fields read_children read_tree read_unit_under nesting
big_endian_sixty_four_bit_type_unit = refl

-- ---- lengths

reserved_length : read_unit Little first_table (0xf0 ∷ 0xff ∷ 0xff ∷ 0xff ∷ []) ≡ Fault Info 0 ReservedLength
unfolding shape read_attribute read_table read_table_at read_fields read_children read_tree read_unit_under nesting
reserved_length = refl

length_too_big : read_unit Little first_table (0xff ∷ 0xff ∷ 0xff ∷ 0xff ∷ 0xff ∷ 0xff ∷ 0xff ∷ 0xff ∷ 0xff ∷ 0xff ∷ 0xff ∷ 0xff ∷ []) ≡ Fault Info 0 LengthTooBig
unfolding shape read_attribute read_table read_table_at read_fields read_children read_tree read_unit_under nesting
length_too_big = refl

zero_length : read_unit Little first_table (0x00 ∷ 0x00 ∷ 0x00 ∷ 0x00 ∷ []) ≡ Fault Info 4 PastUnit
unfolding shape read_attribute read_table read_table_at read_fields read_children read_tree read_unit_under nesting
zero_length = refl

no_bytes : read_unit Little first_table [] ≡ Fault Info 0 Truncated
unfolding shape read_attribute read_table read_table_at read_fields read_children read_tree read_unit_under nesting
no_bytes = refl

-- ---- fields

version_four : read_unit Little first_table (0x0a ∷ 0x00 ∷ 0x00 ∷ 0x00 ∷ 0x04 ∷ 0x00 ∷ 0x00 ∷ 0x00 ∷ 0x00 ∷ 0x00 ∷ 0x08 ∷ 0x01 ∷ 0x61 ∷ 0x00 ∷ []) ≡ Fault Info 4 BadVersion
unfolding shape read_attribute read_table read_table_at read_fields read_children read_tree read_unit_under nesting
version_four = refl

unit_type_zero : read_unit Little first_table (0x0b ∷ 0x00 ∷ 0x00 ∷ 0x00 ∷ 0x05 ∷ 0x00 ∷ 0x00 ∷ 0x08 ∷ 0x00 ∷ 0x00 ∷ 0x00 ∷ 0x00 ∷ 0x01 ∷ 0x61 ∷ 0x00 ∷ []) ≡ Fault Info 6 BadUnitType
unfolding shape read_attribute read_table read_table_at read_fields read_children read_tree read_unit_under nesting
unit_type_zero = refl

unit_type_of_a_split_unit : read_unit Little first_table (0x0b ∷ 0x00 ∷ 0x00 ∷ 0x00 ∷ 0x05 ∷ 0x00 ∷ 0x05 ∷ 0x08 ∷ 0x00 ∷ 0x00 ∷ 0x00 ∷ 0x00 ∷ 0x01 ∷ 0x61 ∷ 0x00 ∷ []) ≡ Fault Info 6 BadUnitType
unfolding shape read_attribute read_table read_table_at read_fields read_children read_tree read_unit_under nesting
unit_type_of_a_split_unit = refl

unit_type_of_a_user : read_unit Little first_table (0x0b ∷ 0x00 ∷ 0x00 ∷ 0x00 ∷ 0x05 ∷ 0x00 ∷ 0x80 ∷ 0x08 ∷ 0x00 ∷ 0x00 ∷ 0x00 ∷ 0x00 ∷ 0x01 ∷ 0x61 ∷ 0x00 ∷ []) ≡ Fault Info 6 BadUnitType
unfolding shape read_attribute read_table read_table_at read_fields read_children read_tree read_unit_under nesting
unit_type_of_a_user = refl

address_size_zero : read_unit Little first_table (0x0b ∷ 0x00 ∷ 0x00 ∷ 0x00 ∷ 0x05 ∷ 0x00 ∷ 0x01 ∷ 0x00 ∷ 0x00 ∷ 0x00 ∷ 0x00 ∷ 0x00 ∷ 0x01 ∷ 0x61 ∷ 0x00 ∷ []) ≡ Fault Info 7 BadAddressSize
unfolding shape read_attribute read_table read_table_at read_fields read_children read_tree read_unit_under nesting
address_size_zero = refl

address_size_nine : read_unit Little first_table (0x0b ∷ 0x00 ∷ 0x00 ∷ 0x00 ∷ 0x05 ∷ 0x00 ∷ 0x01 ∷ 0x09 ∷ 0x00 ∷ 0x00 ∷ 0x00 ∷ 0x00 ∷ 0x01 ∷ 0x61 ∷ 0x00 ∷ []) ≡ Fault Info 7 BadAddressSize
unfolding shape read_attribute read_table read_table_at read_fields read_children read_tree read_unit_under nesting
address_size_nine = refl

version_past_the_unit : read_unit Little first_table (0x01 ∷ 0x00 ∷ 0x00 ∷ 0x00 ∷ []) ≡ Fault Info 4 PastUnit
unfolding shape read_attribute read_table read_table_at read_fields read_children read_tree read_unit_under nesting
version_past_the_unit = refl

unit_type_past_the_unit : read_unit Little first_table (0x02 ∷ 0x00 ∷ 0x00 ∷ 0x00 ∷ 0x05 ∷ 0x00 ∷ []) ≡ Fault Info 6 PastUnit
unfolding shape read_attribute read_table read_table_at read_fields read_children read_tree read_unit_under nesting
unit_type_past_the_unit = refl

offset_past_the_unit : read_unit Little first_table (0x05 ∷ 0x00 ∷ 0x00 ∷ 0x00 ∷ 0x05 ∷ 0x00 ∷ 0x01 ∷ 0x08 ∷ []) ≡ Fault Info 8 PastUnit
unfolding shape read_attribute read_table read_table_at read_fields read_children read_tree read_unit_under nesting
offset_past_the_unit = refl

version_cut : read_unit Little first_table (0x0b ∷ 0x00 ∷ 0x00 ∷ 0x00 ∷ 0x05 ∷ []) ≡ Fault Info 4 Truncated
unfolding shape read_attribute read_table read_table_at read_fields read_children read_tree read_unit_under nesting
version_cut = refl

offset_cut : read_unit Little first_table (0x0b ∷ 0x00 ∷ 0x00 ∷ 0x00 ∷ 0x05 ∷ 0x00 ∷ 0x01 ∷ 0x08 ∷ 0x00 ∷ 0x00 ∷ []) ≡ Fault Info 8 Truncated
unfolding shape read_attribute read_table read_table_at read_fields read_children read_tree read_unit_under nesting
offset_cut = refl

type_offset_past_the_unit : read_unit Little first_table (0x13 ∷ 0x00 ∷ 0x00 ∷ 0x00 ∷ 0x05 ∷ 0x00 ∷ 0x02 ∷ 0x08 ∷ 0x00 ∷ 0x00 ∷ 0x00 ∷ 0x00 ∷ 0x88 ∷ 0x77 ∷ 0x66 ∷ 0x55 ∷ 0x44 ∷ 0x33 ∷ 0x22 ∷ 0x11 ∷ 0x18 ∷ 0x00 ∷ 0x00 ∷ 0x00 ∷ []) ≡ Fault Info 20 PastUnit
unfolding shape read_attribute read_table read_table_at read_fields read_children read_tree read_unit_under nesting
type_offset_past_the_unit = refl

-- ---- version 4, where it is accepted and where it isn't

four_unit : read_unit_under FourAndFive Little first_table (0x0a ∷ 0x00 ∷ 0x00 ∷ 0x00 ∷ 0x04 ∷ 0x00 ∷ 0x00 ∷ 0x00 ∷ 0x00 ∷ 0x00 ∷ 0x08 ∷ 0x01 ∷ 0x61 ∷ 0x00 ∷ []) ≡ Unit (unit_of first (headed Little Dwarf32 Four) named) 14
unfolding shape read_attribute read_table read_table_at read_fields read_children read_tree read_unit_under nesting
four_unit = refl

sixty_four_bit_four_unit : read_unit_under FourAndFive Little first_table (0xff ∷ 0xff ∷ 0xff ∷ 0xff ∷ 0x0e ∷ 0x00 ∷ 0x00 ∷ 0x00 ∷ 0x00 ∷ 0x00 ∷ 0x00 ∷ 0x00 ∷ 0x04 ∷ 0x00 ∷ 0x00 ∷ 0x00 ∷ 0x00 ∷ 0x00 ∷ 0x00 ∷ 0x00 ∷ 0x00 ∷ 0x00 ∷ 0x08 ∷ 0x01 ∷ 0x61 ∷ 0x00 ∷ []) ≡ Unit (unit_of first (headed Little Dwarf64 Four) named) 26
unfolding shape read_attribute read_table read_table_at read_fields read_children read_tree read_unit_under nesting
sixty_four_bit_four_unit = refl

big_endian_four_unit : read_unit_under FourAndFive Big first_table (0x00 ∷ 0x00 ∷ 0x00 ∷ 0x0a ∷ 0x00 ∷ 0x04 ∷ 0x00 ∷ 0x00 ∷ 0x00 ∷ 0x00 ∷ 0x08 ∷ 0x01 ∷ 0x61 ∷ 0x00 ∷ []) ≡ Unit (unit_of first (headed Big Dwarf32 Four) named) 14
unfolding shape read_attribute read_table read_table_at read_fields read_children read_tree read_unit_under nesting
big_endian_four_unit = refl

big_endian_sixty_four_bit_four_unit : read_unit_under FourAndFive Big first_table (0xff ∷ 0xff ∷ 0xff ∷ 0xff ∷ 0x00 ∷ 0x00 ∷ 0x00 ∷ 0x00 ∷ 0x00 ∷ 0x00 ∷ 0x00 ∷ 0x0e ∷ 0x00 ∷ 0x04 ∷ 0x00 ∷ 0x00 ∷ 0x00 ∷ 0x00 ∷ 0x00 ∷ 0x00 ∷ 0x00 ∷ 0x00 ∷ 0x08 ∷ 0x01 ∷ 0x61 ∷ 0x00 ∷ []) ≡ Unit (unit_of first (headed Big Dwarf64 Four) named) 26
unfolding shape read_attribute read_table read_table_at read_fields read_children read_tree read_unit_under nesting
big_endian_sixty_four_bit_four_unit = refl

compile_unit_beside_version_four : read_unit_under FourAndFive Little first_table (0x0b ∷ 0x00 ∷ 0x00 ∷ 0x00 ∷ 0x05 ∷ 0x00 ∷ 0x01 ∷ 0x08 ∷ 0x00 ∷ 0x00 ∷ 0x00 ∷ 0x00 ∷ 0x01 ∷ 0x61 ∷ 0x00 ∷ []) ≡ Unit (unit_of first (headed Little Dwarf32 Compile) named) 15
unfolding shape read_attribute read_table read_table_at read_fields read_children read_tree read_unit_under nesting
compile_unit_beside_version_four = refl

four_unit_unasked : read_unit_under Five Little first_table (0x0a ∷ 0x00 ∷ 0x00 ∷ 0x00 ∷ 0x04 ∷ 0x00 ∷ 0x00 ∷ 0x00 ∷ 0x00 ∷ 0x00 ∷ 0x08 ∷ 0x01 ∷ 0x61 ∷ 0x00 ∷ []) ≡ Fault Info 4 BadVersion
unfolding shape read_attribute read_table read_table_at read_fields read_children read_tree read_unit_under nesting
four_unit_unasked = refl

four_past_the_unit : read_unit_under FourAndFive Little first_table (0x02 ∷ 0x00 ∷ 0x00 ∷ 0x00 ∷ 0x04 ∷ 0x00 ∷ []) ≡ Fault Info 6 PastUnit
unfolding shape read_attribute read_table read_table_at read_fields read_children read_tree read_unit_under nesting
four_past_the_unit = refl

four_past_the_unit_unasked : read_unit_under Five Little first_table (0x02 ∷ 0x00 ∷ 0x00 ∷ 0x00 ∷ 0x04 ∷ 0x00 ∷ []) ≡ Fault Info 4 BadVersion
unfolding shape read_attribute read_table read_table_at read_fields read_children read_tree read_unit_under nesting
four_past_the_unit_unasked = refl

version_three : read_unit_under FourAndFive Little first_table (0x0a ∷ 0x00 ∷ 0x00 ∷ 0x00 ∷ 0x03 ∷ 0x00 ∷ 0x00 ∷ 0x00 ∷ 0x00 ∷ 0x00 ∷ 0x08 ∷ 0x01 ∷ 0x61 ∷ 0x00 ∷ []) ≡ Fault Info 4 BadVersion
unfolding shape read_attribute read_table read_table_at read_fields read_children read_tree read_unit_under nesting
version_three = refl

version_six : read_unit_under FourAndFive Little first_table (0x0a ∷ 0x00 ∷ 0x00 ∷ 0x00 ∷ 0x06 ∷ 0x00 ∷ 0x00 ∷ 0x00 ∷ 0x00 ∷ 0x00 ∷ 0x08 ∷ 0x01 ∷ 0x61 ∷ 0x00 ∷ []) ≡ Fault Info 4 BadVersion
unfolding shape read_attribute read_table read_table_at read_fields read_children read_tree read_unit_under nesting
version_six = refl

four_address_size_zero : read_unit_under FourAndFive Little first_table (0x0a ∷ 0x00 ∷ 0x00 ∷ 0x00 ∷ 0x04 ∷ 0x00 ∷ 0x00 ∷ 0x00 ∷ 0x00 ∷ 0x00 ∷ 0x00 ∷ 0x01 ∷ 0x61 ∷ 0x00 ∷ []) ≡ Fault Info 10 BadAddressSize
unfolding shape read_attribute read_table read_table_at read_fields read_children read_tree read_unit_under nesting
four_address_size_zero = refl

four_address_size_nine : read_unit_under FourAndFive Little first_table (0x0a ∷ 0x00 ∷ 0x00 ∷ 0x00 ∷ 0x04 ∷ 0x00 ∷ 0x00 ∷ 0x00 ∷ 0x00 ∷ 0x00 ∷ 0x09 ∷ 0x01 ∷ 0x61 ∷ 0x00 ∷ []) ≡ Fault Info 10 BadAddressSize
unfolding shape read_attribute read_table read_table_at read_fields read_children read_tree read_unit_under nesting
four_address_size_nine = refl

four_offset_cut : read_unit_under FourAndFive Little first_table (0x0a ∷ 0x00 ∷ 0x00 ∷ 0x00 ∷ 0x04 ∷ 0x00 ∷ 0x00 ∷ 0x00 ∷ []) ≡ Fault Info 6 Truncated
unfolding shape read_attribute read_table read_table_at read_fields read_children read_tree read_unit_under nesting
four_offset_cut = refl

four_address_size_cut : read_unit_under FourAndFive Little first_table (0x0a ∷ 0x00 ∷ 0x00 ∷ 0x00 ∷ 0x04 ∷ 0x00 ∷ 0x00 ∷ 0x00 ∷ 0x00 ∷ 0x00 ∷ []) ≡ Fault Info 10 Truncated
unfolding shape read_attribute read_table read_table_at read_fields read_children read_tree read_unit_under nesting
four_address_size_cut = refl

-- ---- the order of faults

-- the address size and the table offset are both wrong
header_before_table : read_unit Little first_table (0x0b ∷ 0x00 ∷ 0x00 ∷ 0x00 ∷ 0x05 ∷ 0x00 ∷ 0x01 ∷ 0x00 ∷ 0x08 ∷ 0x00 ∷ 0x00 ∷ 0x00 ∷ 0x01 ∷ 0x61 ∷ 0x00 ∷ []) ≡ Fault Info 7 BadAddressSize
unfolding shape read_attribute read_table read_table_at read_fields read_children read_tree read_unit_under nesting
header_before_table = refl

-- the table offset and the root are both wrong
table_before_body : read_unit Little first_table (0x0b ∷ 0x00 ∷ 0x00 ∷ 0x00 ∷ 0x05 ∷ 0x00 ∷ 0x01 ∷ 0x08 ∷ 0x08 ∷ 0x00 ∷ 0x00 ∷ 0x00 ∷ 0x00 ∷ 0x61 ∷ 0x00 ∷ []) ≡ Fault Abbrev 8 AbbrevOffset
unfolding shape read_attribute read_table read_table_at read_fields read_children read_tree read_unit_under nesting
table_before_body = refl
