-- Worked rows: sections, computed by the plain reader.
use Rattle.std.specs.Prelude.{ℕ, ◌≡◌, false, List, ◌∷◌, [], ◌++◌, None}
use Rattle.std.proofs.Common.{refl}
use Rattle.dw_leb.specs.declared.errors.Reason.TheVariants.{Truncated, PastUnit, SecondRoot, LengthTooBig, ReservedLength, AbbrevOffset, UnknownCode}
use Rattle.dw_leb.specs.declared.errors.SectionId.TheVariants.{Info, Abbrev}
use Rattle.dw_leb.specs.declared.order.Order.TheVariants.{Little}
use Rattle.dw_leb.specs.declared.order.Format.TheVariants.{Dwarf32}
use Rattle.dw_leb.specs.Number.{Unsigned}
use Rattle.dw_form.specs.Form.{shape, Text}
use Rattle.dw_form.specs.ReadForm.{read_attribute}
use Rattle.dw_abbrev.specs.Table.{Table}
use Rattle.dw_abbrev.specs.ReadTable.{read_table, read_table_at}
use Rattle.dw_header.specs.declared.kind.Kind.TheVariants.{Compile, Four}
use Rattle.dw_header.specs.declared.versions.Versions.TheVariants.{Five, FourAndFive}
use Rattle.dw_header.specs.ReadHeader.{read_fields}
use Rattle.dw_tree.specs.Tree.{leaf, nesting}
use Rattle.dw_tree.specs.ReadTree.{read_children, read_tree}
use Rattle.dw_unit.specs.ReadUnit.{read_unit_under}
use Rattle.dw_unit.specs.Unit.{WholeUnit}
use Rattle.dw_section.specs.Item.{Known, Other}
use Rattle.dw_section.specs.ReadSection.{Items, Fails, read_item, read_section}

abbrev pub narrow : ℕ → Unsigned
narrow n = record { value = n; width = 1 }

-- code 1, DW_TAG_compile_unit, no children, DW_AT_name as DW_FORM_string
abbrev pub first_table : List ℕ
first_table = 0x01 ∷ 0x11 ∷ 0x00 ∷ 0x03 ∷ 0x08 ∷ 0x00 ∷ 0x00 ∷ 0x00 ∷ []

abbrev pub fifteen : List ℕ
fifteen = 0x0b ∷ 0x00 ∷ 0x00 ∷ 0x00 ∷ 0x05 ∷ 0x00 ∷ 0x01 ∷ 0x08 ∷ 0x00 ∷ 0x00 ∷ 0x00 ∷ 0x00 ∷ 0x01 ∷ 0x61 ∷ 0x00 ∷ []

abbrev pub version_four : List ℕ
version_four = 0x0a ∷ 0x00 ∷ 0x00 ∷ 0x00 ∷ 0x04 ∷ 0x00 ∷ 0x00 ∷ 0x00 ∷ 0x00 ∷ 0x00 ∷ 0x08 ∷ 0x01 ∷ 0x61 ∷ 0x00 ∷ []

abbrev pub name_table : Table
name_table = record { declarations = record { code = narrow 1; tag = narrow 0x11; children = false; pairs = record { name = narrow 3; form = narrow 8; constant = None } ∷ []; name_zero = 1; form_zero = 1 } ∷ []; last_zero = 1 }

abbrev pub named_a : WholeUnit
named_a = record {
  header = record { order = Little; format = Dwarf32; kind = Compile; address_size = 8; abbrev_offset = 0 };
  table = name_table;
  root = leaf (narrow 1) (record { via = None; value = Text (0x61 ∷ []) } ∷ []);
  padding = [];
}

empty_section : read_section Five Little first_table [] ≡ Items []
unfolding read_section read_item
empty_section = refl

zero_length : read_section Five Little first_table (0x00 ∷ 0x00 ∷ 0x00 ∷ 0x00 ∷ []) ≡ Items (Other (0x00 ∷ 0x00 ∷ 0x00 ∷ 0x00 ∷ []) ∷ [])
unfolding read_section read_item
zero_length = refl

type_not_told : read_section Five Little first_table (0x03 ∷ 0x00 ∷ 0x00 ∷ 0x00 ∷ 0x05 ∷ 0x00 ∷ []) ≡ Fails Info 6 Truncated
unfolding read_section read_item
type_not_told = refl

version_not_told : read_section Five Little first_table (0x03 ∷ 0x00 ∷ 0x00 ∷ 0x00 ∷ 0x05 ∷ []) ≡ Fails Info 4 Truncated
unfolding read_section read_item
version_not_told = refl

two_bytes : read_section Five Little first_table (0x02 ∷ 0x00 ∷ 0x00 ∷ 0x00 ∷ 0x05 ∷ 0x00 ∷ []) ≡ Items (Other (0x02 ∷ 0x00 ∷ 0x00 ∷ 0x00 ∷ 0x05 ∷ 0x00 ∷ []) ∷ [])
unfolding read_section read_item
two_bytes = refl

other_type : read_section Five Little first_table (0x03 ∷ 0x00 ∷ 0x00 ∷ 0x00 ∷ 0x05 ∷ 0x00 ∷ 0x05 ∷ []) ≡ Items (Other (0x03 ∷ 0x00 ∷ 0x00 ∷ 0x00 ∷ 0x05 ∷ 0x00 ∷ 0x05 ∷ []) ∷ [])
unfolding read_section read_item
other_type = refl

other_and_known : read_section Five Little first_table (version_four ++ fifteen) ≡ Items (Other version_four ∷ Known named_a ∷ [])
unfolding shape read_attribute read_table read_table_at read_fields read_children read_tree read_unit_under nesting read_section read_item
other_and_known = refl

twice : read_section Five Little first_table (fifteen ++ fifteen) ≡ Items (Known named_a ∷ Known named_a ∷ [])
unfolding shape read_attribute read_table read_table_at read_fields read_children read_tree read_unit_under nesting read_section read_item
twice = refl

-- an item's own fault is moved by its start ..
second_root_in_the_second : read_section Five Little first_table (fifteen ++ (0x0c ∷ 0x00 ∷ 0x00 ∷ 0x00 ∷ 0x05 ∷ 0x00 ∷ 0x01 ∷ 0x08 ∷ 0x00 ∷ 0x00 ∷ 0x00 ∷ 0x00 ∷ 0x01 ∷ 0x61 ∷ 0x00 ∷ 0x01 ∷ 0x00 ∷ [])) ≡ Fails Info 30 SecondRoot
unfolding shape read_attribute read_table read_table_at read_fields read_children read_tree read_unit_under nesting read_section read_item
second_root_in_the_second = refl

-- .. and a table's is not
table_fault_in_the_second : read_section Five Little first_table (fifteen ++ (0x0c ∷ 0x00 ∷ 0x00 ∷ 0x00 ∷ 0x05 ∷ 0x00 ∷ 0x01 ∷ 0x08 ∷ 0x09 ∷ 0x00 ∷ 0x00 ∷ 0x00 ∷ [])) ≡ Fails Abbrev 9 AbbrevOffset
unfolding shape read_attribute read_table read_table_at read_fields read_children read_tree read_unit_under nesting read_section read_item
table_fault_in_the_second = refl

-- a broken unit of version 5 is no item that is kept
known_is_not_kept : read_section Five Little first_table (0x0b ∷ 0x00 ∷ 0x00 ∷ 0x00 ∷ 0x05 ∷ 0x00 ∷ 0x01 ∷ 0x08 ∷ 0x00 ∷ 0x00 ∷ 0x00 ∷ 0x00 ∷ 0x02 ∷ 0x61 ∷ 0x00 ∷ []) ≡ Fails Info 12 UnknownCode
unfolding shape read_attribute read_table read_table_at read_fields read_children read_tree read_unit_under nesting read_section read_item
known_is_not_kept = refl

cut_in_the_third : read_section Five Little first_table (fifteen ++ (version_four ++ (0x0a ∷ 0x00 ∷ 0x00 ∷ 0x00 ∷ 0x04 ∷ 0x00 ∷ 0x00 ∷ []))) ≡ Fails Info 33 Truncated
unfolding shape read_attribute read_table read_table_at read_fields read_children read_tree read_unit_under nesting read_section read_item
cut_in_the_third = refl

reserved_in_the_second : read_section Five Little first_table (fifteen ++ (0xf0 ∷ 0xff ∷ 0xff ∷ 0xff ∷ [])) ≡ Fails Info 15 ReservedLength
unfolding shape read_attribute read_table read_table_at read_fields read_children read_tree read_unit_under nesting read_section read_item
reserved_in_the_second = refl

-- ends at 2 ^ 63 - 1, and one byte further
long_other : read_section Five Little first_table (0xff ∷ 0xff ∷ 0xff ∷ 0xff ∷ 0xf3 ∷ 0xff ∷ 0xff ∷ 0xff ∷ 0xff ∷ 0xff ∷ 0xff ∷ 0x7f ∷ 0x04 ∷ 0x00 ∷ []) ≡ Fails Info 12 Truncated
unfolding read_section read_item
long_other = refl

too_long_other : read_section Five Little first_table (0xff ∷ 0xff ∷ 0xff ∷ 0xff ∷ 0xf4 ∷ 0xff ∷ 0xff ∷ 0xff ∷ 0xff ∷ 0xff ∷ 0xff ∷ 0x7f ∷ 0x04 ∷ 0x00 ∷ []) ≡ Fails Info 0 LengthTooBig
unfolding read_section read_item
too_long_other = refl

-- the same length behind other bytes ends too far, though alone it would not
too_long_behind : read_section Five Little first_table (0x00 ∷ 0x00 ∷ 0x00 ∷ 0x00 ∷ 0xff ∷ 0xff ∷ 0xff ∷ 0xff ∷ 0xf3 ∷ 0xff ∷ 0xff ∷ 0xff ∷ 0xff ∷ 0xff ∷ 0xff ∷ 0x7f ∷ 0x04 ∷ 0x00 ∷ []) ≡ Fails Info 4 LengthTooBig
unfolding read_section read_item
too_long_behind = refl

-- ---- where version 4 is asked for

abbrev pub four_named_a : WholeUnit
four_named_a = record {
  header = record { order = Little; format = Dwarf32; kind = Four; address_size = 8; abbrev_offset = 0 };
  table = name_table;
  root = leaf (narrow 1) (record { via = None; value = Text (0x61 ∷ []) } ∷ []);
  padding = [];
}

four_and_five : read_section FourAndFive Little first_table (version_four ++ fifteen) ≡ Items (Known four_named_a ∷ Known named_a ∷ [])
unfolding shape read_attribute read_table read_table_at read_fields read_children read_tree read_unit_under nesting read_section read_item
four_and_five = refl

short_four : read_section FourAndFive Little first_table (0x02 ∷ 0x00 ∷ 0x00 ∷ 0x00 ∷ 0x04 ∷ 0x00 ∷ []) ≡ Fails Info 6 PastUnit
unfolding read_fields read_unit_under read_section read_item
short_four = refl

short_four_not_asked_for : read_section Five Little first_table (0x02 ∷ 0x00 ∷ 0x00 ∷ 0x00 ∷ 0x04 ∷ 0x00 ∷ []) ≡ Items (Other (0x02 ∷ 0x00 ∷ 0x00 ∷ 0x00 ∷ 0x04 ∷ 0x00 ∷ []) ∷ [])
unfolding read_section read_item
short_four_not_asked_for = refl

abbrev version_three : List ℕ
version_three = 0x0a ∷ 0x00 ∷ 0x00 ∷ 0x00 ∷ 0x03 ∷ 0x00 ∷ 0x00 ∷ 0x00 ∷ 0x00 ∷ 0x00 ∷ 0x08 ∷ 0x01 ∷ 0x61 ∷ 0x00 ∷ []

three_is_kept : read_section FourAndFive Little first_table version_three ≡ Items (Other version_three ∷ [])
unfolding read_section read_item
three_is_kept = refl

short_five_is_kept : read_section FourAndFive Little first_table (0x02 ∷ 0x00 ∷ 0x00 ∷ 0x00 ∷ 0x05 ∷ 0x00 ∷ []) ≡ Items (Other (0x02 ∷ 0x00 ∷ 0x00 ∷ 0x00 ∷ 0x05 ∷ 0x00 ∷ []) ∷ [])
unfolding read_section read_item
short_five_is_kept = refl

type_cut_under_both : read_section FourAndFive Little first_table (0x03 ∷ 0x00 ∷ 0x00 ∷ 0x00 ∷ 0x05 ∷ 0x00 ∷ []) ≡ Fails Info 6 Truncated
unfolding read_section read_item
type_cut_under_both = refl

version_cut_under_both : read_section FourAndFive Little first_table (0x02 ∷ 0x00 ∷ 0x00 ∷ 0x00 ∷ 0x04 ∷ []) ≡ Fails Info 4 Truncated
unfolding read_section read_item
version_cut_under_both = refl
