-- Worked rows: units, computed by the plain reader.
use Rattle.std.specs.Prelude.{ℕ, negsuc, ◌≡◌, true, false, List, ◌∷◌, [], ◌++◌, Some, None}
use Rattle.std.proofs.Common.{refl}
use Rattle.dw_leb.specs.declared.errors.Reason.TheVariants.{Truncated, PastUnit, NoRoot, UnknownCode, UnknownForm, BadIndirect, SecondRoot, AbbrevOffset, BadChildren, HalfPair, DuplicateCode}
use Rattle.dw_leb.specs.declared.order.Order.TheVariants.{Little}
use Rattle.dw_leb.specs.declared.order.Format.TheVariants.{Dwarf32}
use Rattle.dw_leb.specs.declared.errors.SectionId.TheVariants.{Info, Abbrev}
use Rattle.dw_form.specs.Form.{shape, Num, Uleb, Text, Implicit}
use Rattle.dw_form.specs.ReadForm.{read_attribute}
use Rattle.dw_abbrev.specs.Table.{Table}
use Rattle.dw_abbrev.specs.ReadTable.{read_table, read_table_at}
use Rattle.dw_header.specs.declared.kind.Kind.TheVariants.{Compile, TypeUnit}
use Rattle.dw_tree.specs.Tree.{leaf, branch, none, more, nesting}
use Rattle.dw_tree.specs.ReadTree.{read_children, read_tree}
use Rattle.dw_header.specs.ReadHeader.{read_fields}
use Rattle.dw_unit.specs.ReadUnit.{read_unit, read_unit_under, Unit, Fault}
use Rattle.dw_unit.proofs.Samples.{first_table, first, header, narrow, plain, pair, declaration, table_of, one_declared, base_types, by_way_of, entry, named, headed, unit_of, compiled}

-- ---- one root over the first table

the_fifteen_bytes : read_unit Little first_table (0x0b ∷ 0x00 ∷ 0x00 ∷ 0x00 ∷ 0x05 ∷ 0x00 ∷ 0x01 ∷ 0x08 ∷ 0x00 ∷ 0x00 ∷ 0x00 ∷ 0x00 ∷ 0x01 ∷ 0x61 ∷ 0x00 ∷ []) ≡ Unit (compiled first named) 15
unfolding shape read_attribute read_table read_table_at read_fields read_children read_tree read_unit_under nesting
the_fifteen_bytes = refl

two_bytes_follow : read_unit Little first_table (header 0x0b ++ (0x01 ∷ 0x61 ∷ 0x00 ∷ 0xff ∷ 0xff ∷ [])) ≡ Unit (compiled first named) 15
unfolding shape read_attribute read_table read_table_at read_fields read_children read_tree read_unit_under nesting
two_bytes_follow = refl

padded_code : read_unit Little first_table (header 0x0c ++ (0x81 ∷ 0x00 ∷ 0x61 ∷ 0x00 ∷ [])) ≡ Unit (compiled first (leaf (record { value = 1; width = 2 }) (plain (Text (0x61 ∷ [])) ∷ []))) 16
unfolding shape read_attribute read_table read_table_at read_fields read_children read_tree read_unit_under nesting
padded_code = refl

padding_after_the_root : read_unit Little first_table (header 0x0e ++ (0x01 ∷ 0x61 ∷ 0x00 ∷ 0x00 ∷ 0x80 ∷ 0x00 ∷ [])) ≡ Unit (record { header = headed Little Dwarf32 Compile; table = first; root = named; padding = 1 ∷ 2 ∷ [] }) 18
unfolding shape read_attribute read_table read_table_at read_fields read_children read_tree read_unit_under nesting
padding_after_the_root = refl

last_byte_missing : read_unit Little first_table (header 0x0b ++ (0x01 ∷ 0x61 ∷ [])) ≡ Fault Info 13 Truncated
unfolding shape read_attribute read_table read_table_at read_fields read_children read_tree read_unit_under nesting
last_byte_missing = refl

past_the_unit : read_unit Little first_table (header 0x08) ≡ Fault Info 12 PastUnit
unfolding shape read_attribute read_table read_table_at read_fields read_children read_tree read_unit_under nesting
past_the_unit = refl

no_root : read_unit Little first_table (header 0x09 ++ (0x00 ∷ [])) ≡ Fault Info 12 NoRoot
unfolding shape read_attribute read_table read_table_at read_fields read_children read_tree read_unit_under nesting
no_root = refl

second_root : read_unit Little first_table (header 0x0c ++ (0x01 ∷ 0x61 ∷ 0x00 ∷ 0x01 ∷ [])) ≡ Fault Info 15 SecondRoot
unfolding shape read_attribute read_table read_table_at read_fields read_children read_tree read_unit_under nesting
second_root = refl

padding_cut : read_unit Little first_table (header 0x0c ++ (0x01 ∷ 0x61 ∷ 0x00 ∷ [])) ≡ Fault Info 15 Truncated
unfolding shape read_attribute read_table read_table_at read_fields read_children read_tree read_unit_under nesting
padding_cut = refl

padding_past_the_unit : read_unit Little first_table (header 0x0c ++ (0x01 ∷ 0x61 ∷ 0x00 ∷ 0x80 ∷ [])) ≡ Fault Info 15 PastUnit
unfolding shape read_attribute read_table read_table_at read_fields read_children read_tree read_unit_under nesting
padding_past_the_unit = refl

-- the length is not compared with the count of bytes that there are
code_before_the_missing_end : read_unit Little first_table (header 0xff ++ (0x02 ∷ [])) ≡ Fault Info 12 UnknownCode
unfolding shape read_attribute read_table read_table_at read_fields read_children read_tree read_unit_under nesting
code_before_the_missing_end = refl

code_over_the_empty_table : read_unit Little first_table (0x0b ∷ 0x00 ∷ 0x00 ∷ 0x00 ∷ 0x05 ∷ 0x00 ∷ 0x01 ∷ 0x08 ∷ 0x07 ∷ 0x00 ∷ 0x00 ∷ 0x00 ∷ 0x01 ∷ 0x61 ∷ 0x00 ∷ []) ≡ Fault Info 12 UnknownCode
unfolding shape read_attribute read_table read_table_at read_fields read_children read_tree read_unit_under nesting
code_over_the_empty_table = refl

-- ---- other tables

-- a type unit with a child, a base type, and a compile unit that refers to a signature
abbrev signatures : List ℕ
signatures = 0x01 ∷ 0x41 ∷ 0x01 ∷ 0x00 ∷ 0x00 ∷ 0x02 ∷ 0x24 ∷ 0x00 ∷ 0x0b ∷ 0x0b ∷ 0x00 ∷ 0x00 ∷ 0x03 ∷ 0x11 ∷ 0x00 ∷ 0x49 ∷ 0x20 ∷ 0x00 ∷ 0x00 ∷ 0x00 ∷ []

-- the same, as a table
abbrev signature_table : Table
signature_table = table_of (declaration 1 0x41 true [] ∷ declaration 2 0x24 false (pair 0x0b 0x0b None ∷ []) ∷ declaration 3 0x11 false (pair 0x49 0x20 None ∷ []) ∷ [])

implicit_constant : read_unit Little (0x01 ∷ 0x11 ∷ 0x00 ∷ 0x0b ∷ 0x21 ∷ 0xff ∷ 0x7f ∷ 0x00 ∷ 0x00 ∷ 0x00 ∷ []) (header 0x09 ++ (0x01 ∷ [])) ≡ Unit (compiled (one_declared (pair 0x0b 0x21 (Some (record { value = negsuc 0; width = 2 })) ∷ [])) (entry (plain (Implicit (record { value = negsuc 0; width = 2 }))))) 13
unfolding shape read_attribute read_table read_table_at read_fields read_children read_tree read_unit_under nesting
implicit_constant = refl

number_of_four_bytes : read_unit Little (0x01 ∷ 0x11 ∷ 0x00 ∷ 0x03 ∷ 0x0e ∷ 0x00 ∷ 0x00 ∷ 0x00 ∷ []) (header 0x0d ++ (0x01 ∷ 0x02 ∷ 0x00 ∷ 0x00 ∷ 0x00 ∷ [])) ≡ Unit (compiled (one_declared (pair 3 0x0e None ∷ [])) (entry (plain (Num 2)))) 17
unfolding shape read_attribute read_table read_table_at read_fields read_children read_tree read_unit_under nesting
number_of_four_bytes = refl

indexed_texts : read_unit Little (0x01 ∷ 0x11 ∷ 0x00 ∷ 0x72 ∷ 0x17 ∷ 0x03 ∷ 0x25 ∷ 0x00 ∷ 0x00 ∷ 0x00 ∷ []) (header 0x0e ++ (0x01 ∷ 0x08 ∷ 0x00 ∷ 0x00 ∷ 0x00 ∷ 0x01 ∷ [])) ≡ Unit (compiled (one_declared (pair 0x72 0x17 None ∷ pair 3 0x25 None ∷ [])) (leaf (narrow 1) (plain (Num 8) ∷ plain (Num 1) ∷ []))) 18
unfolding shape read_attribute read_table read_table_at read_fields read_children read_tree read_unit_under nesting
indexed_texts = refl

base_of_eight_bytes : read_unit Little (0x01 ∷ 0x11 ∷ 0x00 ∷ 0x72 ∷ 0x07 ∷ 0x03 ∷ 0x25 ∷ 0x00 ∷ 0x00 ∷ 0x00 ∷ []) (header 0x12 ++ (0x01 ∷ 0xff ∷ 0xff ∷ 0xff ∷ 0xff ∷ 0xff ∷ 0xff ∷ 0xff ∷ 0xff ∷ 0x01 ∷ [])) ≡ Unit (compiled (one_declared (pair 0x72 0x07 None ∷ pair 3 0x25 None ∷ [])) (leaf (narrow 1) (plain (Num 0xffffffffffffffff) ∷ plain (Num 1) ∷ []))) 22
unfolding shape read_attribute read_table read_table_at read_fields read_children read_tree read_unit_under nesting
base_of_eight_bytes = refl

signature_of_a_type : read_unit Little signatures (header 0x11 ++ (0x03 ∷ 0x88 ∷ 0x77 ∷ 0x66 ∷ 0x55 ∷ 0x44 ∷ 0x33 ∷ 0x22 ∷ 0x11 ∷ [])) ≡ Unit (compiled signature_table (leaf (narrow 3) (plain (Num 0x1122334455667788) ∷ []))) 21
unfolding shape read_attribute read_table read_table_at read_fields read_children read_tree read_unit_under nesting
signature_of_a_type = refl

second_of_two_tables : read_unit Little (first_table ++ (0x01 ∷ 0x11 ∷ 0x00 ∷ 0x49 ∷ 0x10 ∷ 0x00 ∷ 0x00 ∷ 0x00 ∷ [])) (0x0d ∷ 0x00 ∷ 0x00 ∷ 0x00 ∷ 0x05 ∷ 0x00 ∷ 0x01 ∷ 0x08 ∷ 0x08 ∷ 0x00 ∷ 0x00 ∷ 0x00 ∷ 0x01 ∷ 0x0c ∷ 0x00 ∷ 0x00 ∷ 0x00 ∷ []) ≡ Unit (unit_of (one_declared (pair 0x49 0x10 None ∷ [])) (record { order = Little; format = Dwarf32; kind = Compile; address_size = 8; abbrev_offset = 8 }) (entry (plain (Num 12)))) 17
unfolding shape read_attribute read_table read_table_at read_fields read_children read_tree read_unit_under nesting
second_of_two_tables = refl

-- ---- faults of values

announced_block : read_unit Little (0x01 ∷ 0x11 ∷ 0x00 ∷ 0x1c ∷ 0x04 ∷ 0x00 ∷ 0x00 ∷ 0x00 ∷ []) (header 0x0e ++ (0x01 ∷ 0xff ∷ 0xff ∷ 0xff ∷ 0xff ∷ 0x00 ∷ [])) ≡ Fault Info 13 PastUnit
unfolding shape read_attribute read_table read_table_at read_fields read_children read_tree read_unit_under nesting
announced_block = refl

-- the fault of the third value stands at that value
third_value_past_the_unit : read_unit Little (0x01 ∷ 0x11 ∷ 0x00 ∷ 0x03 ∷ 0x08 ∷ 0x0b ∷ 0x0b ∷ 0x0b ∷ 0x05 ∷ 0x00 ∷ 0x00 ∷ 0x00 ∷ []) (header 0x0d ++ (0x01 ∷ 0x61 ∷ 0x00 ∷ 0x04 ∷ 0x01 ∷ [])) ≡ Fault Info 16 PastUnit
unfolding shape read_attribute read_table read_table_at read_fields read_children read_tree read_unit_under nesting
third_value_past_the_unit = refl

-- ---- indirect values

indirect_value : read_unit Little (0x01 ∷ 0x11 ∷ 0x00 ∷ 0x0b ∷ 0x16 ∷ 0x00 ∷ 0x00 ∷ 0x00 ∷ []) (header 0x0c ++ (0x01 ∷ 0x0f ∷ 0x85 ∷ 0x00 ∷ [])) ≡ Unit (compiled (one_declared (pair 0x0b 0x16 None ∷ [])) (entry (by_way_of 0x0f (Uleb (record { value = 5; width = 2 }))))) 16
unfolding shape read_attribute read_table read_table_at read_fields read_children read_tree read_unit_under nesting
indirect_value = refl

indirect_names_indirect : read_unit Little (0x01 ∷ 0x11 ∷ 0x00 ∷ 0x0b ∷ 0x16 ∷ 0x00 ∷ 0x00 ∷ 0x00 ∷ []) (header 0x0c ++ (0x01 ∷ 0x16 ∷ 0x85 ∷ 0x00 ∷ [])) ≡ Fault Info 13 BadIndirect
unfolding shape read_attribute read_table read_table_at read_fields read_children read_tree read_unit_under nesting
indirect_names_indirect = refl

indirect_names_implicit : read_unit Little (0x01 ∷ 0x11 ∷ 0x00 ∷ 0x0b ∷ 0x16 ∷ 0x00 ∷ 0x00 ∷ 0x00 ∷ []) (header 0x0c ++ (0x01 ∷ 0x21 ∷ 0x85 ∷ 0x00 ∷ [])) ≡ Fault Info 13 BadIndirect
unfolding shape read_attribute read_table read_table_at read_fields read_children read_tree read_unit_under nesting
indirect_names_implicit = refl

indirect_names_no_form : read_unit Little (0x01 ∷ 0x11 ∷ 0x00 ∷ 0x0b ∷ 0x16 ∷ 0x00 ∷ 0x00 ∷ 0x00 ∷ []) (header 0x0c ++ (0x01 ∷ 0x02 ∷ 0x85 ∷ 0x00 ∷ [])) ≡ Fault Info 13 UnknownForm
unfolding shape read_attribute read_table read_table_at read_fields read_children read_tree read_unit_under nesting
indirect_names_no_form = refl

-- ---- vendor and GNU forms

vendor_form : read_unit Little (0x01 ∷ 0x11 ∷ 0x00 ∷ 0x0b ∷ 0x81 ∷ 0x3e ∷ 0x00 ∷ 0x00 ∷ 0x00 ∷ []) (header 0x0c ++ (0x01 ∷ 0x01 ∷ 0x00 ∷ 0x00 ∷ [])) ≡ Fault Info 13 UnknownForm
unfolding shape read_attribute read_table read_table_at read_fields read_children read_tree read_unit_under nesting
vendor_form = refl

gnu_form : read_unit Little (0x01 ∷ 0x11 ∷ 0x00 ∷ 0x49 ∷ 0xa0 ∷ 0x3e ∷ 0x00 ∷ 0x00 ∷ 0x00 ∷ []) (header 0x0d ++ (0x01 ∷ 0x01 ∷ 0x00 ∷ 0x00 ∷ 0x00 ∷ [])) ≡ Unit (compiled (one_declared (record { name = narrow 0x49; form = record { value = 0x1f20; width = 2 }; constant = None } ∷ [])) (entry (plain (Num 1)))) 17
unfolding shape read_attribute read_table read_table_at read_fields read_children read_tree read_unit_under nesting
gnu_form = refl

-- ---- broken tables

table_of_bad_children : read_unit Little (0x01 ∷ 0x11 ∷ 0x02 ∷ []) (header 0x0b ++ (0x01 ∷ 0x61 ∷ 0x00 ∷ [])) ≡ Fault Abbrev 2 BadChildren
unfolding shape read_attribute read_table read_table_at read_fields read_children read_tree read_unit_under nesting
table_of_bad_children = refl

table_of_half_a_pair : read_unit Little (0x01 ∷ 0x11 ∷ 0x00 ∷ 0x03 ∷ 0x00 ∷ []) (header 0x0b ++ (0x01 ∷ 0x61 ∷ 0x00 ∷ [])) ≡ Fault Abbrev 3 HalfPair
unfolding shape read_attribute read_table read_table_at read_fields read_children read_tree read_unit_under nesting
table_of_half_a_pair = refl

table_of_a_duplicate_code : read_unit Little (0x01 ∷ 0x11 ∷ 0x00 ∷ 0x00 ∷ 0x00 ∷ 0x01 ∷ []) (header 0x0b ++ (0x01 ∷ 0x61 ∷ 0x00 ∷ [])) ≡ Fault Abbrev 5 DuplicateCode
unfolding shape read_attribute read_table read_table_at read_fields read_children read_tree read_unit_under nesting
table_of_a_duplicate_code = refl

table_that_is_cut : read_unit Little (0x01 ∷ 0x11 ∷ 0x00 ∷ 0x03 ∷ 0x08 ∷ []) (header 0x0b ++ (0x01 ∷ 0x61 ∷ 0x00 ∷ [])) ≡ Fault Abbrev 5 Truncated
unfolding shape read_attribute read_table read_table_at read_fields read_children read_tree read_unit_under nesting
table_that_is_cut = refl

table_past_the_section : read_unit Little first_table (0x0b ∷ 0x00 ∷ 0x00 ∷ 0x00 ∷ 0x05 ∷ 0x00 ∷ 0x01 ∷ 0x08 ∷ 0x08 ∷ 0x00 ∷ 0x00 ∷ 0x00 ∷ 0x01 ∷ 0x61 ∷ 0x00 ∷ []) ≡ Fault Abbrev 8 AbbrevOffset
unfolding shape read_attribute read_table read_table_at read_fields read_children read_tree read_unit_under nesting
table_past_the_section = refl

-- ---- entries with children

-- the declarations of base_types, as bytes
abbrev parents : List ℕ
parents = 0x01 ∷ 0x11 ∷ 0x01 ∷ 0x03 ∷ 0x08 ∷ 0x00 ∷ 0x00 ∷ 0x02 ∷ 0x24 ∷ 0x00 ∷ 0x0b ∷ 0x0b ∷ 0x00 ∷ 0x00 ∷ 0x00 ∷ []

root_with_a_child : read_unit Little parents (header 0x0e ++ (0x01 ∷ 0x61 ∷ 0x00 ∷ 0x02 ∷ 0x04 ∷ 0x00 ∷ []))
    ≡ Unit (compiled base_types (branch (narrow 1) (plain (Text (0x61 ∷ [])) ∷ []) (more (leaf (narrow 2) (plain (Num 4) ∷ [])) none) 1)) 18
unfolding shape read_attribute read_table read_table_at read_fields read_children read_tree read_unit_under nesting
root_with_a_child = refl

-- the end of the unit closes no list of children
missing_null : read_unit Little parents (header 0x0d ++ (0x01 ∷ 0x61 ∷ 0x00 ∷ 0x02 ∷ 0x04 ∷ [])) ≡ Fault Info 17 PastUnit
unfolding shape read_attribute read_table read_table_at read_fields read_children read_tree read_unit_under nesting
missing_null = refl

type_unit_with_a_child : read_unit Little signatures (0x18 ∷ 0x00 ∷ 0x00 ∷ 0x00 ∷ 0x05 ∷ 0x00 ∷ 0x02 ∷ 0x08 ∷ 0x00 ∷ 0x00 ∷ 0x00 ∷ 0x00 ∷ 0x88 ∷ 0x77 ∷ 0x66 ∷ 0x55 ∷ 0x44 ∷ 0x33 ∷ 0x22 ∷ 0x11 ∷ 0x19 ∷ 0x00 ∷ 0x00 ∷ 0x00 ∷ 0x01 ∷ 0x02 ∷ 0x04 ∷ 0x00 ∷ [])
    ≡ Unit (unit_of signature_table (headed Little Dwarf32 (TypeUnit 0x1122334455667788 0x19)) (branch (narrow 1) [] (more (leaf (narrow 2) (plain (Num 4) ∷ [])) none) 1)) 28
unfolding shape read_attribute read_table read_table_at read_fields read_children read_tree read_unit_under nesting
type_unit_with_a_child = refl
