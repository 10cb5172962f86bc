-- Worked rows: the texts of sections that the plain reader reads.
use Rattle.std.specs.Prelude.{ℕ, ◌≡◌, List, ◌∷◌, [], ◌++◌, Option, Some, None, codes}
use Rattle.std.specs.Fmt.{digits}
use Rattle.std.proofs.Common.{refl}
use Rattle.dw_leb.specs.declared.order.Order.TheVariants.{Little}
use Rattle.dw_form.specs.Form.{shape, attribute, shaped}
use Rattle.dw_form.specs.ReadForm.{read_attribute}
use Rattle.dw_abbrev.specs.ReadTable.{read_table, read_table_at}
use Rattle.dw_header.specs.ReadHeader.{read_fields}
use Rattle.dw_header.specs.declared.versions.Versions.{Versions}
use Rattle.dw_header.specs.declared.versions.Versions.TheVariants.{Five, FourAndFive}
use Rattle.dw_tree.specs.Tree.{children, nesting}
use Rattle.dw_tree.specs.Spelling.{tree_bytes}
use Rattle.dw_tree.specs.ReadTree.{read_children, read_tree}
use Rattle.dw_unit.specs.ReadUnit.{read_unit_under}
use Rattle.dw_section.specs.ReadSection.{SectionAnswer, Items, Fails, read_item, read_section}
use Rattle.dw_section.specs.Section.{WholeSection}
use Rattle.dw_strings.specs.Text.{StringSections}
use Rattle.dw_tool.specs.Show.{section_text}
use Rattle.dw_tool.specs.Find.{found_text}

-- what a section gives, if it is read over an abbreviation section
abbrev given : (WholeSection → List ℕ) → Versions → SectionAnswer → Option (List ℕ)
given text versions (Items items) = Some (text (record { order = Little; versions = versions; items = items }))
given text versions (Fails s offset reason) = None

abbrev strings : List ℕ → List ℕ → List ℕ → StringSections
strings str line_str str_offsets = record { str = str; line_str = line_str; str_offsets = str_offsets }

-- the text of a section over a section of texts, and over none
abbrev shown_over : StringSections → List ℕ → List ℕ → Option (List ℕ)
shown_over texts abbreviations bytes = given (section_text texts) Five (read_section Five Little abbreviations bytes)

abbrev shown : Versions → List ℕ → List ℕ → Option (List ℕ)
shown versions abbreviations bytes = given (section_text (strings [] [] [])) versions (read_section versions Little abbreviations bytes)

-- the entries of a name
abbrev found : List ℕ → List ℕ → List ℕ → Option (List ℕ)
found name abbreviations bytes = given (found_text (strings [] [] []) name) Five (read_section Five Little abbreviations bytes)

-- ---- names, and addresses in the section

abbrev two_tables : List ℕ
two_tables = 0x01 ∷ 0x11 ∷ 0x00 ∷ 0x03 ∷ 0x08 ∷ 0x00 ∷ 0x00 ∷ 0x00 ∷ 0x01 ∷ 0x11 ∷ 0x00 ∷ 0x49 ∷ 0x10 ∷ 0x00 ∷ 0x00 ∷ 0x00 ∷ []

abbrev fifteen : List ℕ
fifteen = 0x0b ∷ 0x00 ∷ 0x00 ∷ 0x00 ∷ 0x05 ∷ 0x00 ∷ 0x01 ∷ 0x08 ∷ 0x00 ∷ 0x00 ∷ 0x00 ∷ 0x00 ∷ 0x01 ∷ 0x61 ∷ 0x00 ∷ []

abbrev refers : ℕ → List ℕ
refers v = 0x0d ∷ 0x00 ∷ 0x00 ∷ 0x00 ∷ 0x05 ∷ 0x00 ∷ 0x01 ∷ 0x08 ∷ 0x08 ∷ 0x00 ∷ 0x00 ∷ 0x00 ∷ 0x01 ∷ v ∷ 0x00 ∷ 0x00 ∷ 0x00 ∷ []

-- the first unit, and the second one up to its reference
abbrev both : List ℕ
both = codes "unit 0x0 compile 32 size 15 abbrev 0x0 addr 8\n<1> 0xc DW_TAG_compile_unit\n  DW_AT_name \"a\"\nunit 0xf compile 32 size 17 abbrev 0x8 addr 8\n<1> 0x1b DW_TAG_compile_unit\n  DW_AT_type "

nothing : shown Five two_tables [] ≡ Some []
unfolding shape attribute shaped children read_attribute read_table read_table_at read_fields read_children read_tree read_unit_under nesting tree_bytes read_section read_item digits
nothing = refl

to_the_first : shown Five two_tables (fifteen ++ refers 12) ≡ Some (both ++ codes "0xc -> 0xc\n")
unfolding shape attribute shaped children read_attribute read_table read_table_at read_fields read_children read_tree read_unit_under nesting tree_bytes read_section read_item digits
to_the_first = refl

to_itself : shown Five two_tables (fifteen ++ refers 27) ≡ Some (both ++ codes "0x1b -> 0x1b\n")
unfolding shape attribute shaped children read_attribute read_table read_table_at read_fields read_children read_tree read_unit_under nesting tree_bytes read_section read_item digits
to_itself = refl

to_a_header : shown Five two_tables (fifteen ++ refers 15) ≡ Some (both ++ codes "0xf -> NotAnEntry\n")
unfolding shape attribute shaped children read_attribute read_table read_table_at read_fields read_children read_tree read_unit_under nesting tree_bytes read_section read_item digits
to_a_header = refl

past_the_section : shown Five two_tables (fifteen ++ refers 32) ≡ Some (both ++ codes "0x20 -> OutsideSection\n")
unfolding shape attribute shaped children read_attribute read_table read_table_at read_fields read_children read_tree read_unit_under nesting tree_bytes read_section read_item digits
past_the_section = refl

-- ---- version 4

abbrev version_four : List ℕ
version_four = 0x0a ∷ 0x00 ∷ 0x00 ∷ 0x00 ∷ 0x04 ∷ 0x00 ∷ 0x00 ∷ 0x00 ∷ 0x00 ∷ 0x00 ∷ 0x08 ∷ 0x01 ∷ 0x61 ∷ 0x00 ∷ []

abbrev behind : List ℕ
behind = codes "unit 0xe compile 32 size 15 abbrev 0x0 addr 8\n<1> 0x1a DW_TAG_compile_unit\n  DW_AT_name \"a\"\n"

four_and_five : shown FourAndFive two_tables (version_four ++ fifteen) ≡ Some (codes "unit 0x0 four 32 size 14 abbrev 0x0 addr 8\n<1> 0xb DW_TAG_compile_unit\n  DW_AT_name \"a\"\n" ++ behind)
unfolding shape attribute shaped children read_attribute read_table read_table_at read_fields read_children read_tree read_unit_under nesting tree_bytes read_section read_item digits
four_and_five = refl

five_alone : shown Five two_tables (version_four ++ fifteen) ≡ Some (codes "other 0x0 size 14\n" ++ behind)
unfolding shape attribute shaped children read_attribute read_table read_table_at read_fields read_children read_tree read_unit_under nesting tree_bytes read_section read_item digits
five_alone = refl

-- ---- signatures

abbrev signed : List ℕ
signed = 0x01 ∷ 0x41 ∷ 0x01 ∷ 0x00 ∷ 0x00 ∷ 0x02 ∷ 0x24 ∷ 0x00 ∷ 0x0b ∷ 0x0b ∷ 0x00 ∷ 0x00 ∷ 0x03 ∷ 0x11 ∷ 0x00 ∷ 0x49 ∷ 0x20 ∷ 0x00 ∷ 0x00 ∷ 0x00 ∷ []

abbrev type_unit : List ℕ
type_unit = 0x18 ∷ 0x00 ∷ 0x00 ∷ 0x00 ∷ 0x05 ∷ 0x00 ∷ 0x02 ∷ 0x08 ∷ 0x00 ∷ 0x00 ∷ 0x00 ∷ 0x00 ∷ 0x88 ∷ 0x77 ∷ 0x66 ∷ 0x55 ∷ 0x44 ∷ 0x33 ∷ 0x22 ∷ 0x11 ∷ 0x19 ∷ 0x00 ∷ 0x00 ∷ 0x00 ∷ 0x01 ∷ 0x02 ∷ 0x04 ∷ 0x00 ∷ []

abbrev names_type : List ℕ
names_type = 0x11 ∷ 0x00 ∷ 0x00 ∷ 0x00 ∷ 0x05 ∷ 0x00 ∷ 0x01 ∷ 0x08 ∷ 0x00 ∷ 0x00 ∷ 0x00 ∷ 0x00 ∷ 0x03 ∷ 0x88 ∷ 0x77 ∷ 0x66 ∷ 0x55 ∷ 0x44 ∷ 0x33 ∷ 0x22 ∷ 0x11 ∷ []

by_signature : shown Five signed (type_unit ++ names_type) ≡ Some (codes "unit 0x0 type 32 size 28 abbrev 0x0 addr 8 signature 0x1122334455667788 type 0x19\n<1> 0x18 DW_TAG_type_unit\n<2> 0x19 DW_TAG_base_type\n  DW_AT_byte_size 0x4\nunit 0x1c compile 32 size 21 abbrev 0x0 addr 8\n<1> 0x28 DW_TAG_compile_unit\n  DW_AT_type 0x1122334455667788 -> 0x19\n")
unfolding shape attribute shaped children read_attribute read_table read_table_at read_fields read_children read_tree read_unit_under nesting tree_bytes read_section read_item digits
by_signature = refl

without_type_unit : shown Five signed names_type ≡ Some (codes "unit 0x0 compile 32 size 21 abbrev 0x0 addr 8\n<1> 0xc DW_TAG_compile_unit\n  DW_AT_type 0x1122334455667788 -> NoSignature\n")
unfolding shape attribute shaped children read_attribute read_table read_table_at read_fields read_children read_tree read_unit_under nesting tree_bytes read_section read_item digits
without_type_unit = refl

-- ---- texts

abbrev one_name : List ℕ
one_name = 0x01 ∷ 0x11 ∷ 0x00 ∷ 0x03 ∷ 0x0e ∷ 0x00 ∷ 0x00 ∷ 0x00 ∷ []

abbrev at_offset : ℕ → List ℕ
at_offset v = 0x0d ∷ 0x00 ∷ 0x00 ∷ 0x00 ∷ 0x05 ∷ 0x00 ∷ 0x01 ∷ 0x08 ∷ 0x00 ∷ 0x00 ∷ 0x00 ∷ 0x00 ∷ 0x01 ∷ v ∷ 0x00 ∷ 0x00 ∷ 0x00 ∷ []

abbrev a_b : StringSections
a_b = strings (0x61 ∷ 0x00 ∷ 0x62 ∷ 0x00 ∷ []) [] []

abbrev first_lines : List ℕ
first_lines = codes "unit 0x0 compile 32 size 17 abbrev 0x0 addr 8\n<1> 0xc DW_TAG_compile_unit\n  DW_AT_name "

by_offset : shown_over a_b one_name (at_offset 2) ≡ Some (first_lines ++ codes "0x2 \"b\"\n")
unfolding shape attribute shaped children read_attribute read_table read_table_at read_fields read_children read_tree read_unit_under nesting tree_bytes read_section read_item digits
by_offset = refl

empty_text : shown_over a_b one_name (at_offset 3) ≡ Some (first_lines ++ codes "0x3 \"\"\n")
unfolding shape attribute shaped children read_attribute read_table read_table_at read_fields read_children read_tree read_unit_under nesting tree_bytes read_section read_item digits
empty_text = refl

past_the_texts : shown_over a_b one_name (at_offset 4) ≡ Some (first_lines ++ codes "0x4 PastSection\n")
unfolding shape attribute shaped children read_attribute read_table read_table_at read_fields read_children read_tree read_unit_under nesting tree_bytes read_section read_item digits
past_the_texts = refl

abbrev indexed : List ℕ
indexed = 0x01 ∷ 0x11 ∷ 0x00 ∷ 0x72 ∷ 0x17 ∷ 0x03 ∷ 0x25 ∷ 0x00 ∷ 0x00 ∷ 0x00 ∷ []

abbrev by_index : ℕ → List ℕ
by_index index = 0x0e ∷ 0x00 ∷ 0x00 ∷ 0x00 ∷ 0x05 ∷ 0x00 ∷ 0x01 ∷ 0x08 ∷ 0x00 ∷ 0x00 ∷ 0x00 ∷ 0x00 ∷ 0x01 ∷ 0x08 ∷ 0x00 ∷ 0x00 ∷ 0x00 ∷ index ∷ []

abbrev table_of_offsets : StringSections
table_of_offsets = strings (0x61 ∷ 0x62 ∷ 0x00 ∷ 0x63 ∷ 0x00 ∷ []) [] (0x0c ∷ 0x00 ∷ 0x00 ∷ 0x00 ∷ 0x05 ∷ 0x00 ∷ 0x00 ∷ 0x00 ∷ 0x00 ∷ 0x00 ∷ 0x00 ∷ 0x00 ∷ 0x03 ∷ 0x00 ∷ 0x00 ∷ 0x00 ∷ [])

abbrev base_lines : List ℕ
base_lines = codes "unit 0x0 compile 32 size 18 abbrev 0x0 addr 8\n<1> 0xc DW_TAG_compile_unit\n  DW_AT_str_offsets_base 0x8\n  DW_AT_name "

second_index : shown_over table_of_offsets indexed (by_index 1) ≡ Some (base_lines ++ codes "0x1 \"c\"\n")
unfolding shape attribute shaped children read_attribute read_table read_table_at read_fields read_children read_tree read_unit_under nesting tree_bytes read_section read_item digits
second_index = refl

third_index : shown_over table_of_offsets indexed (by_index 2) ≡ Some (base_lines ++ codes "0x2 PastOffsets\n")
unfolding shape attribute shaped children read_attribute read_table read_table_at read_fields read_children read_tree read_unit_under nesting tree_bytes read_section read_item digits
third_index = refl

-- ---- entries of a name

named_a : found (codes "a") two_tables fifteen ≡ Some (codes "0xc DW_TAG_compile_unit\n")
unfolding shape attribute shaped children read_attribute read_table read_table_at read_fields read_children read_tree read_unit_under nesting tree_bytes read_section read_item digits
named_a = refl

none_named_b : found (codes "b") two_tables fifteen ≡ Some []
unfolding shape attribute shaped children read_attribute read_table read_table_at read_fields read_children read_tree read_unit_under nesting tree_bytes read_section read_item digits
none_named_b = refl

named_twice : found (codes "a") two_tables (fifteen ++ fifteen) ≡ Some (codes "0xc DW_TAG_compile_unit\n0x1b DW_TAG_compile_unit\n")
unfolding shape attribute shaped children read_attribute read_table read_table_at read_fields read_children read_tree read_unit_under nesting tree_bytes read_section read_item digits
named_twice = refl

abbrev two_names : List ℕ
two_names = 0x01 ∷ 0x24 ∷ 0x00 ∷ 0x03 ∷ 0x08 ∷ 0x03 ∷ 0x08 ∷ 0x00 ∷ 0x00 ∷ 0x00 ∷ []

abbrev a_then_b : List ℕ
a_then_b = 0x0d ∷ 0x00 ∷ 0x00 ∷ 0x00 ∷ 0x05 ∷ 0x00 ∷ 0x01 ∷ 0x08 ∷ 0x00 ∷ 0x00 ∷ 0x00 ∷ 0x00 ∷ 0x01 ∷ 0x61 ∷ 0x00 ∷ 0x62 ∷ 0x00 ∷ []

first_name : found (codes "a") two_names a_then_b ≡ Some (codes "0xc DW_TAG_base_type\n")
unfolding shape attribute shaped children read_attribute read_table read_table_at read_fields read_children read_tree read_unit_under nesting tree_bytes read_section read_item digits
first_name = refl

no_later_name : found (codes "b") two_names a_then_b ≡ Some []
unfolding shape attribute shaped children read_attribute read_table read_table_at read_fields read_children read_tree read_unit_under nesting tree_bytes read_section read_item digits
no_later_name = refl
