-- Worked rows: what text forms name, in units that the plain reader reads.
use Rattle.std.specs.Prelude.{ℕ, ◌≡◌, List, ◌∷◌, [], Option, Some, None, Ok, Err}
use Rattle.std.proofs.Common.{refl}
use Rattle.dw_leb.specs.declared.order.Order.TheVariants.{Little, Big}
use Rattle.dw_form.specs.Form.{shape, attribute, shaped}
use Rattle.dw_form.specs.ReadForm.{read_attribute}
use Rattle.dw_abbrev.specs.ReadTable.{read_table, read_table_at}
use Rattle.dw_header.specs.declared.versions.Versions.TheVariants.{Five}
use Rattle.dw_header.specs.ReadHeader.{read_fields}
use Rattle.dw_tree.specs.Tree.{children, nesting}
use Rattle.dw_tree.specs.Spelling.{tree_bytes}
use Rattle.dw_tree.specs.ReadTree.{read_children, read_tree}
use Rattle.dw_tree.specs.Lent.{EntryAt, LentAttribute, attributes_of, first_named}
use Rattle.dw_unit.specs.ReadUnit.{read_unit_under}
use Rattle.dw_unit.specs.Unit.{WholeUnit}
use Rattle.dw_section.specs.ReadSection.{SectionAnswer, Items, Fails, read_item, read_section}
use Rattle.dw_section.specs.Lookup.{unit_at, entry}
use Rattle.dw_strings.specs.declared.fault.StrFault.TheVariants.{NotText, PastSection, NoZero, NoBase, PastOffsets, Supplementary}
use Rattle.dw_strings.specs.Text.{StringSections, Named, named_text}

abbrev strings : List ℕ → List ℕ → List ℕ → StringSections
strings str line_str str_offsets = record { str = str; line_str = line_str; str_offsets = str_offsets }

abbrev named_if : StringSections → Option WholeUnit → Option LentAttribute → Option Named
named_if s None a = None
named_if s (Some u) None = None
named_if s (Some u) (Some a) = Some (named_text s u a.form a.attr.value)

-- the first attribute of the name DW_AT_name
abbrev name_of : Option EntryAt → Option LentAttribute
name_of None = None
name_of (Some e) = first_named 3 (attributes_of e)

abbrev name_in : StringSections → SectionAnswer → ℕ → Option Named
name_in s (Items items) offset = named_if s (unit_at items 0) (name_of (entry items (record { item = 0; offset = offset })))
name_in s (Fails section offset reason) at = None

-- what the name of the root of a unit names, which stands at 12
abbrev name : StringSections → List ℕ → List ℕ → Option Named
name s table bytes = name_in s (read_section Five Little table bytes) 12

-- ---- at an offset

abbrev one_name : ℕ → List ℕ
one_name form = 0x01 ∷ 0x11 ∷ 0x00 ∷ 0x03 ∷ form ∷ 0x00 ∷ 0x00 ∷ 0x00 ∷ []

abbrev at_offset : ℕ → List ℕ
at_offset v = 0x0d ∷ 0x00 ∷ 0x00 ∷ 0x00 ∷ 0x05 ∷ 0x00 ∷ 0x01 ∷ 0x08 ∷ 0x00 ∷ 0x00 ∷ 0x00 ∷ 0x00 ∷ 0x01 ∷ v ∷ 0x00 ∷ 0x00 ∷ 0x00 ∷ []

abbrev a_b : List ℕ
a_b = 0x61 ∷ 0x00 ∷ 0x62 ∷ 0x00 ∷ []

strp : name (strings a_b [] []) (one_name 0x0e) (at_offset 2) ≡ Some (Ok (0x62 ∷ []))
unfolding shape attribute shaped children read_attribute read_table read_table_at read_fields read_children read_tree read_unit_under nesting tree_bytes read_section read_item
strp = refl

strp_empty : name (strings a_b [] []) (one_name 0x0e) (at_offset 3) ≡ Some (Ok [])
unfolding shape attribute shaped children read_attribute read_table read_table_at read_fields read_children read_tree read_unit_under nesting tree_bytes read_section read_item
strp_empty = refl

strp_past : name (strings a_b [] []) (one_name 0x0e) (at_offset 4) ≡ Some (Err PastSection)
unfolding shape attribute shaped children read_attribute read_table read_table_at read_fields read_children read_tree read_unit_under nesting tree_bytes read_section read_item
strp_past = refl

line_strp : name (strings [] a_b []) (one_name 0x1f) (at_offset 2) ≡ Some (Ok (0x62 ∷ []))
unfolding shape attribute shaped children read_attribute read_table read_table_at read_fields read_children read_tree read_unit_under nesting tree_bytes read_section read_item
line_strp = refl

line_strp_empty : name (strings [] a_b []) (one_name 0x1f) (at_offset 3) ≡ Some (Ok [])
unfolding shape attribute shaped children read_attribute read_table read_table_at read_fields read_children read_tree read_unit_under nesting tree_bytes read_section read_item
line_strp_empty = refl

line_strp_past : name (strings [] a_b []) (one_name 0x1f) (at_offset 4) ≡ Some (Err PastSection)
unfolding shape attribute shaped children read_attribute read_table read_table_at read_fields read_children read_tree read_unit_under nesting tree_bytes read_section read_item
line_strp_past = refl

other_section : name (strings [] a_b []) (one_name 0x0e) (at_offset 2) ≡ Some (Err PastSection)
unfolding shape attribute shaped children read_attribute read_table read_table_at read_fields read_children read_tree read_unit_under nesting tree_bytes read_section read_item
other_section = refl

strp_sup : name (strings a_b [] []) (one_name 0x1d) (at_offset 2) ≡ Some (Err Supplementary)
unfolding shape attribute shaped children read_attribute read_table read_table_at read_fields read_children read_tree read_unit_under nesting tree_bytes read_section read_item
strp_sup = refl

gnu_strp_alt : name (strings a_b [] []) (0x01 ∷ 0x11 ∷ 0x00 ∷ 0x03 ∷ 0xa1 ∷ 0x3e ∷ 0x00 ∷ 0x00 ∷ 0x00 ∷ []) (at_offset 2) ≡ Some (Err Supplementary)
unfolding shape attribute shaped children read_attribute read_table read_table_at read_fields read_children read_tree read_unit_under nesting tree_bytes read_section read_item
gnu_strp_alt = refl

-- data4
no_text : name (strings a_b [] []) (one_name 0x06) (at_offset 2) ≡ Some (Err NotText)
unfolding shape attribute shaped children read_attribute read_table read_table_at read_fields read_children read_tree read_unit_under nesting tree_bytes read_section read_item
no_text = refl

string : name (strings [] [] []) (one_name 0x08) (0x0b ∷ 0x00 ∷ 0x00 ∷ 0x00 ∷ 0x05 ∷ 0x00 ∷ 0x01 ∷ 0x08 ∷ 0x00 ∷ 0x00 ∷ 0x00 ∷ 0x00 ∷ 0x01 ∷ 0x61 ∷ 0x00 ∷ []) ≡ Some (Ok (0x61 ∷ []))
unfolding shape attribute shaped children read_attribute read_table read_table_at read_fields read_children read_tree read_unit_under nesting tree_bytes read_section read_item
string = refl

-- ---- by an index

-- DW_AT_str_offsets_base in a form, and DW_AT_name as strx1
abbrev base_and_name : ℕ → List ℕ
base_and_name form = 0x01 ∷ 0x11 ∷ 0x00 ∷ 0x72 ∷ form ∷ 0x03 ∷ 0x25 ∷ 0x00 ∷ 0x00 ∷ 0x00 ∷ []

-- with the base 8
abbrev with_index : ℕ → List ℕ
with_index v = 0x0e ∷ 0x00 ∷ 0x00 ∷ 0x00 ∷ 0x05 ∷ 0x00 ∷ 0x01 ∷ 0x08 ∷ 0x00 ∷ 0x00 ∷ 0x00 ∷ 0x00 ∷ 0x01 ∷ 0x08 ∷ 0x00 ∷ 0x00 ∷ 0x00 ∷ v ∷ []

-- entries begin at 8: 0 and 3
abbrev offsets : List ℕ
offsets = 0x0c ∷ 0x00 ∷ 0x00 ∷ 0x00 ∷ 0x05 ∷ 0x00 ∷ 0x00 ∷ 0x00 ∷ 0x00 ∷ 0x00 ∷ 0x00 ∷ 0x00 ∷ 0x03 ∷ 0x00 ∷ 0x00 ∷ 0x00 ∷ []

abbrev ab_c : List ℕ
ab_c = 0x61 ∷ 0x62 ∷ 0x00 ∷ 0x63 ∷ 0x00 ∷ []

abbrev indexed : List ℕ → ℕ → Option Named
indexed str v = name (strings str [] offsets) (base_and_name 0x17) (with_index v)

index_one : indexed ab_c 1 ≡ Some (Ok (0x63 ∷ []))
unfolding shape attribute shaped children read_attribute read_table read_table_at read_fields read_children read_tree read_unit_under nesting tree_bytes read_section read_item
index_one = refl

index_zero : indexed ab_c 0 ≡ Some (Ok (0x61 ∷ 0x62 ∷ []))
unfolding shape attribute shaped children read_attribute read_table read_table_at read_fields read_children read_tree read_unit_under nesting tree_bytes read_section read_item
index_zero = refl

index_two : indexed ab_c 2 ≡ Some (Err PastOffsets)
unfolding shape attribute shaped children read_attribute read_table read_table_at read_fields read_children read_tree read_unit_under nesting tree_bytes read_section read_item
index_two = refl

without_str : indexed [] 1 ≡ Some (Err PastSection)
unfolding shape attribute shaped children read_attribute read_table read_table_at read_fields read_children read_tree read_unit_under nesting tree_bytes read_section read_item
without_str = refl

without_zero : indexed (0x61 ∷ 0x62 ∷ 0x00 ∷ 0x63 ∷ []) 1 ≡ Some (Err NoZero)
unfolding shape attribute shaped children read_attribute read_table read_table_at read_fields read_children read_tree read_unit_under nesting tree_bytes read_section read_item
without_zero = refl

-- past the offsets, whatever there is of .debug_str
offsets_first : indexed [] 2 ≡ Some (Err PastOffsets)
unfolding shape attribute shaped children read_attribute read_table read_table_at read_fields read_children read_tree read_unit_under nesting tree_bytes read_section read_item
offsets_first = refl

-- three of the four bytes are there
cut_entry : name (strings ab_c [] (0x0c ∷ 0x00 ∷ 0x00 ∷ 0x00 ∷ 0x05 ∷ 0x00 ∷ 0x00 ∷ 0x00 ∷ 0x00 ∷ 0x00 ∷ 0x00 ∷ 0x00 ∷ 0x03 ∷ 0x00 ∷ 0x00 ∷ [])) (base_and_name 0x17) (with_index 1) ≡ Some (Err PastOffsets)
unfolding shape attribute shaped children read_attribute read_table read_table_at read_fields read_children read_tree read_unit_under nesting tree_bytes read_section read_item
cut_entry = refl

no_base : name (strings ab_c [] offsets) (one_name 0x25) (0x0a ∷ 0x00 ∷ 0x00 ∷ 0x00 ∷ 0x05 ∷ 0x00 ∷ 0x01 ∷ 0x08 ∷ 0x00 ∷ 0x00 ∷ 0x00 ∷ 0x00 ∷ 0x01 ∷ 0x00 ∷ []) ≡ Some (Err NoBase)
unfolding shape attribute shaped children read_attribute read_table read_table_at read_fields read_children read_tree read_unit_under nesting tree_bytes read_section read_item
no_base = refl

-- base 2 ^ 64 - 1, index 1, entries of 4 bytes: place 2 ^ 64 + 3
nothing_wraps : name (strings ab_c [] offsets) (base_and_name 0x07) (0x12 ∷ 0x00 ∷ 0x00 ∷ 0x00 ∷ 0x05 ∷ 0x00 ∷ 0x01 ∷ 0x08 ∷ 0x00 ∷ 0x00 ∷ 0x00 ∷ 0x00 ∷ 0x01 ∷ 0xff ∷ 0xff ∷ 0xff ∷ 0xff ∷ 0xff ∷ 0xff ∷ 0xff ∷ 0xff ∷ 0x01 ∷ []) ≡ Some (Err PastOffsets)
unfolding shape attribute shaped children read_attribute read_table read_table_at read_fields read_children read_tree read_unit_under nesting tree_bytes read_section read_item
nothing_wraps = refl

-- a base as unsigned LEB128, in two bytes
base_uleb : name (strings ab_c [] offsets) (base_and_name 0x0f) (0x0c ∷ 0x00 ∷ 0x00 ∷ 0x00 ∷ 0x05 ∷ 0x00 ∷ 0x01 ∷ 0x08 ∷ 0x00 ∷ 0x00 ∷ 0x00 ∷ 0x00 ∷ 0x01 ∷ 0x88 ∷ 0x00 ∷ 0x01 ∷ []) ≡ Some (Ok (0x63 ∷ []))
unfolding shape attribute shaped children read_attribute read_table read_table_at read_fields read_children read_tree read_unit_under nesting tree_bytes read_section read_item
base_uleb = refl

-- data16 is no base
base_of_sixteen_bytes : name (strings ab_c [] offsets) (base_and_name 0x1e) (0x1a ∷ 0x00 ∷ 0x00 ∷ 0x00 ∷ 0x05 ∷ 0x00 ∷ 0x01 ∷ 0x08 ∷ 0x00 ∷ 0x00 ∷ 0x00 ∷ 0x00 ∷ 0x01 ∷ 0x08 ∷ 0x00 ∷ 0x00 ∷ 0x00 ∷ 0x00 ∷ 0x00 ∷ 0x00 ∷ 0x00 ∷ 0x00 ∷ 0x00 ∷ 0x00 ∷ 0x00 ∷ 0x00 ∷ 0x00 ∷ 0x00 ∷ 0x00 ∷ 0x01 ∷ []) ≡ Some (Err NoBase)
unfolding shape attribute shaped children read_attribute read_table read_table_at read_fields read_children read_tree read_unit_under nesting tree_bytes read_section read_item
base_of_sixteen_bytes = refl

-- two bases: the first one counts
first_of_two_bases : name (strings ab_c [] offsets) (0x01 ∷ 0x11 ∷ 0x00 ∷ 0x72 ∷ 0x0b ∷ 0x72 ∷ 0x0b ∷ 0x03 ∷ 0x25 ∷ 0x00 ∷ 0x00 ∷ 0x00 ∷ []) (0x0c ∷ 0x00 ∷ 0x00 ∷ 0x00 ∷ 0x05 ∷ 0x00 ∷ 0x01 ∷ 0x08 ∷ 0x00 ∷ 0x00 ∷ 0x00 ∷ 0x00 ∷ 0x01 ∷ 0x08 ∷ 0x0c ∷ 0x00 ∷ []) ≡ Some (Ok (0x61 ∷ 0x62 ∷ []))
unfolding shape attribute shaped children read_attribute read_table read_table_at read_fields read_children read_tree read_unit_under nesting tree_bytes read_section read_item
first_of_two_bases = refl

-- a base of the entry itself, at 14, does not count
base_of_the_root : name_in (strings ab_c [] offsets) (read_section Five Little (0x01 ∷ 0x11 ∷ 0x01 ∷ 0x72 ∷ 0x0b ∷ 0x00 ∷ 0x00 ∷ 0x02 ∷ 0x34 ∷ 0x00 ∷ 0x72 ∷ 0x0b ∷ 0x03 ∷ 0x25 ∷ 0x00 ∷ 0x00 ∷ 0x00 ∷ []) (0x0e ∷ 0x00 ∷ 0x00 ∷ 0x00 ∷ 0x05 ∷ 0x00 ∷ 0x01 ∷ 0x08 ∷ 0x00 ∷ 0x00 ∷ 0x00 ∷ 0x00 ∷ 0x01 ∷ 0x08 ∷ 0x02 ∷ 0x0c ∷ 0x00 ∷ 0x00 ∷ [])) 14 ≡ Some (Ok (0x61 ∷ 0x62 ∷ []))
unfolding shape attribute shaped children read_attribute read_table read_table_at read_fields read_children read_tree read_unit_under nesting tree_bytes read_section read_item
base_of_the_root = refl

-- strx under the form indirect
index_in_an_indirect_value : name (strings ab_c [] offsets) (0x01 ∷ 0x11 ∷ 0x00 ∷ 0x72 ∷ 0x17 ∷ 0x03 ∷ 0x16 ∷ 0x00 ∷ 0x00 ∷ 0x00 ∷ []) (0x0f ∷ 0x00 ∷ 0x00 ∷ 0x00 ∷ 0x05 ∷ 0x00 ∷ 0x01 ∷ 0x08 ∷ 0x00 ∷ 0x00 ∷ 0x00 ∷ 0x00 ∷ 0x01 ∷ 0x08 ∷ 0x00 ∷ 0x00 ∷ 0x00 ∷ 0x1a ∷ 0x01 ∷ []) ≡ Some (Ok (0x63 ∷ []))
unfolding shape attribute shaped children read_attribute read_table read_table_at read_fields read_children read_tree read_unit_under nesting tree_bytes read_section read_item
index_in_an_indirect_value = refl

index_in_a_big_unit : name_in (strings ab_c [] (0x00 ∷ 0x00 ∷ 0x00 ∷ 0x0c ∷ 0x00 ∷ 0x05 ∷ 0x00 ∷ 0x00 ∷ 0x00 ∷ 0x00 ∷ 0x00 ∷ 0x00 ∷ 0x00 ∷ 0x00 ∷ 0x00 ∷ 0x03 ∷ [])) (read_section Five Big (base_and_name 0x17) (0x00 ∷ 0x00 ∷ 0x00 ∷ 0x0e ∷ 0x00 ∷ 0x05 ∷ 0x01 ∷ 0x08 ∷ 0x00 ∷ 0x00 ∷ 0x00 ∷ 0x00 ∷ 0x01 ∷ 0x00 ∷ 0x00 ∷ 0x00 ∷ 0x08 ∷ 0x01 ∷ [])) 12 ≡ Some (Ok (0x63 ∷ []))
unfolding shape attribute shaped children read_attribute read_table read_table_at read_fields read_children read_tree read_unit_under nesting tree_bytes read_section read_item
index_in_a_big_unit = refl

-- entries of 8 bytes begin at 16; the root stands at 24
index_in_a_unit_of_64_bits : name_in (strings ab_c [] (0xff ∷ 0xff ∷ 0xff ∷ 0xff ∷ 0x14 ∷ 0x00 ∷ 0x00 ∷ 0x00 ∷ 0x00 ∷ 0x00 ∷ 0x00 ∷ 0x00 ∷ 0x05 ∷ 0x00 ∷ 0x00 ∷ 0x00 ∷ 0x00 ∷ 0x00 ∷ 0x00 ∷ 0x00 ∷ 0x00 ∷ 0x00 ∷ 0x00 ∷ 0x00 ∷ 0x03 ∷ 0x00 ∷ 0x00 ∷ 0x00 ∷ 0x00 ∷ 0x00 ∷ 0x00 ∷ 0x00 ∷ [])) (read_section Five Little (0x01 ∷ 0x11 ∷ 0x00 ∷ 0x72 ∷ 0x17 ∷ 0x03 ∷ 0x1a ∷ 0x00 ∷ 0x00 ∷ 0x00 ∷ []) (0xff ∷ 0xff ∷ 0xff ∷ 0xff ∷ 0x16 ∷ 0x00 ∷ 0x00 ∷ 0x00 ∷ 0x00 ∷ 0x00 ∷ 0x00 ∷ 0x00 ∷ 0x05 ∷ 0x00 ∷ 0x01 ∷ 0x08 ∷ 0x00 ∷ 0x00 ∷ 0x00 ∷ 0x00 ∷ 0x00 ∷ 0x00 ∷ 0x00 ∷ 0x00 ∷ 0x01 ∷ 0x10 ∷ 0x00 ∷ 0x00 ∷ 0x00 ∷ 0x00 ∷ 0x00 ∷ 0x00 ∷ 0x00 ∷ 0x01 ∷ [])) 24 ≡ Some (Ok (0x63 ∷ []))
unfolding shape attribute shaped children read_attribute read_table read_table_at read_fields read_children read_tree read_unit_under nesting tree_bytes read_section read_item
index_in_a_unit_of_64_bits = refl
