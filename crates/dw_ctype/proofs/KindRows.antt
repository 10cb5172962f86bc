-- Worked rows: the kinds of entries, dimensions, and arrays behind pointers.
use Rattle.std.specs.Prelude.{ℕ, ◌≡◌, List, ◌∷◌, [], Some, codes}
use Rattle.std.proofs.Common.{refl}
use Rattle.std.specs.Fmt.{digits}
use Rattle.dw_leb.specs.declared.order.Order.TheVariants.{Little}
use Rattle.dw_form.specs.Form.{shape, attribute, shaped}
use Rattle.dw_form.specs.ReadForm.{read_attribute}
use Rattle.dw_abbrev.specs.ReadTable.{read_table, read_table_at}
use Rattle.dw_header.specs.declared.versions.Versions.TheVariants.{Five}
use Rattle.dw_header.specs.ReadHeader.{read_fields}
use Rattle.dw_tree.specs.Tree.{children, nesting}
use Rattle.dw_tree.specs.Spelling.{tree_bytes}
use Rattle.dw_tree.specs.ReadTree.{read_children, read_tree}
use Rattle.dw_unit.specs.ReadUnit.{read_unit_under}
use Rattle.dw_section.specs.ReadSection.{SectionAnswer, read_item, read_section}
use Rattle.dw_ctype.proofs.TypeRows.{text_in, visits_in}

-- ---- arrays by upper bounds and by counts, and a pointer to a constant one

abbrev arrays_table : List ℕ
arrays_table = 0x01 ∷ 0x11 ∷ 0x01 ∷ 0x00 ∷ 0x00 ∷ 0x02 ∷ 0x24 ∷ 0x00 ∷ 0x03 ∷ 0x08 ∷ 0x00 ∷ 0x00 ∷ 0x03 ∷ 0x01 ∷ 0x01 ∷ 0x49 ∷ 0x11 ∷ 0x00 ∷ 0x00 ∷ 0x04 ∷ 0x21 ∷ 0x00 ∷ 0x2f ∷ 0x0b ∷ 0x00 ∷ 0x00 ∷ 0x05 ∷ 0x21 ∷ 0x00 ∷ 0x37 ∷ 0x0b ∷ 0x00 ∷ 0x00 ∷ 0x06 ∷ 0x26 ∷ 0x00 ∷ 0x49 ∷ 0x11 ∷ 0x00 ∷ 0x00 ∷ 0x07 ∷ 0x0f ∷ 0x00 ∷ 0x49 ∷ 0x11 ∷ 0x00 ∷ 0x00 ∷ 0x08 ∷ 0x34 ∷ 0x00 ∷ 0x03 ∷ 0x08 ∷ 0x49 ∷ 0x11 ∷ 0x00 ∷ 0x00 ∷ 0x00 ∷ []

abbrev arrays_unit : List ℕ
arrays_unit = 0x32 ∷ 0x00 ∷ 0x00 ∷ 0x00 ∷ 0x05 ∷ 0x00 ∷ 0x01 ∷ 0x08 ∷ 0x00 ∷ 0x00 ∷ 0x00 ∷ 0x00 ∷ 0x01 ∷ 0x02 ∷ 0x69 ∷ 0x6e ∷ 0x74 ∷ 0x00 ∷ 0x03 ∷ 0x0d ∷ 0x04 ∷ 0x01 ∷ 0x04 ∷ 0x02 ∷ 0x00 ∷ 0x03 ∷ 0x0d ∷ 0x05 ∷ 0x02 ∷ 0x05 ∷ 0x03 ∷ 0x00 ∷ 0x03 ∷ 0x0d ∷ 0x05 ∷ 0x03 ∷ 0x00 ∷ 0x06 ∷ 0x20 ∷ 0x07 ∷ 0x25 ∷ 0x08 ∷ 0x61 ∷ 0x00 ∷ 0x12 ∷ 0x08 ∷ 0x61 ∷ 0x00 ∷ 0x19 ∷ 0x08 ∷ 0x70 ∷ 0x00 ∷ 0x27 ∷ 0x00 ∷ []

abbrev arrays : SectionAnswer
arrays = read_section Five Little arrays_table arrays_unit

by_bounds : text_in arrays 41 (codes "a") ≡ Some (codes "int a[2][3]")
unfolding shape attribute shaped children read_attribute read_table read_table_at read_fields read_children read_tree read_unit_under nesting tree_bytes read_section read_item digits
by_bounds = refl

by_counts : text_in arrays 45 (codes "a") ≡ Some (codes "int a[2][3]")
unfolding shape attribute shaped children read_attribute read_table read_table_at read_fields read_children read_tree read_unit_under nesting tree_bytes read_section read_item digits
by_counts = refl

pointer_to_array : text_in arrays 49 (codes "p") ≡ Some (codes "const int (*p)[3]")
unfolding shape attribute shaped children read_attribute read_table read_table_at read_fields read_children read_tree read_unit_under nesting tree_bytes read_section read_item digits
pointer_to_array = refl

pointer_to_array_visits : visits_in arrays 49 ≡ Some 4
unfolding shape attribute shaped children read_attribute read_table read_table_at read_fields read_children read_tree read_unit_under nesting tree_bytes read_section read_item digits
pointer_to_array_visits = refl

-- ---- dimensions: udata; sdata of -1 and -2; a negative count; a count and a bound; implicit_const; data16 and a bound; neither; data8; two bounds; data4; no subrange; an expression

abbrev dimensions_table : List ℕ
dimensions_table = 0x01 ∷ 0x11 ∷ 0x01 ∷ 0x00 ∷ 0x00 ∷ 0x02 ∷ 0x24 ∷ 0x00 ∷ 0x03 ∷ 0x08 ∷ 0x00 ∷ 0x00 ∷ 0x03 ∷ 0x01 ∷ 0x01 ∷ 0x49 ∷ 0x11 ∷ 0x00 ∷ 0x00 ∷ 0x04 ∷ 0x21 ∷ 0x00 ∷ 0x2f ∷ 0x0f ∷ 0x00 ∷ 0x00 ∷ 0x05 ∷ 0x21 ∷ 0x00 ∷ 0x2f ∷ 0x0d ∷ 0x00 ∷ 0x00 ∷ 0x06 ∷ 0x21 ∷ 0x00 ∷ 0x37 ∷ 0x0d ∷ 0x2f ∷ 0x0b ∷ 0x00 ∷ 0x00 ∷ 0x07 ∷ 0x21 ∷ 0x00 ∷ 0x2f ∷ 0x21 ∷ 0x04 ∷ 0x00 ∷ 0x00 ∷ 0x08 ∷ 0x21 ∷ 0x00 ∷ 0x37 ∷ 0x1e ∷ 0x2f ∷ 0x05 ∷ 0x00 ∷ 0x00 ∷ 0x09 ∷ 0x21 ∷ 0x00 ∷ 0x00 ∷ 0x00 ∷ 0x0a ∷ 0x21 ∷ 0x00 ∷ 0x2f ∷ 0x07 ∷ 0x00 ∷ 0x00 ∷ 0x0b ∷ 0x21 ∷ 0x00 ∷ 0x2f ∷ 0x0b ∷ 0x2f ∷ 0x0b ∷ 0x00 ∷ 0x00 ∷ 0x0c ∷ 0x21 ∷ 0x00 ∷ 0x2f ∷ 0x06 ∷ 0x00 ∷ 0x00 ∷ 0x0d ∷ 0x0d ∷ 0x00 ∷ 0x00 ∷ 0x00 ∷ 0x0e ∷ 0x01 ∷ 0x00 ∷ 0x49 ∷ 0x11 ∷ 0x00 ∷ 0x00 ∷ 0x0f ∷ 0x21 ∷ 0x00 ∷ 0x2f ∷ 0x18 ∷ 0x00 ∷ 0x00 ∷ 0x00 ∷ []

abbrev dimensions_unit : List ℕ
dimensions_unit = 0x49 ∷ 0x00 ∷ 0x00 ∷ 0x00 ∷ 0x05 ∷ 0x00 ∷ 0x01 ∷ 0x08 ∷ 0x00 ∷ 0x00 ∷ 0x00 ∷ 0x00 ∷ 0x01 ∷ 0x02 ∷ 0x69 ∷ 0x00 ∷ 0x03 ∷ 0x0d ∷ 0x04 ∷ 0xff ∷ 0x01 ∷ 0x05 ∷ 0x7f ∷ 0x05 ∷ 0x7e ∷ 0x06 ∷ 0x7f ∷ 0x05 ∷ 0x06 ∷ 0x03 ∷ 0x05 ∷ 0x07 ∷ 0x08 ∷ 0x09 ∷ 0x00 ∷ 0x00 ∷ 0x00 ∷ 0x00 ∷ 0x00 ∷ 0x00 ∷ 0x00 ∷ 0x00 ∷ 0x00 ∷ 0x00 ∷ 0x00 ∷ 0x00 ∷ 0x00 ∷ 0x00 ∷ 0x00 ∷ 0xff ∷ 0x00 ∷ 0x09 ∷ 0x0a ∷ 0xff ∷ 0xff ∷ 0xff ∷ 0xff ∷ 0xff ∷ 0xff ∷ 0xff ∷ 0xff ∷ 0x0b ∷ 0x01 ∷ 0x09 ∷ 0x0c ∷ 0x00 ∷ 0x00 ∷ 0x01 ∷ 0x00 ∷ 0x0d ∷ 0x0f ∷ 0x01 ∷ 0x00 ∷ 0x00 ∷ 0x0e ∷ 0x0d ∷ 0x00 ∷ []

abbrev dimensions : SectionAnswer
dimensions = read_section Five Little dimensions_table dimensions_unit

all_dimensions : text_in dimensions 16 (codes "a") ≡ Some (codes "i a[256][0][][][3][5][256][][18446744073709551616][2][65537][]")
unfolding shape attribute shaped children read_attribute read_table read_table_at read_fields read_children read_tree read_unit_under nesting tree_bytes read_section read_item digits
all_dimensions = refl

-- ---- kinds, and names that are missing or empty

abbrev kinds_table : List ℕ
kinds_table = 0x01 ∷ 0x11 ∷ 0x01 ∷ 0x00 ∷ 0x00 ∷ 0x02 ∷ 0x13 ∷ 0x00 ∷ 0x03 ∷ 0x08 ∷ 0x00 ∷ 0x00 ∷ 0x03 ∷ 0x13 ∷ 0x00 ∷ 0x00 ∷ 0x00 ∷ 0x04 ∷ 0x17 ∷ 0x00 ∷ 0x00 ∷ 0x00 ∷ 0x05 ∷ 0x04 ∷ 0x00 ∷ 0x03 ∷ 0x08 ∷ 0x00 ∷ 0x00 ∷ 0x06 ∷ 0x02 ∷ 0x00 ∷ 0x03 ∷ 0x08 ∷ 0x00 ∷ 0x00 ∷ 0x07 ∷ 0x16 ∷ 0x00 ∷ 0x03 ∷ 0x08 ∷ 0x00 ∷ 0x00 ∷ 0x08 ∷ 0x3b ∷ 0x00 ∷ 0x03 ∷ 0x08 ∷ 0x00 ∷ 0x00 ∷ 0x09 ∷ 0x24 ∷ 0x00 ∷ 0x00 ∷ 0x00 ∷ 0x0a ∷ 0x0f ∷ 0x00 ∷ 0x49 ∷ 0x11 ∷ 0x00 ∷ 0x00 ∷ 0x0b ∷ 0x10 ∷ 0x00 ∷ 0x49 ∷ 0x11 ∷ 0x00 ∷ 0x00 ∷ 0x0c ∷ 0x42 ∷ 0x00 ∷ 0x49 ∷ 0x11 ∷ 0x00 ∷ 0x00 ∷ 0x0d ∷ 0x35 ∷ 0x00 ∷ 0x49 ∷ 0x11 ∷ 0x00 ∷ 0x00 ∷ 0x0e ∷ 0x37 ∷ 0x00 ∷ 0x49 ∷ 0x11 ∷ 0x00 ∷ 0x00 ∷ 0x0f ∷ 0x47 ∷ 0x00 ∷ 0x49 ∷ 0x11 ∷ 0x00 ∷ 0x00 ∷ 0x10 ∷ 0x0d ∷ 0x00 ∷ 0x49 ∷ 0x11 ∷ 0x00 ∷ 0x00 ∷ 0x11 ∷ 0x39 ∷ 0x00 ∷ 0x00 ∷ 0x00 ∷ 0x12 ∷ 0x0f ∷ 0x00 ∷ 0x00 ∷ 0x00 ∷ 0x13 ∷ 0x0f ∷ 0x00 ∷ 0x49 ∷ 0x0b ∷ 0x00 ∷ 0x00 ∷ 0x14 ∷ 0x24 ∷ 0x00 ∷ 0x03 ∷ 0x08 ∷ 0x03 ∷ 0x08 ∷ 0x00 ∷ 0x00 ∷ 0x15 ∷ 0x0f ∷ 0x00 ∷ 0x49 ∷ 0x11 ∷ 0x49 ∷ 0x11 ∷ 0x00 ∷ 0x00 ∷ 0x00 ∷ []

abbrev kinds_unit : List ℕ
kinds_unit = 0x37 ∷ 0x00 ∷ 0x00 ∷ 0x00 ∷ 0x05 ∷ 0x00 ∷ 0x01 ∷ 0x08 ∷ 0x00 ∷ 0x00 ∷ 0x00 ∷ 0x00 ∷ 0x01 ∷ 0x02 ∷ 0x00 ∷ 0x03 ∷ 0x04 ∷ 0x05 ∷ 0x65 ∷ 0x00 ∷ 0x06 ∷ 0x63 ∷ 0x00 ∷ 0x07 ∷ 0x74 ∷ 0x00 ∷ 0x08 ∷ 0x6e ∷ 0x00 ∷ 0x09 ∷ 0x0a ∷ 0x0d ∷ 0x0b ∷ 0x0f ∷ 0x0c ∷ 0x14 ∷ 0x0d ∷ 0x1a ∷ 0x0e ∷ 0x1e ∷ 0x0f ∷ 0x17 ∷ 0x10 ∷ 0x11 ∷ 0x11 ∷ 0x12 ∷ 0x13 ∷ 0x0d ∷ 0x0b ∷ 0x2c ∷ 0x14 ∷ 0x61 ∷ 0x00 ∷ 0x62 ∷ 0x00 ∷ 0x15 ∷ 0x32 ∷ 0x0d ∷ 0x00 ∷ []

abbrev kinds : SectionAnswer
kinds = read_section Five Little kinds_table kinds_unit

empty_name : text_in kinds 13 (codes "x") ≡ Some (codes "struct  x")
unfolding shape attribute shaped children read_attribute read_table read_table_at read_fields read_children read_tree read_unit_under nesting tree_bytes read_section read_item digits
empty_name = refl

no_union_name : text_in kinds 16 (codes "u") ≡ Some (codes "union {...} u")
unfolding shape attribute shaped children read_attribute read_table read_table_at read_fields read_children read_tree read_unit_under nesting tree_bytes read_section read_item digits
no_union_name = refl

enumeration : text_in kinds 17 (codes "") ≡ Some (codes "enum e")
unfolding shape attribute shaped children read_attribute read_table read_table_at read_fields read_children read_tree read_unit_under nesting tree_bytes read_section read_item digits
enumeration = refl

class_type : text_in kinds 20 (codes "") ≡ Some (codes "class c")
unfolding shape attribute shaped children read_attribute read_table read_table_at read_fields read_children read_tree read_unit_under nesting tree_bytes read_section read_item digits
class_type = refl

reference_type : text_in kinds 32 (codes "r") ≡ Some (codes "struct {...} &r")
unfolding shape attribute shaped children read_attribute read_table read_table_at read_fields read_children read_tree read_unit_under nesting tree_bytes read_section read_item digits
reference_type = refl

rvalue_reference : text_in kinds 34 (codes "") ≡ Some (codes "class c &&")
unfolding shape attribute shaped children read_attribute read_table read_table_at read_fields read_children read_tree read_unit_under nesting tree_bytes read_section read_item digits
rvalue_reference = refl

volatile_type : text_in kinds 36 (codes "v") ≡ Some (codes "volatile n v")
unfolding shape attribute shaped children read_attribute read_table read_table_at read_fields read_children read_tree read_unit_under nesting tree_bytes read_section read_item digits
volatile_type = refl

restrict_pointer : text_in kinds 38 (codes "p") ≡ Some (codes "struct  *restrict p")
unfolding shape attribute shaped children read_attribute read_table read_table_at read_fields read_children read_tree read_unit_under nesting tree_bytes read_section read_item digits
restrict_pointer = refl

atomic_type : text_in kinds 40 (codes "") ≡ Some (codes "_Atomic t")
unfolding shape attribute shaped children read_attribute read_table read_table_at read_fields read_children read_tree read_unit_under nesting tree_bytes read_section read_item digits
atomic_type = refl

member_type : text_in kinds 42 (codes "m") ≡ Some (codes "enum e m")
unfolding shape attribute shaped children read_attribute read_table read_table_at read_fields read_children read_tree read_unit_under nesting tree_bytes read_section read_item digits
member_type = refl

no_type_given : text_in kinds 45 (codes "p") ≡ Some (codes "void *p")
unfolding shape attribute shaped children read_attribute read_table read_table_at read_fields read_children read_tree read_unit_under nesting tree_bytes read_section read_item digits
no_type_given = refl

bad_type : text_in kinds 46 (codes "") ≡ Some (codes "<bad> *")
unfolding shape attribute shaped children read_attribute read_table read_table_at read_fields read_children read_tree read_unit_under nesting tree_bytes read_section read_item digits
bad_type = refl

tag_behind : text_in kinds 48 (codes "") ≡ Some (codes "<tag> &")
unfolding shape attribute shaped children read_attribute read_table read_table_at read_fields read_children read_tree read_unit_under nesting tree_bytes read_section read_item digits
tag_behind = refl

first_name : text_in kinds 50 (codes "") ≡ Some (codes "a")
unfolding shape attribute shaped children read_attribute read_table read_table_at read_fields read_children read_tree read_unit_under nesting tree_bytes read_section read_item digits
first_name = refl

first_type : text_in kinds 55 (codes "") ≡ Some (codes "a *")
unfolding shape attribute shaped children read_attribute read_table read_table_at read_fields read_children read_tree read_unit_under nesting tree_bytes read_section read_item digits
first_type = refl
