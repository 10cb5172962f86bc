-- Worked rows: types in C notation, in units that the plain reader reads.
use Rattle.std.specs.Prelude.{ℕ, ◌≡◌, List, ◌∷◌, [], Option, Some, None, codes}
use Rattle.std.proofs.Common.{refl}
use Rattle.std.specs.Fmt.{digits}
use Rattle.dw_leb.specs.declared.order.Order.TheVariants.{Little}
use Rattle.dw_form.specs.Form.{shape, attribute, shaped}
use Rattle.dw_form.specs.ReadForm.{read_attribute}
use Rattle.dw_abbrev.specs.ReadTable.{read_table, read_table_at}
use Rattle.dw_header.specs.declared.versions.Versions.TheVariants.{Five}
use Rattle.dw_header.specs.ReadHeader.{read_fields}
use Rattle.dw_tree.specs.Tree.{children, nesting}
use Rattle.dw_tree.specs.Spelling.{tree_bytes}
use Rattle.dw_tree.specs.ReadTree.{read_children, read_tree}
use Rattle.dw_tree.specs.Lent.{EntryAt}
use Rattle.dw_unit.specs.ReadUnit.{read_unit_under}
use Rattle.dw_section.specs.Item.{Item}
use Rattle.dw_section.specs.ReadSection.{SectionAnswer, Items, Fails, read_item, read_section}
use Rattle.dw_section.specs.Lookup.{entry}
use Rattle.dw_section.specs.declared.id.EntryId.{EntryId}
use Rattle.dw_ctype.specs.Types.{Source, type_text}
use Rattle.dw_ctype.specs.Visits.{entry_text_visits}

abbrev pub source : List Item → Source
source items = record { items = items; strings = record { str = []; line_str = []; str_offsets = [] } }

abbrev pub id : ℕ → EntryId
id offset = record { item = 0; offset = offset }

abbrev pub text_if : Source → EntryId → List ℕ → Option EntryAt → Option (List ℕ)
text_if s i name None = None
text_if s i name (Some e) = Some (type_text s i e name)

-- the text of the entry at an offset, with a name
abbrev pub text_in : SectionAnswer → ℕ → List ℕ → Option (List ℕ)
text_in (Items items) offset name = text_if (source items) (id offset) name (entry items (id offset))
text_in (Fails section at reason) offset name = None

abbrev pub visits_if : List Item → EntryId → Option EntryAt → Option ℕ
visits_if items i None = None
visits_if items i (Some e) = Some (entry_text_visits items i e)

-- how many visits that text needs
abbrev pub visits_in : SectionAnswer → ℕ → Option ℕ
visits_in (Items items) offset = visits_if items (id offset) (entry items (id offset))
visits_in (Fails section at reason) offset = None

-- ---- a constant pointer to constant characters

abbrev qualified_table : List ℕ
qualified_table = 0x01 ∷ 0x11 ∷ 0x01 ∷ 0x00 ∷ 0x00 ∷ 0x02 ∷ 0x24 ∷ 0x00 ∷ 0x03 ∷ 0x08 ∷ 0x00 ∷ 0x00 ∷ 0x03 ∷ 0x26 ∷ 0x00 ∷ 0x49 ∷ 0x13 ∷ 0x00 ∷ 0x00 ∷ 0x04 ∷ 0x0f ∷ 0x00 ∷ 0x49 ∷ 0x13 ∷ 0x00 ∷ 0x00 ∷ 0x05 ∷ 0x34 ∷ 0x00 ∷ 0x03 ∷ 0x08 ∷ 0x49 ∷ 0x13 ∷ 0x00 ∷ 0x00 ∷ 0x00 ∷ []

abbrev qualified_unit : List ℕ
qualified_unit = 0x26 ∷ 0x00 ∷ 0x00 ∷ 0x00 ∷ 0x05 ∷ 0x00 ∷ 0x01 ∷ 0x08 ∷ 0x00 ∷ 0x00 ∷ 0x00 ∷ 0x00 ∷ 0x01 ∷ 0x02 ∷ 0x63 ∷ 0x68 ∷ 0x61 ∷ 0x72 ∷ 0x00 ∷ 0x03 ∷ 0x0d ∷ 0x00 ∷ 0x00 ∷ 0x00 ∷ 0x04 ∷ 0x13 ∷ 0x00 ∷ 0x00 ∷ 0x00 ∷ 0x03 ∷ 0x18 ∷ 0x00 ∷ 0x00 ∷ 0x00 ∷ 0x05 ∷ 0x70 ∷ 0x00 ∷ 0x1d ∷ 0x00 ∷ 0x00 ∷ 0x00 ∷ 0x00 ∷ []

abbrev qualified : SectionAnswer
qualified = read_section Five Little qualified_table qualified_unit

pointer_to_const : text_in qualified 24 (codes "") ≡ Some (codes "const char *")
unfolding shape attribute shaped children read_attribute read_table read_table_at read_fields read_children read_tree read_unit_under nesting tree_bytes read_section read_item digits
pointer_to_const = refl

const_pointer : text_in qualified 29 (codes "") ≡ Some (codes "const char *const")
unfolding shape attribute shaped children read_attribute read_table read_table_at read_fields read_children read_tree read_unit_under nesting tree_bytes read_section read_item digits
const_pointer = refl

const_pointer_named : text_in qualified 34 (codes "p") ≡ Some (codes "const char *const p")
unfolding shape attribute shaped children read_attribute read_table read_table_at read_fields read_children read_tree read_unit_under nesting tree_bytes read_section read_item digits
const_pointer_named = refl

no_type : text_in qualified 12 (codes "") ≡ Some (codes "<tag>")
unfolding shape attribute shaped children read_attribute read_table read_table_at read_fields read_children read_tree read_unit_under nesting tree_bytes read_section read_item digits
no_type = refl

between_entries : text_in qualified 14 (codes "") ≡ None
unfolding shape attribute shaped children read_attribute read_table read_table_at read_fields read_children read_tree read_unit_under nesting tree_bytes read_section read_item digits
between_entries = refl

const_pointer_visits : visits_in qualified 34 ≡ Some 4
unfolding shape attribute shaped children read_attribute read_table read_table_at read_fields read_children read_tree read_unit_under nesting tree_bytes read_section read_item digits
const_pointer_visits = refl

-- ---- an array of pointers to a function

abbrev functions_table : List ℕ
functions_table = 0x01 ∷ 0x11 ∷ 0x01 ∷ 0x00 ∷ 0x00 ∷ 0x02 ∷ 0x24 ∷ 0x00 ∷ 0x03 ∷ 0x08 ∷ 0x00 ∷ 0x00 ∷ 0x03 ∷ 0x15 ∷ 0x01 ∷ 0x49 ∷ 0x11 ∷ 0x00 ∷ 0x00 ∷ 0x04 ∷ 0x05 ∷ 0x00 ∷ 0x49 ∷ 0x11 ∷ 0x00 ∷ 0x00 ∷ 0x05 ∷ 0x18 ∷ 0x00 ∷ 0x00 ∷ 0x00 ∷ 0x06 ∷ 0x0f ∷ 0x00 ∷ 0x49 ∷ 0x11 ∷ 0x00 ∷ 0x00 ∷ 0x07 ∷ 0x01 ∷ 0x01 ∷ 0x49 ∷ 0x11 ∷ 0x00 ∷ 0x00 ∷ 0x08 ∷ 0x21 ∷ 0x00 ∷ 0x2f ∷ 0x0b ∷ 0x00 ∷ 0x00 ∷ 0x09 ∷ 0x34 ∷ 0x00 ∷ 0x03 ∷ 0x08 ∷ 0x49 ∷ 0x11 ∷ 0x00 ∷ 0x00 ∷ 0x00 ∷ []

abbrev functions_unit : List ℕ
functions_unit = 0x26 ∷ 0x00 ∷ 0x00 ∷ 0x00 ∷ 0x05 ∷ 0x00 ∷ 0x01 ∷ 0x08 ∷ 0x00 ∷ 0x00 ∷ 0x00 ∷ 0x00 ∷ 0x01 ∷ 0x02 ∷ 0x69 ∷ 0x6e ∷ 0x74 ∷ 0x00 ∷ 0x02 ∷ 0x63 ∷ 0x68 ∷ 0x61 ∷ 0x72 ∷ 0x00 ∷ 0x03 ∷ 0x0d ∷ 0x04 ∷ 0x12 ∷ 0x05 ∷ 0x00 ∷ 0x06 ∷ 0x18 ∷ 0x07 ∷ 0x1e ∷ 0x08 ∷ 0x02 ∷ 0x00 ∷ 0x09 ∷ 0x66 ∷ 0x00 ∷ 0x20 ∷ 0x00 ∷ []

abbrev functions : SectionAnswer
functions = read_section Five Little functions_table functions_unit

array_of_pointers : text_in functions 37 (codes "f") ≡ Some (codes "int (*f[3])(char, ...)")
unfolding shape attribute shaped children read_attribute read_table read_table_at read_fields read_children read_tree read_unit_under nesting tree_bytes read_section read_item digits
array_of_pointers = refl

array_alone : text_in functions 32 (codes "") ≡ Some (codes "int (*[3])(char, ...)")
unfolding shape attribute shaped children read_attribute read_table read_table_at read_fields read_children read_tree read_unit_under nesting tree_bytes read_section read_item digits
array_alone = refl

function_alone : text_in functions 24 (codes "") ≡ Some (codes "int (char, ...)")
unfolding shape attribute shaped children read_attribute read_table read_table_at read_fields read_children read_tree read_unit_under nesting tree_bytes read_section read_item digits
function_alone = refl

not_an_entry : text_in functions 36 (codes "") ≡ None
unfolding shape attribute shaped children read_attribute read_table read_table_at read_fields read_children read_tree read_unit_under nesting tree_bytes read_section read_item digits
not_an_entry = refl

function_visits : visits_in functions 37 ≡ Some 5
unfolding shape attribute shaped children read_attribute read_table read_table_at read_fields read_children read_tree read_unit_under nesting tree_bytes read_section read_item digits
function_visits = refl

abbrev big_bound_table : List ℕ
big_bound_table = 0x01 ∷ 0x11 ∷ 0x01 ∷ 0x00 ∷ 0x00 ∷ 0x02 ∷ 0x24 ∷ 0x00 ∷ 0x03 ∷ 0x08 ∷ 0x00 ∷ 0x00 ∷ 0x03 ∷ 0x15 ∷ 0x01 ∷ 0x49 ∷ 0x11 ∷ 0x00 ∷ 0x00 ∷ 0x04 ∷ 0x05 ∷ 0x00 ∷ 0x49 ∷ 0x11 ∷ 0x00 ∷ 0x00 ∷ 0x05 ∷ 0x18 ∷ 0x00 ∷ 0x00 ∷ 0x00 ∷ 0x06 ∷ 0x0f ∷ 0x00 ∷ 0x49 ∷ 0x11 ∷ 0x00 ∷ 0x00 ∷ 0x07 ∷ 0x01 ∷ 0x01 ∷ 0x49 ∷ 0x11 ∷ 0x00 ∷ 0x00 ∷ 0x08 ∷ 0x21 ∷ 0x00 ∷ 0x2f ∷ 0x0b ∷ 0x00 ∷ 0x00 ∷ 0x09 ∷ 0x34 ∷ 0x00 ∷ 0x03 ∷ 0x08 ∷ 0x49 ∷ 0x11 ∷ 0x00 ∷ 0x00 ∷ 0x00 ∷ []

abbrev big_bound_unit : List ℕ
big_bound_unit = 0x26 ∷ 0x00 ∷ 0x00 ∷ 0x00 ∷ 0x05 ∷ 0x00 ∷ 0x01 ∷ 0x08 ∷ 0x00 ∷ 0x00 ∷ 0x00 ∷ 0x00 ∷ 0x01 ∷ 0x02 ∷ 0x69 ∷ 0x6e ∷ 0x74 ∷ 0x00 ∷ 0x02 ∷ 0x63 ∷ 0x68 ∷ 0x61 ∷ 0x72 ∷ 0x00 ∷ 0x03 ∷ 0x0d ∷ 0x04 ∷ 0x12 ∷ 0x05 ∷ 0x00 ∷ 0x06 ∷ 0x18 ∷ 0x07 ∷ 0x1e ∷ 0x08 ∷ 0xff ∷ 0x00 ∷ 0x09 ∷ 0x66 ∷ 0x00 ∷ 0x20 ∷ 0x00 ∷ []

abbrev big_bound : SectionAnswer
big_bound = read_section Five Little big_bound_table big_bound_unit

greatest_bound : text_in big_bound 37 (codes "f") ≡ Some (codes "int (*f[256])(char, ...)")
unfolding shape attribute shaped children read_attribute read_table read_table_at read_fields read_children read_tree read_unit_under nesting tree_bytes read_section read_item digits
greatest_bound = refl

abbrev with_bound_of_minus_one_table : List ℕ
with_bound_of_minus_one_table = 0x01 ∷ 0x11 ∷ 0x01 ∷ 0x00 ∷ 0x00 ∷ 0x02 ∷ 0x24 ∷ 0x00 ∷ 0x03 ∷ 0x08 ∷ 0x00 ∷ 0x00 ∷ 0x03 ∷ 0x15 ∷ 0x01 ∷ 0x49 ∷ 0x11 ∷ 0x00 ∷ 0x00 ∷ 0x04 ∷ 0x05 ∷ 0x00 ∷ 0x49 ∷ 0x11 ∷ 0x00 ∷ 0x00 ∷ 0x05 ∷ 0x18 ∷ 0x00 ∷ 0x00 ∷ 0x00 ∷ 0x06 ∷ 0x0f ∷ 0x00 ∷ 0x49 ∷ 0x11 ∷ 0x00 ∷ 0x00 ∷ 0x07 ∷ 0x01 ∷ 0x01 ∷ 0x49 ∷ 0x11 ∷ 0x00 ∷ 0x00 ∷ 0x08 ∷ 0x21 ∷ 0x00 ∷ 0x2f ∷ 0x0d ∷ 0x00 ∷ 0x00 ∷ 0x09 ∷ 0x34 ∷ 0x00 ∷ 0x03 ∷ 0x08 ∷ 0x49 ∷ 0x11 ∷ 0x00 ∷ 0x00 ∷ 0x00 ∷ []

abbrev with_bound_of_minus_one_unit : List ℕ
with_bound_of_minus_one_unit = 0x26 ∷ 0x00 ∷ 0x00 ∷ 0x00 ∷ 0x05 ∷ 0x00 ∷ 0x01 ∷ 0x08 ∷ 0x00 ∷ 0x00 ∷ 0x00 ∷ 0x00 ∷ 0x01 ∷ 0x02 ∷ 0x69 ∷ 0x6e ∷ 0x74 ∷ 0x00 ∷ 0x02 ∷ 0x63 ∷ 0x68 ∷ 0x61 ∷ 0x72 ∷ 0x00 ∷ 0x03 ∷ 0x0d ∷ 0x04 ∷ 0x12 ∷ 0x05 ∷ 0x00 ∷ 0x06 ∷ 0x18 ∷ 0x07 ∷ 0x1e ∷ 0x08 ∷ 0x7f ∷ 0x00 ∷ 0x09 ∷ 0x66 ∷ 0x00 ∷ 0x20 ∷ 0x00 ∷ []

abbrev with_bound_of_minus_one : SectionAnswer
with_bound_of_minus_one = read_section Five Little with_bound_of_minus_one_table with_bound_of_minus_one_unit

bound_of_minus_one : text_in with_bound_of_minus_one 32 (codes "") ≡ Some (codes "int (*[0])(char, ...)")
unfolding shape attribute shaped children read_attribute read_table read_table_at read_fields read_children read_tree read_unit_under nesting tree_bytes read_section read_item digits
bound_of_minus_one = refl

abbrev with_bound_of_minus_two_table : List ℕ
with_bound_of_minus_two_table = 0x01 ∷ 0x11 ∷ 0x01 ∷ 0x00 ∷ 0x00 ∷ 0x02 ∷ 0x24 ∷ 0x00 ∷ 0x03 ∷ 0x08 ∷ 0x00 ∷ 0x00 ∷ 0x03 ∷ 0x15 ∷ 0x01 ∷ 0x49 ∷ 0x11 ∷ 0x00 ∷ 0x00 ∷ 0x04 ∷ 0x05 ∷ 0x00 ∷ 0x49 ∷ 0x11 ∷ 0x00 ∷ 0x00 ∷ 0x05 ∷ 0x18 ∷ 0x00 ∷ 0x00 ∷ 0x00 ∷ 0x06 ∷ 0x0f ∷ 0x00 ∷ 0x49 ∷ 0x11 ∷ 0x00 ∷ 0x00 ∷ 0x07 ∷ 0x01 ∷ 0x01 ∷ 0x49 ∷ 0x11 ∷ 0x00 ∷ 0x00 ∷ 0x08 ∷ 0x21 ∷ 0x00 ∷ 0x2f ∷ 0x0d ∷ 0x00 ∷ 0x00 ∷ 0x09 ∷ 0x34 ∷ 0x00 ∷ 0x03 ∷ 0x08 ∷ 0x49 ∷ 0x11 ∷ 0x00 ∷ 0x00 ∷ 0x00 ∷ []

abbrev with_bound_of_minus_two_unit : List ℕ
with_bound_of_minus_two_unit = 0x26 ∷ 0x00 ∷ 0x00 ∷ 0x00 ∷ 0x05 ∷ 0x00 ∷ 0x01 ∷ 0x08 ∷ 0x00 ∷ 0x00 ∷ 0x00 ∷ 0x00 ∷ 0x01 ∷ 0x02 ∷ 0x69 ∷ 0x6e ∷ 0x74 ∷ 0x00 ∷ 0x02 ∷ 0x63 ∷ 0x68 ∷ 0x61 ∷ 0x72 ∷ 0x00 ∷ 0x03 ∷ 0x0d ∷ 0x04 ∷ 0x12 ∷ 0x05 ∷ 0x00 ∷ 0x06 ∷ 0x18 ∷ 0x07 ∷ 0x1e ∷ 0x08 ∷ 0x7e ∷ 0x00 ∷ 0x09 ∷ 0x66 ∷ 0x00 ∷ 0x20 ∷ 0x00 ∷ []

abbrev with_bound_of_minus_two : SectionAnswer
with_bound_of_minus_two = read_section Five Little with_bound_of_minus_two_table with_bound_of_minus_two_unit

bound_of_minus_two : text_in with_bound_of_minus_two 32 (codes "") ≡ Some (codes "int (*[])(char, ...)")
unfolding shape attribute shaped children read_attribute read_table read_table_at read_fields read_children read_tree read_unit_under nesting tree_bytes read_section read_item digits
bound_of_minus_two = refl

-- ---- loops, missing names, prototypes

abbrev loops_table : List ℕ
loops_table = 0x01 ∷ 0x11 ∷ 0x01 ∷ 0x00 ∷ 0x00 ∷ 0x02 ∷ 0x0f ∷ 0x00 ∷ 0x49 ∷ 0x11 ∷ 0x00 ∷ 0x00 ∷ 0x03 ∷ 0x26 ∷ 0x00 ∷ 0x49 ∷ 0x11 ∷ 0x00 ∷ 0x00 ∷ 0x04 ∷ 0x15 ∷ 0x00 ∷ 0x00 ∷ 0x00 ∷ 0x05 ∷ 0x24 ∷ 0x00 ∷ 0x00 ∷ 0x00 ∷ 0x06 ∷ 0x13 ∷ 0x00 ∷ 0x00 ∷ 0x00 ∷ 0x07 ∷ 0x15 ∷ 0x00 ∷ 0x27 ∷ 0x0b ∷ 0x00 ∷ 0x00 ∷ 0x08 ∷ 0x15 ∷ 0x00 ∷ 0x27 ∷ 0x0f ∷ 0x00 ∷ 0x00 ∷ 0x00 ∷ []

abbrev loops_unit : List ℕ
loops_unit = 0x1b ∷ 0x00 ∷ 0x00 ∷ 0x00 ∷ 0x05 ∷ 0x00 ∷ 0x01 ∷ 0x08 ∷ 0x00 ∷ 0x00 ∷ 0x00 ∷ 0x00 ∷ 0x01 ∷ 0x02 ∷ 0x0f ∷ 0x03 ∷ 0x0d ∷ 0x04 ∷ 0x05 ∷ 0x06 ∷ 0x07 ∷ 0x00 ∷ 0x07 ∷ 0x01 ∷ 0x08 ∷ 0x00 ∷ 0x02 ∷ 0x14 ∷ 0x02 ∷ 0x18 ∷ 0x00 ∷ []

abbrev loops : SectionAnswer
loops = read_section Five Little loops_table loops_unit

a_loop : text_in loops 13 (codes "p") ≡ Some (codes "...")
unfolding shape attribute shaped children read_attribute read_table read_table_at read_fields read_children read_tree read_unit_under nesting tree_bytes read_section read_item digits
a_loop = refl

no_prototype : text_in loops 17 (codes "") ≡ Some (codes "void ()")
unfolding shape attribute shaped children read_attribute read_table read_table_at read_fields read_children read_tree read_unit_under nesting tree_bytes read_section read_item digits
no_prototype = refl

no_name : text_in loops 18 (codes "") ≡ Some (codes "<noname>")
unfolding shape attribute shaped children read_attribute read_table read_table_at read_fields read_children read_tree read_unit_under nesting tree_bytes read_section read_item digits
no_name = refl

no_tag_name : text_in loops 19 (codes "s") ≡ Some (codes "struct {...} s")
unfolding shape attribute shaped children read_attribute read_table read_table_at read_fields read_children read_tree read_unit_under nesting tree_bytes read_section read_item digits
no_tag_name = refl

prototype_of_zero : text_in loops 20 (codes "") ≡ Some (codes "void ()")
unfolding shape attribute shaped children read_attribute read_table read_table_at read_fields read_children read_tree read_unit_under nesting tree_bytes read_section read_item digits
prototype_of_zero = refl

prototype_of_one : text_in loops 22 (codes "") ≡ Some (codes "void (void)")
unfolding shape attribute shaped children read_attribute read_table read_table_at read_fields read_children read_tree read_unit_under nesting tree_bytes read_section read_item digits
prototype_of_one = refl

prototype_of_uleb_zero : text_in loops 24 (codes "") ≡ Some (codes "void (void)")
unfolding shape attribute shaped children read_attribute read_table read_table_at read_fields read_children read_tree read_unit_under nesting tree_bytes read_section read_item digits
prototype_of_uleb_zero = refl

pointer_to_function : text_in loops 26 (codes "f") ≡ Some (codes "void (*f)()")
unfolding shape attribute shaped children read_attribute read_table read_table_at read_fields read_children read_tree read_unit_under nesting tree_bytes read_section read_item digits
pointer_to_function = refl

loop_visits : visits_in loops 13 ≡ Some 65
unfolding shape attribute shaped children read_attribute read_table read_table_at read_fields read_children read_tree read_unit_under nesting tree_bytes read_section read_item digits
loop_visits = refl
