-- Worked rows: references and look-ups, over sections that the plain reader reads.
use Rattle.std.specs.Prelude.{ℕ, ◌≡◌, List, ◌∷◌, [], ◌++◌, Option, Some, None, Ok, Err}
use Rattle.std.proofs.Common.{refl}
use Rattle.dw_leb.specs.declared.order.Order.TheVariants.{Little}
use Rattle.dw_form.specs.Form.{shape, attribute, shaped, Num}
use Rattle.dw_form.specs.ReadForm.{read_attribute}
use Rattle.dw_abbrev.specs.ReadTable.{read_table, read_table_at}
use Rattle.dw_header.specs.ReadHeader.{read_fields}
use Rattle.dw_tree.specs.Tree.{children, nesting}
use Rattle.dw_tree.specs.Spelling.{tree_bytes}
use Rattle.dw_tree.specs.ReadTree.{read_children, read_tree}
use Rattle.dw_tree.specs.Lent.{LentAttribute, attributes_of, first_named}
use Rattle.dw_unit.specs.ReadUnit.{read_unit_under}
use Rattle.dw_unit.specs.Unit.{WholeUnit}
use Rattle.dw_section.specs.Item.{Item}
use Rattle.dw_section.specs.ReadSection.{SectionAnswer, Items, Fails, read_item, read_section}
use Rattle.dw_header.specs.declared.versions.Versions.TheVariants.{Five, FourAndFive}
use Rattle.dw_section.specs.declared.id.EntryId.{EntryId}
use Rattle.dw_section.specs.declared.id.RefFault.TheVariants as refs
use Rattle.dw_section.specs.Reference.{Target, named}
use Rattle.dw_section.specs.Lookup.{unit_at, entry, find}
use Rattle.dw_section.proofs.SectionRows.{fifteen, version_four, first_table}

abbrev pub id : ℕ → ℕ → EntryId
id item offset = record { item = item; offset = offset }

-- the attribute of a name of the entry there
abbrev attribute_there : List Item → EntryId → ℕ → Option LentAttribute
attribute_there items i name = elim (entry items i) [ None ↦ None | Some e ↦ first_named name (attributes_of e) ]

abbrev names_if : List Item → EntryId → Option WholeUnit → Option LentAttribute → Option Target
names_if items i None a = None
names_if items i (Some u) None = None
names_if items i (Some u) (Some a) = Some (named items i.item u a.form a.attr.value)

-- what the attribute of a name of the entry there names
abbrev names : SectionAnswer → EntryId → ℕ → Option Target
names (Items items) i name = names_if items i (unit_at items i.item) (attribute_there items i name)
names (Fails s offset reason) i name = None

-- ---- an address in the section

abbrev pub two_tables : List ℕ
two_tables = first_table ++ (0x01 ∷ 0x11 ∷ 0x00 ∷ 0x49 ∷ 0x10 ∷ 0x00 ∷ 0x00 ∷ 0x00 ∷ [])

abbrev pub refers : ℕ → List ℕ
refers v = 0x0d ∷ 0x00 ∷ 0x00 ∷ 0x00 ∷ 0x05 ∷ 0x00 ∷ 0x01 ∷ 0x08 ∷ 0x08 ∷ 0x00 ∷ 0x00 ∷ 0x00 ∷ 0x01 ∷ v ∷ 0x00 ∷ 0x00 ∷ 0x00 ∷ []

to_the_first : names (read_section Five Little two_tables (fifteen ++ refers 12)) (id 1 12) 0x49 ≡ Some (Ok (id 0 12))
unfolding shape attribute shaped children read_attribute read_table read_table_at read_fields read_children read_tree read_unit_under nesting tree_bytes read_section read_item
to_the_first = refl

to_itself : names (read_section Five Little two_tables (fifteen ++ refers 27)) (id 1 12) 0x49 ≡ Some (Ok (id 1 12))
unfolding shape attribute shaped children read_attribute read_table read_table_at read_fields read_children read_tree read_unit_under nesting tree_bytes read_section read_item
to_itself = refl

to_a_header : names (read_section Five Little two_tables (fifteen ++ refers 15)) (id 1 12) 0x49 ≡ Some (Err refs.NotAnEntry)
unfolding shape attribute shaped children read_attribute read_table read_table_at read_fields read_children read_tree read_unit_under nesting tree_bytes read_section read_item
to_a_header = refl

past_the_section : names (read_section Five Little two_tables (fifteen ++ refers 32)) (id 1 12) 0x49 ≡ Some (Err refs.OutsideSection)
unfolding shape attribute shaped children read_attribute read_table read_table_at read_fields read_children read_tree read_unit_under nesting tree_bytes read_section read_item
past_the_section = refl

into_another : names (read_section Five Little two_tables (version_four ++ (fifteen ++ refers 11))) (id 2 12) 0x49 ≡ Some (Err refs.InOther)
unfolding shape attribute shaped children read_attribute read_table read_table_at read_fields read_children read_tree read_unit_under nesting tree_bytes read_section read_item
into_another = refl

behind_another : names (read_section Five Little two_tables (version_four ++ (fifteen ++ refers 26))) (id 2 12) 0x49 ≡ Some (Ok (id 1 12))
unfolding shape attribute shaped children read_attribute read_table read_table_at read_fields read_children read_tree read_unit_under nesting tree_bytes read_section read_item
behind_another = refl

into_version_four : names (read_section FourAndFive Little two_tables (version_four ++ (fifteen ++ refers 11))) (id 2 12) 0x49 ≡ Some (Ok (id 0 11))
unfolding shape attribute shaped children read_attribute read_table read_table_at read_fields read_children read_tree read_unit_under nesting tree_bytes read_section read_item
into_version_four = refl

-- ---- a number under a form, whatever entry has it

abbrev number_if : List Item → ℕ → ℕ → ℕ → Option WholeUnit → Option Target
number_if items item form v None = None
number_if items item form v (Some u) = Some (named items item u form (Num v))

abbrev names_number : SectionAnswer → ℕ → ℕ → ℕ → Option Target
names_number (Items items) item form v = number_if items item form v (unit_at items item)
names_number (Fails s offset reason) item form v = None

behind_version_four : names_number (read_section Five Little first_table (version_four ++ fifteen)) 1 0x10 26 ≡ Some (Ok (id 1 12))
unfolding shape attribute shaped children read_attribute read_table read_table_at read_fields read_children read_tree read_unit_under nesting tree_bytes read_section read_item
behind_version_four = refl

in_version_four : names_number (read_section Five Little first_table (version_four ++ fifteen)) 1 0x10 11 ≡ Some (Err refs.InOther)
unfolding shape attribute shaped children read_attribute read_table read_table_at read_fields read_children read_tree read_unit_under nesting tree_bytes read_section read_item
in_version_four = refl

past_both : names_number (read_section Five Little first_table (version_four ++ fifteen)) 1 0x10 29 ≡ Some (Err refs.OutsideSection)
unfolding shape attribute shaped children read_attribute read_table read_table_at read_fields read_children read_tree read_unit_under nesting tree_bytes read_section read_item
past_both = refl

in_version_four_that_is_read : names_number (read_section FourAndFive Little first_table (version_four ++ fifteen)) 1 0x10 11 ≡ Some (Ok (id 0 11))
unfolding shape attribute shaped children read_attribute read_table read_table_at read_fields read_children read_tree read_unit_under nesting tree_bytes read_section read_item
in_version_four_that_is_read = refl

-- root at 12, child at 15, null at 17, size 18
abbrev parents : List ℕ
parents = 0x01 ∷ 0x11 ∷ 0x01 ∷ 0x03 ∷ 0x08 ∷ 0x00 ∷ 0x00 ∷ 0x02 ∷ 0x24 ∷ 0x00 ∷ 0x0b ∷ 0x0b ∷ 0x00 ∷ 0x00 ∷ 0x00 ∷ []

abbrev root_with_a_child : List ℕ
root_with_a_child = 0x0e ∷ 0x00 ∷ 0x00 ∷ 0x00 ∷ 0x05 ∷ 0x00 ∷ 0x01 ∷ 0x08 ∷ 0x00 ∷ 0x00 ∷ 0x00 ∷ 0x00 ∷ 0x01 ∷ 0x61 ∷ 0x00 ∷ 0x02 ∷ 0x04 ∷ 0x00 ∷ []

-- a unit of version 3, which isn't read, before it: offsets in a unit don't count from the section
abbrev version_three : List ℕ
version_three = 0x0a ∷ 0x00 ∷ 0x00 ∷ 0x00 ∷ 0x03 ∷ 0x00 ∷ 0x00 ∷ 0x00 ∷ 0x00 ∷ 0x00 ∷ 0x08 ∷ 0x01 ∷ 0x61 ∷ 0x00 ∷ []

the_child : names_number (read_section Five Little parents (version_three ++ root_with_a_child)) 1 0x13 15 ≡ Some (Ok (id 1 15))
unfolding shape attribute shaped children read_attribute read_table read_table_at read_fields read_children read_tree read_unit_under nesting tree_bytes read_section read_item
the_child = refl

its_header : names_number (read_section Five Little parents (version_three ++ root_with_a_child)) 1 0x13 3 ≡ Some (Err refs.NotAnEntry)
unfolding shape attribute shaped children read_attribute read_table read_table_at read_fields read_children read_tree read_unit_under nesting tree_bytes read_section read_item
its_header = refl

its_value : names_number (read_section Five Little parents (version_three ++ root_with_a_child)) 1 0x13 16 ≡ Some (Err refs.NotAnEntry)
unfolding shape attribute shaped children read_attribute read_table read_table_at read_fields read_children read_tree read_unit_under nesting tree_bytes read_section read_item
its_value = refl

its_null : names_number (read_section Five Little parents (version_three ++ root_with_a_child)) 1 0x13 17 ≡ Some (Err refs.NotAnEntry)
unfolding shape attribute shaped children read_attribute read_table read_table_at read_fields read_children read_tree read_unit_under nesting tree_bytes read_section read_item
its_null = refl

its_end : names_number (read_section Five Little parents (version_three ++ root_with_a_child)) 1 0x13 18 ≡ Some (Err refs.OutsideUnit)
unfolding shape attribute shaped children read_attribute read_table read_table_at read_fields read_children read_tree read_unit_under nesting tree_bytes read_section read_item
its_end = refl

-- ---- an offset in the unit

-- a root with children and a ref4, and a child with one byte
abbrev child_table : List ℕ
child_table = 0x01 ∷ 0x11 ∷ 0x01 ∷ 0x49 ∷ 0x13 ∷ 0x00 ∷ 0x00 ∷ 0x02 ∷ 0x24 ∷ 0x00 ∷ 0x0b ∷ 0x0b ∷ 0x00 ∷ 0x00 ∷ 0x00 ∷ []

-- root at 12, child at 17, null at 19, size 20
abbrev with_child : ℕ → List ℕ
with_child v = 0x10 ∷ 0x00 ∷ 0x00 ∷ 0x00 ∷ 0x05 ∷ 0x00 ∷ 0x01 ∷ 0x08 ∷ 0x00 ∷ 0x00 ∷ 0x00 ∷ 0x00 ∷ 0x01 ∷ v ∷ 0x00 ∷ 0x00 ∷ 0x00 ∷ 0x02 ∷ 0x04 ∷ 0x00 ∷ []

abbrev in_child_unit : ℕ → Option Target
in_child_unit v = names (read_section Five Little child_table (with_child 3 ++ with_child v)) (id 1 12) 0x49

to_the_child : in_child_unit 17 ≡ Some (Ok (id 1 17))
unfolding shape attribute shaped children read_attribute read_table read_table_at read_fields read_children read_tree read_unit_under nesting tree_bytes read_section read_item
to_the_child = refl

into_the_header : in_child_unit 3 ≡ Some (Err refs.NotAnEntry)
unfolding shape attribute shaped children read_attribute read_table read_table_at read_fields read_children read_tree read_unit_under nesting tree_bytes read_section read_item
into_the_header = refl

into_the_child : in_child_unit 18 ≡ Some (Err refs.NotAnEntry)
unfolding shape attribute shaped children read_attribute read_table read_table_at read_fields read_children read_tree read_unit_under nesting tree_bytes read_section read_item
into_the_child = refl

to_the_null : in_child_unit 19 ≡ Some (Err refs.NotAnEntry)
unfolding shape attribute shaped children read_attribute read_table read_table_at read_fields read_children read_tree read_unit_under nesting tree_bytes read_section read_item
to_the_null = refl

past_the_unit : in_child_unit 20 ≡ Some (Err refs.OutsideUnit)
unfolding shape attribute shaped children read_attribute read_table read_table_at read_fields read_children read_tree read_unit_under nesting tree_bytes read_section read_item
past_the_unit = refl

abbrev far : List ℕ
far = 0x11 ∷ 0x00 ∷ 0x00 ∷ 0x00 ∷ 0x05 ∷ 0x00 ∷ 0x01 ∷ 0x08 ∷ 0x00 ∷ 0x00 ∷ 0x00 ∷ 0x00 ∷ 0x01 ∷ 0xff ∷ 0xff ∷ 0xff ∷ 0xff ∷ 0xff ∷ 0xff ∷ 0xff ∷ 0xff ∷ []

-- eight bytes ff in the second unit: nothing wraps
far_in_the_second : names (read_section Five Little (0x01 ∷ 0x11 ∷ 0x00 ∷ 0x49 ∷ 0x14 ∷ 0x00 ∷ 0x00 ∷ 0x00 ∷ []) (far ++ far)) (id 1 12) 0x49 ≡ Some (Err refs.OutsideUnit)
unfolding shape attribute shaped children read_attribute read_table read_table_at read_fields read_children read_tree read_unit_under nesting tree_bytes read_section read_item
far_in_the_second = refl

supplementary : names (read_section Five Little (0x01 ∷ 0x11 ∷ 0x00 ∷ 0x49 ∷ 0xa0 ∷ 0x3e ∷ 0x00 ∷ 0x00 ∷ 0x00 ∷ []) (0x0d ∷ 0x00 ∷ 0x00 ∷ 0x00 ∷ 0x05 ∷ 0x00 ∷ 0x01 ∷ 0x08 ∷ 0x00 ∷ 0x00 ∷ 0x00 ∷ 0x00 ∷ 0x01 ∷ 0x01 ∷ 0x00 ∷ 0x00 ∷ 0x00 ∷ [])) (id 0 12) 0x49 ≡ Some (Err refs.Supplementary)
unfolding shape attribute shaped children read_attribute read_table read_table_at read_fields read_children read_tree read_unit_under nesting tree_bytes read_section read_item
supplementary = refl

no_reference : names (read_section Five Little first_table fifteen) (id 0 12) 3 ≡ Some (Err refs.NotReference)
unfolding shape attribute shaped children read_attribute read_table read_table_at read_fields read_children read_tree read_unit_under nesting tree_bytes read_section read_item
no_reference = refl

-- ---- a signature

abbrev signature_table : List ℕ
signature_table = 0x01 ∷ 0x41 ∷ 0x01 ∷ 0x00 ∷ 0x00 ∷ 0x02 ∷ 0x24 ∷ 0x00 ∷ 0x0b ∷ 0x0b ∷ 0x00 ∷ 0x00 ∷ 0x03 ∷ 0x11 ∷ 0x00 ∷ 0x49 ∷ 0x20 ∷ 0x00 ∷ 0x00 ∷ 0x00 ∷ []

abbrev type_unit : ℕ → List ℕ
type_unit v = 0x18 ∷ 0x00 ∷ 0x00 ∷ 0x00 ∷ 0x05 ∷ 0x00 ∷ 0x02 ∷ 0x08 ∷ 0x00 ∷ 0x00 ∷ 0x00 ∷ 0x00 ∷ 0x88 ∷ 0x77 ∷ 0x66 ∷ 0x55 ∷ 0x44 ∷ 0x33 ∷ 0x22 ∷ 0x11 ∷ v ∷ 0x00 ∷ 0x00 ∷ 0x00 ∷ 0x01 ∷ 0x02 ∷ 0x04 ∷ 0x00 ∷ []

abbrev compile_unit : List ℕ
compile_unit = 0x11 ∷ 0x00 ∷ 0x00 ∷ 0x00 ∷ 0x05 ∷ 0x00 ∷ 0x01 ∷ 0x08 ∷ 0x00 ∷ 0x00 ∷ 0x00 ∷ 0x00 ∷ 0x03 ∷ 0x88 ∷ 0x77 ∷ 0x66 ∷ 0x55 ∷ 0x44 ∷ 0x33 ∷ 0x22 ∷ 0x11 ∷ []

by_its_signature : names (read_section Five Little signature_table (type_unit 0x19 ++ compile_unit)) (id 1 12) 0x49 ≡ Some (Ok (id 0 25))
unfolding shape attribute shaped children read_attribute read_table read_table_at read_fields read_children read_tree read_unit_under nesting tree_bytes read_section read_item
by_its_signature = refl

the_first_of_two : names (read_section Five Little signature_table (type_unit 0x19 ++ (type_unit 0x19 ++ compile_unit))) (id 2 12) 0x49 ≡ Some (Ok (id 0 25))
unfolding shape attribute shaped children read_attribute read_table read_table_at read_fields read_children read_tree read_unit_under nesting tree_bytes read_section read_item
the_first_of_two = refl

no_signature : names (read_section Five Little signature_table compile_unit) (id 0 12) 0x49 ≡ Some (Err refs.NoSignature)
unfolding shape attribute shaped children read_attribute read_table read_table_at read_fields read_children read_tree read_unit_under nesting tree_bytes read_section read_item
no_signature = refl

bad_type_offset : names (read_section Five Little signature_table (type_unit 0x1a ++ compile_unit)) (id 1 12) 0x49 ≡ Some (Err refs.BadTypeOffset)
unfolding shape attribute shaped children read_attribute read_table read_table_at read_fields read_children read_tree read_unit_under nesting tree_bytes read_section read_item
bad_type_offset = refl

-- ---- look-ups

abbrev find_in : List ℕ → ℕ → Option EntryId
find_in bytes offset = elim (read_section Five Little two_tables bytes) [ Items xs ↦ find xs offset | Fails s o r ↦ None ]

the_first_item : find_in (fifteen ++ refers 12) 12 ≡ Some (id 0 12)
unfolding shape attribute shaped children read_attribute read_table read_table_at read_fields read_children read_tree read_unit_under nesting tree_bytes read_section read_item
the_first_item = refl

the_second_item : find_in (fifteen ++ refers 12) 27 ≡ Some (id 1 12)
unfolding shape attribute shaped children read_attribute read_table read_table_at read_fields read_children read_tree read_unit_under nesting tree_bytes read_section read_item
the_second_item = refl

no_entry_there : find_in (fifteen ++ refers 12) 28 ≡ None
unfolding shape attribute shaped children read_attribute read_table read_table_at read_fields read_children read_tree read_unit_under nesting tree_bytes read_section read_item
no_entry_there = refl
