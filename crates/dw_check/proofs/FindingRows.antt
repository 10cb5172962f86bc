-- Worked rows: what is found in sections that the plain reader reads.
use Rattle.std.specs.Prelude.{ℕ, ◌≡◌, List, ◌∷◌, [], ◌++◌, Option, Some, None}
use Rattle.std.proofs.Common.{refl}
use Rattle.dw_leb.specs.declared.order.Order.TheVariants.{Little}
use Rattle.dw_form.specs.Form.{shape, attribute, shaped}
use Rattle.dw_form.specs.ReadForm.{read_attribute}
use Rattle.dw_abbrev.specs.ReadTable.{read_table, read_table_at}
use Rattle.dw_header.specs.declared.versions.Versions.TheVariants.{Five}
use Rattle.dw_header.specs.ReadHeader.{read_fields}
use Rattle.dw_tree.specs.Tree.{children, nesting}
use Rattle.dw_tree.specs.Spelling.{tree_bytes}
use Rattle.dw_tree.specs.ReadTree.{read_children, read_tree}
use Rattle.dw_unit.specs.ReadUnit.{read_unit_under}
use Rattle.dw_section.specs.ReadSection.{SectionAnswer, Items, Fails, read_item, read_section}
use Rattle.dw_strings.specs.Text.{StringSections}
use Rattle.dw_check.specs.declared.finding.Finding.{Finding}
use Rattle.dw_check.specs.declared.finding.FindingKind.{FindingKind}
use Rattle.dw_check.specs.declared.finding.FindingKind.TheVariants.{BadReference, BadSibling, RootTag, TypeOffset, BadText, RepeatedName}
use Rattle.dw_check.specs.Findings.{findings}

abbrev no_strings : StringSections
no_strings = record { str = []; line_str = []; str_offsets = [] }

abbrev found_in : SectionAnswer → Option (List Finding)
found_in (Items items) = Some (findings no_strings (record { order = Little; versions = Five; items = items }))
found_in (Fails section offset reason) = None

-- what is found in a section over its abbreviation section
abbrev found : List ℕ → List ℕ → Option (List Finding)
found table bytes = found_in (read_section Five Little table bytes)

abbrev finding : ℕ → ℕ → FindingKind → Finding
finding offset position kind = record { offset = offset; position = position; kind = kind }

-- ---- a type unit, and a compile unit that refers to its type by its signature

abbrev signatures_table : List ℕ
signatures_table = 0x01 ∷ 0x41 ∷ 0x01 ∷ 0x00 ∷ 0x00 ∷ 0x02 ∷ 0x24 ∷ 0x00 ∷ 0x0b ∷ 0x0b ∷ 0x00 ∷ 0x00 ∷ 0x03 ∷ 0x11 ∷ 0x00 ∷ 0x49 ∷ 0x20 ∷ 0x00 ∷ 0x00 ∷ 0x00 ∷ []

abbrev signatures : ℕ → List ℕ
signatures type_offset =
    (0x18 ∷ 0x00 ∷ 0x00 ∷ 0x00 ∷ 0x05 ∷ 0x00 ∷ 0x02 ∷ 0x08 ∷ 0x00 ∷ 0x00 ∷ 0x00 ∷ 0x00 ∷ 0x88 ∷ 0x77 ∷ 0x66 ∷ 0x55 ∷ 0x44 ∷ 0x33 ∷ 0x22 ∷ 0x11 ∷ type_offset ∷ 0x00 ∷ 0x00 ∷ 0x00 ∷ 0x01 ∷ 0x02 ∷ 0x04 ∷ 0x00 ∷ [])
    ++ (0x11 ∷ 0x00 ∷ 0x00 ∷ 0x00 ∷ 0x05 ∷ 0x00 ∷ 0x01 ∷ 0x08 ∷ 0x00 ∷ 0x00 ∷ 0x00 ∷ 0x00 ∷ 0x03 ∷ 0x88 ∷ 0x77 ∷ 0x66 ∷ 0x55 ∷ 0x44 ∷ 0x33 ∷ 0x22 ∷ 0x11 ∷ [])

right_type : found signatures_table (signatures 0x19) ≡ Some []
unfolding shape attribute shaped children read_attribute read_table read_table_at read_fields read_children read_tree read_unit_under nesting tree_bytes read_section read_item
right_type = refl

no_type_there : found signatures_table (signatures 0x1a) ≡ Some (finding 0x18 0 TypeOffset ∷ finding 0x28 1 BadReference ∷ [])
unfolding shape attribute shaped children read_attribute read_table read_table_at read_fields read_children read_tree read_unit_under nesting tree_bytes read_section read_item
no_type_there = refl

-- ---- a sibling: the null that ends the chain, and the offset before it

abbrev siblings_table : List ℕ
siblings_table = 0x01 ∷ 0x11 ∷ 0x01 ∷ 0x00 ∷ 0x00 ∷ 0x02 ∷ 0x39 ∷ 0x01 ∷ 0x01 ∷ 0x13 ∷ 0x00 ∷ 0x00 ∷ 0x00 ∷ []

abbrev siblings : ℕ → List ℕ
siblings v = 0x10 ∷ 0x00 ∷ 0x00 ∷ 0x00 ∷ 0x05 ∷ 0x00 ∷ 0x01 ∷ 0x08 ∷ 0x00 ∷ 0x00 ∷ 0x00 ∷ 0x00 ∷ 0x01 ∷ 0x02 ∷ v ∷ 0x00 ∷ 0x00 ∷ 0x00 ∷ 0x00 ∷ 0x00 ∷ []

right_sibling : found siblings_table (siblings 0x13) ≡ Some []
unfolding shape attribute shaped children read_attribute read_table read_table_at read_fields read_children read_tree read_unit_under nesting tree_bytes read_section read_item
right_sibling = refl

wrong_sibling : found siblings_table (siblings 0x12) ≡ Some (finding 0x0d 1 BadSibling ∷ [])
unfolding shape attribute shaped children read_attribute read_table read_table_at read_fields read_children read_tree read_unit_under nesting tree_bytes read_section read_item
wrong_sibling = refl

-- ---- a root that is a base type, of two names

abbrev two_names : List ℕ
two_names = 0x01 ∷ 0x24 ∷ 0x00 ∷ 0x03 ∷ 0x08 ∷ 0x03 ∷ 0x08 ∷ 0x00 ∷ 0x00 ∷ 0x00 ∷ []

abbrev named_twice : List ℕ
named_twice = 0x0d ∷ 0x00 ∷ 0x00 ∷ 0x00 ∷ 0x05 ∷ 0x00 ∷ 0x01 ∷ 0x08 ∷ 0x00 ∷ 0x00 ∷ 0x00 ∷ 0x00 ∷ 0x01 ∷ 0x61 ∷ 0x00 ∷ 0x62 ∷ 0x00 ∷ []

wrong_root : found two_names named_twice ≡ Some (finding 0x0c 0 RootTag ∷ finding 0x0c 2 RepeatedName ∷ [])
unfolding shape attribute shaped children read_attribute read_table read_table_at read_fields read_children read_tree read_unit_under nesting tree_bytes read_section read_item
wrong_root = refl

-- ---- a name in .debug_str, which is empty

no_text : found (0x01 ∷ 0x11 ∷ 0x00 ∷ 0x03 ∷ 0x0e ∷ 0x00 ∷ 0x00 ∷ 0x00 ∷ []) (0x0d ∷ 0x00 ∷ 0x00 ∷ 0x00 ∷ 0x05 ∷ 0x00 ∷ 0x01 ∷ 0x08 ∷ 0x00 ∷ 0x00 ∷ 0x00 ∷ 0x00 ∷ 0x01 ∷ 0x02 ∷ 0x00 ∷ 0x00 ∷ 0x00 ∷ []) ≡ Some (finding 0x0c 1 BadText ∷ [])
unfolding shape attribute shaped children read_attribute read_table read_table_at read_fields read_children read_tree read_unit_under nesting tree_bytes read_section read_item
no_text = refl
