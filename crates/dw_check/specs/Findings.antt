-- What a check finds wrong in a section: findings in the order of the section.
use Rattle.std.specs.Prelude.{ℕ, suc, ◌+◌, Bool, true, false, not, ◌&&◌, ◌||◌, List, [], ◌∷◌, ◌++◌, length, is_some, Ok, Err, ◌==◌}
use Rattle.dw_leb.specs.Constants.{DW_AT_sibling, DW_TAG_compile_unit, DW_TAG_partial_unit, DW_TAG_skeleton_unit}
use Rattle.dw_leb.specs.Constants.{DW_TAG_type_unit}
use Rattle.dw_abbrev.specs.Table.{declared}
use Rattle.dw_header.specs.declared.kind.Kind.{Kind}
use Rattle.dw_header.specs.declared.kind.Kind.TheVariants.{Compile, Partial, TypeUnit, Skeleton, Four}
use Rattle.dw_tree.specs.Lent.{LentAttribute, EntryAt, tag_of, code_of, attributes_of, root_of, entries_of, find_at}
use Rattle.dw_unit.specs.Unit.{WholeUnit, tree_of}
use Rattle.dw_section.specs.declared.id.RefFault.TheVariants as references
use Rattle.dw_section.specs.Item.{Item, Known, Other}
use Rattle.dw_section.specs.Section.{WholeSection}
use Rattle.dw_section.specs.Reference.{Target, ItemAt, items_at, named}
use Rattle.dw_section.specs.Sibling.{is_right_sibling}
use Rattle.dw_strings.specs.declared.fault.StrFault.TheVariants as texts
use Rattle.dw_strings.specs.Text.{StringSections, Named, named_text}
use Rattle.dw_check.specs.declared.finding.Finding.{Finding}
use Rattle.dw_check.specs.declared.finding.FindingKind.{FindingKind}
use Rattle.dw_check.specs.declared.finding.FindingKind.TheVariants.{BadReference, BadSibling, RootTag, TypeOffset, BadText, RepeatedName}

-- a unit in its section: the number of the item that it is, and where it starts
pub record UnitIn : Type 0 where
  pub items : List Item
  pub strings : StringSections
  pub number : ℕ
  pub start : ℕ
  pub unit : WholeUnit

-- a finding where something is wrong, and else none
abbrev pub finding_if : Bool → ℕ → ℕ → FindingKind → List Finding
finding_if true offset position kind = record { offset = offset; position = position; kind = kind } ∷ []
finding_if false offset position kind = []

-- ---- an attribute

abbrev pub is_sibling : LentAttribute → Bool
is_sibling a = a.name == DW_AT_sibling

-- it is a reference, and names no entry; one of a supplementary file isn't looked up
abbrev pub is_unresolved : Target → Bool
is_unresolved (Ok id) = false
is_unresolved (Err references.NotReference) = false
is_unresolved (Err references.OutsideUnit) = true
is_unresolved (Err references.OutsideSection) = true
is_unresolved (Err references.NotAnEntry) = true
is_unresolved (Err references.InOther) = true
is_unresolved (Err references.NoSignature) = true
is_unresolved (Err references.BadTypeOffset) = true
is_unresolved (Err references.Supplementary) = false

abbrev pub is_bad_reference : UnitIn → LentAttribute → Bool
is_bad_reference u a = not (is_sibling a) && is_unresolved (named u.items u.number u.unit a.form a.attr.value)

-- a sibling that isn't just behind the entry and all below it
abbrev pub is_bad_sibling : UnitIn → EntryAt → LentAttribute → Bool
is_bad_sibling u e a = is_sibling a && not (is_right_sibling u.start e a.form a.attr.value)

-- it is a text, and can't be looked up; one of a supplementary file isn't
abbrev pub is_unreadable : Named → Bool
is_unreadable (Ok text) = false
is_unreadable (Err texts.NotText) = false
is_unreadable (Err texts.PastSection) = true
is_unreadable (Err texts.NoZero) = true
is_unreadable (Err texts.NoBase) = true
is_unreadable (Err texts.PastOffsets) = true
is_unreadable (Err texts.Supplementary) = false

abbrev pub is_bad_text : UnitIn → LentAttribute → Bool
is_bad_text u a = is_unreadable (named_text u.strings u.unit a.form a.attr.value)

abbrev pub is_named_among : ℕ → List LentAttribute → Bool
is_named_among name [] = false
is_named_among name (a ∷ others) = name == a.name || is_named_among name others

-- the findings of an attribute at a position, where it is told whether an earlier one has its name
abbrev pub findings_at : UnitIn → EntryAt → ℕ → LentAttribute → Bool → List Finding
findings_at u e position a repeated =
    finding_if (is_bad_reference u a) (u.start + e.offset) position BadReference
    ++ (finding_if (is_bad_sibling u e a) (u.start + e.offset) position BadSibling
    ++ (finding_if (is_bad_text u a) (u.start + e.offset) position BadText
    ++ finding_if repeated (u.start + e.offset) position RepeatedName))

-- of attributes behind others
abbrev pub findings_behind : UnitIn → EntryAt → List LentAttribute → List LentAttribute → List Finding
findings_behind u e before [] = []
findings_behind u e before (a ∷ others) =
    findings_at u e (suc (length before)) a (is_named_among a.name before)
    ++ findings_behind u e (before ++ a ∷ []) others

-- ---- entries

-- of an entry's attributes, in their order
abbrev pub entry_findings : UnitIn → EntryAt → List Finding
entry_findings u e = findings_behind u e [] (attributes_of e)

abbrev pub entries_findings : UnitIn → List EntryAt → List Finding
entries_findings u [] = []
entries_findings u (e ∷ es) = entry_findings u e ++ entries_findings u es

-- ---- the root

-- the tags of the root of a unit of this kind
abbrev pub is_root_tag : Kind → ℕ → Bool
is_root_tag Compile tag = tag == DW_TAG_compile_unit || tag == DW_TAG_partial_unit
is_root_tag Partial tag = tag == DW_TAG_compile_unit || tag == DW_TAG_partial_unit
is_root_tag Four tag = tag == DW_TAG_compile_unit || tag == DW_TAG_partial_unit
is_root_tag (TypeUnit signature offset) tag = tag == DW_TAG_type_unit
is_root_tag (Skeleton id) tag = tag == DW_TAG_skeleton_unit || tag == DW_TAG_compile_unit

-- an entry begins at the type offset, where the unit has one
abbrev pub has_type : WholeUnit → Kind → Bool
has_type u (TypeUnit signature offset) = is_some (find_at offset (entries_of (tree_of u)))
has_type u Compile = true
has_type u Partial = true
has_type u Four = true
has_type u (Skeleton id) = true

abbrev pub root_tag : EntryAt → ℕ
root_tag e = tag_of (declared e.table (code_of e.node).value)

abbrev pub root_findings_at : UnitIn → EntryAt → List Finding
root_findings_at u root =
    finding_if (not (is_root_tag u.unit.header.kind (root_tag root))) (u.start + root.offset) 0 RootTag
    ++ finding_if (not (has_type u.unit u.unit.header.kind)) (u.start + root.offset) 0 TypeOffset

-- of the root as a whole
abbrev pub root_findings : UnitIn → List Finding
root_findings u = root_findings_at u (root_of (tree_of u.unit))

-- ---- a section

-- of a unit: the root as a whole, then the attributes of each entry, each before those below it
abbrev pub unit_findings : UnitIn → List Finding
unit_findings u = root_findings u ++ entries_findings u (entries_of (tree_of u.unit))

-- what isn't read has none
abbrev pub item_findings : List Item → StringSections → ℕ → ℕ → Item → List Finding
item_findings items strings number start (Known u) =
    unit_findings (record { items = items; strings = strings; number = number; start = start; unit = u })
item_findings items strings number start (Other bytes) = []

abbrev pub items_findings : List Item → StringSections → List ItemAt → List Finding
items_findings items strings [] = []
items_findings items strings (x ∷ xs) =
    item_findings items strings x.number x.start x.item ++ items_findings items strings xs

abbrev pub findings : StringSections → WholeSection → List Finding
findings strings s = items_findings s.items strings (items_at s.items)
