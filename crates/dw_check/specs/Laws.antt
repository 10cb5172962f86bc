-- The laws of findings: their order, and that they are those of the section and no others.
use Rattle.std.specs.Prelude.{◌≡◌, ◌⊎◌, ◌↔◌, suc, ◌+◌, ◌<◌, true, false, List, ◌∷◌, ◌++◌, length}
use Rattle.std.specs.List.{AllPairs, Contains}
use Rattle.dw_tree.specs.Lent.{LentAttribute, EntryAt, attributes_of, root_of, entries_of}
use Rattle.dw_unit.specs.Unit.{WholeUnit, tree_of}
use Rattle.dw_section.specs.Item.{Known}
use Rattle.dw_section.specs.Section.{WholeSection, SectionFits}
use Rattle.dw_section.specs.Reference.{ItemAt, items_at}
use Rattle.dw_strings.specs.Text.{StringSections}
use Rattle.dw_check.specs.declared.finding.Finding.{Finding}
use Rattle.dw_check.specs.declared.finding.FindingKind.{FindingKind}
use Rattle.dw_check.specs.declared.finding.FindingKind.TheVariants.{BadReference, BadSibling, RootTag, TypeOffset, BadText, RepeatedName}
use Rattle.dw_check.specs.Findings.{UnitIn, findings, is_bad_reference, is_bad_sibling, is_bad_text, is_named_among, is_root_tag, root_tag, has_type}
use Rattle.dw_check.specs.Kinds.{kind_number}

-- ---- their order

-- by the entry's offset, then by the attribute's position, then by the number of the kind
abbrev pub Precedes : Finding → Finding → Type 0
Precedes f g =
    (f.offset < g.offset)
    ⊎ ((f.offset ≡ g.offset)
    × ((f.position < g.position) ⊎ ((f.position ≡ g.position) × (kind_number f.kind < kind_number g.kind))))

-- each one precedes all that stand behind it; so none stands twice
abbrev pub FindingsAscend : Type 0
FindingsAscend = (strings : StringSections) (s : WholeSection) → SectionFits s → AllPairs Precedes (findings strings s)

-- ---- which they are

-- what is wrong with an attribute of an entry, where these stand before it
abbrev pub IsWrong : UnitIn → EntryAt → List LentAttribute → LentAttribute → FindingKind → Type 0
IsWrong u e before a BadReference = is_bad_reference u a ≡ true
IsWrong u e before a BadSibling = is_bad_sibling u e a ≡ true
IsWrong u e before a BadText = is_bad_text u a ≡ true
IsWrong u e before a RepeatedName = is_named_among a.name before ≡ true
IsWrong u e before a RootTag = ⊥
IsWrong u e before a TypeOffset = ⊥

-- what is wrong with a root as a whole
abbrev pub IsWrongRoot : UnitIn → EntryAt → FindingKind → Type 0
IsWrongRoot u root RootTag = is_root_tag u.unit.header.kind (root_tag root) ≡ false
IsWrongRoot u root TypeOffset = has_type u.unit u.unit.header.kind ≡ false
IsWrongRoot u root BadReference = ⊥
IsWrongRoot u root BadSibling = ⊥
IsWrongRoot u root BadText = ⊥
IsWrongRoot u root RepeatedName = ⊥

-- a finding is at the unit's root as a whole
pub record AtRoot (u : UnitIn) (f : Finding) : Type 0 where
  pub offset_is : f.offset ≡ u.start + (root_of (tree_of u.unit)).offset
  pub position_is : f.position ≡ 0
  pub wrong : IsWrongRoot u (root_of (tree_of u.unit)) f.kind

-- or at an attribute of one of its entries
pub record AtAttribute (u : UnitIn) (f : Finding) : Type 0 where
  pub entry : EntryAt
  pub before : List LentAttribute
  pub attribute : LentAttribute
  pub others : List LentAttribute
  pub lent : Contains (entries_of (tree_of u.unit)) entry
  pub among : attributes_of entry ≡ before ++ attribute ∷ others
  pub offset_is : f.offset ≡ u.start + entry.offset
  pub position_is : f.position ≡ suc (length before)
  pub wrong : IsWrong u entry before attribute f.kind

-- something is wrong in one of the section's units
pub record IsFinding (strings : StringSections) (s : WholeSection) (f : Finding) : Type 0 where
  pub item : ItemAt
  pub unit : WholeUnit
  pub among : Contains (items_at s.items) item
  pub known : item.item ≡ Known unit
  pub there : AtRoot
      (record { items = s.items; strings = strings; number = item.number; start = item.start; unit = unit }) f
      ⊎ AtAttribute
      (record { items = s.items; strings = strings; number = item.number; start = item.start; unit = unit })
      f

abbrev pub FindingsAreThose : Type 0
FindingsAreThose =
    (strings : StringSections) (s : WholeSection) (f : Finding)
    → Contains (findings strings s) f ↔ IsFinding strings s f
