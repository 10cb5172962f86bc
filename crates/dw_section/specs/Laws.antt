-- The laws of sections and of references: their statements.
use Rattle.std.specs.Prelude.{◌≡◌, ◌≢◌, ◌<◌, ℕ, List, ◌++◌, ◌⊎◌, Some, Ok}
use Rattle.std.specs.List.{AllByRecursion}
use Rattle.dw_leb.specs.declared.errors.Reason.{Reason}
use Rattle.dw_leb.specs.declared.errors.Reason.TheVariants.{Truncated, BadVersion, BadUnitType}
use Rattle.dw_leb.specs.declared.errors.SectionId.{SectionId}
use Rattle.dw_leb.specs.declared.errors.SectionId.TheVariants.{Info}
use Rattle.dw_leb.specs.declared.order.Order.{Order}
use Rattle.dw_header.specs.declared.versions.Versions.{Versions}
use Rattle.dw_section.specs.Item.{Item}
use Rattle.dw_form.specs.Form.{Value, at_number}
use Rattle.dw_form.specs.Lent.{number_in}
use Rattle.dw_tree.specs.Lent.{EntryAt}
use Rattle.dw_unit.specs.Unit.{WholeUnit}
use Rattle.dw_section.specs.declared.id.EntryId.{EntryId}
use Rattle.dw_section.specs.declared.resolve.RefKind.{RefKind}
use Rattle.dw_section.specs.declared.resolve.RefKind.TheVariants.{InUnit, InSection, BySignature, Elsewhere}
use Rattle.dw_section.specs.Section.{HoldsTables, SectionIs, SectionFails, SectionReadAs, WholeSection, SectionFits, section_bytes}
use Rattle.dw_section.specs.Reference.{TypeAt, items_at, first_type, ref_forms, named}
use Rattle.dw_section.specs.Lookup.{unit_at, entry}
use Rattle.dw_section.specs.Found.{BeginsAt}

-- bytes are at most one section
abbrev pub OneSection : Type 0
OneSection =
    (versions : Versions) (order : Order) (abbreviations bytes : List ℕ) (xs ys : List Item)
    → SectionIs versions order abbreviations xs bytes → SectionIs versions order abbreviations ys bytes → xs ≡ ys

-- a section that can't be read has one fault
abbrev pub OneFault : Type 0
OneFault =
    (versions : Versions) (order : Order) (abbreviations bytes : List ℕ) (s z : SectionId) (m n : ℕ) (r q : Reason)
    → SectionFails versions order abbreviations bytes s m r → SectionFails versions order abbreviations bytes z n q
    → (s ≡ z) × (m ≡ n) × (r ≡ q)

-- bytes are not both a section and faulty
abbrev pub NotBoth : Type 0
NotBoth =
    (versions : Versions) (order : Order) (abbreviations bytes : List ℕ) (xs : List Item) (s : SectionId) (n : ℕ)
    (r : Reason)
    → SectionIs versions order abbreviations xs bytes → SectionFails versions order abbreviations bytes s n r → ⊥

-- every list of bytes is one of both
abbrev pub SomeAnswer : Type 0
SomeAnswer =
    (versions : Versions) (order : Order) (abbreviations bytes : List ℕ) → AllByRecursion (λ b. b < 256) abbreviations
    → AllByRecursion (λ b. b < 256) bytes
    → ((xs : List Item) × SectionIs versions order abbreviations xs bytes)
    ⊎ ((s : SectionId) × (n : ℕ) × (r : Reason) × SectionFails versions order abbreviations bytes s n r)

-- a fault other than Truncated in the section's own bytes stays whatever bytes follow
abbrev pub FaultsStay : Type 0
FaultsStay =
    (versions : Versions) (order : Order) (abbreviations bytes tail : List ℕ) (s : SectionId) (n : ℕ) (r : Reason)
    → (s ≡ Info → r ≢ Truncated)
    → SectionFails versions order abbreviations bytes s n r
    → SectionFails versions order abbreviations (bytes ++ tail) s n r

-- no section is refused for a version or for a unit type: items of others are kept as their bytes
abbrev pub NoKindFaults : Type 0
NoKindFaults =
    (versions : Versions) (order : Order) (abbreviations bytes : List ℕ) (s : SectionId) (n : ℕ) (r : Reason)
    → SectionFails versions order abbreviations bytes s n r → (r ≢ BadVersion) × (r ≢ BadUnitType)

-- the bytes of a section are read as that section where the tables of its units stand
abbrev pub WrittenIsRead : Type 0
WrittenIsRead =
    (abbreviations : List ℕ) (s : WholeSection) → SectionFits s → HoldsTables abbreviations s.items
    → SectionReadAs s.versions s.order abbreviations s.items (section_bytes s)

-- the bytes that a section was read from are its one spelling, and it is one that a program can keep
abbrev pub ReadIsWritten : Type 0
ReadIsWritten =
    (versions : Versions) (order : Order) (abbreviations : List ℕ) (items : List Item) (bytes : List ℕ)
    → SectionIs versions order abbreviations items bytes
    → SectionFits (record { order = order; versions = versions; items = items })
    × (bytes ≡ section_bytes (record { order = order; versions = versions; items = items }))

-- ---- references

-- what an entry that is named has to do with the value that names it
abbrev pub NamedAs : List Item → ℕ → ℕ → EntryId → EntryAt → RefKind → Type 0
NamedAs items item v id e InUnit = id ≡ record { item = item; offset = v }
NamedAs items item v id e InSection = BeginsAt items id e v
NamedAs items item v id e BySignature =
    (t : TypeAt) × (first_type (items_at items) v ≡ Some t) × (id ≡ record { item = t.number; offset = t.offset })
NamedAs items item v id e Elsewhere = ⊥

-- A number under a form names an entry: the form is one of references, and an entry begins where the number says.
pub record NamesEntry (items : List Item) (item form v : ℕ) (id : EntryId) : Type 0 where
  pub kind : RefKind
  pub is_kind : at_number form ref_forms ≡ Some kind
  pub entry_at : EntryAt
  pub is_entry : entry items id ≡ Some entry_at
  pub offset_is : entry_at.offset ≡ id.offset
  pub by : NamedAs items item v id entry_at kind

-- whatever a reference names is an entry that begins where it says
abbrev pub ReferencesNameEntries : Type 0
ReferencesNameEntries =
    (items : List Item) (item : ℕ) (u : WholeUnit) → unit_at items item ≡ Some u
    → (form : ℕ) (value : Value) (id : EntryId) → named items item u form value ≡ Ok id
    → (v : ℕ) × (number_in value ≡ Some v) × NamesEntry items item form v id
