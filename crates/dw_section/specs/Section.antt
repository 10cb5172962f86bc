-- Sections: items one after the other, and the first fault (section 7.5).
use Rattle.std.specs.Prelude.{◌≡◌, ℕ, ◌+◌, ◌<◌, List, [], ◌∷◌, ◌++◌, length}
use Rattle.dw_leb.specs.declared.errors.Reason.{Reason}
use Rattle.dw_leb.specs.declared.errors.SectionId.{SectionId}
use Rattle.dw_leb.specs.declared.order.Order.{Order}
use Rattle.dw_header.specs.declared.versions.Versions.{Versions}
use Rattle.dw_section.specs.Item.{Item, item_bytes, ItemFits, HoldsTable, ItemFails}

-- the joined bytes of the items
abbrev pub items_bytes : List Item → List ℕ
items_bytes [] = []
items_bytes (x ∷ xs) = item_bytes x ++ items_bytes xs

-- each item fits where it starts; the first one's start is given
abbrev pub ItemsFit : Versions → Order → ℕ → List Item → Type 0
ItemsFit versions order start [] = Unit {0}
ItemsFit versions order start (x ∷ xs) =
    ItemFits versions order start x × ItemsFit versions order (start + length (item_bytes x)) xs

-- the abbreviation section holds the tables of all units
abbrev pub HoldsTables : List ℕ → List Item → Type 0
HoldsTables abbreviations [] = Unit {0}
HoldsTables abbreviations (x ∷ xs) = HoldsTable abbreviations x × HoldsTables abbreviations xs

-- the bytes are a section of these items
pub record SectionIs (versions : Versions) (order : Order) (abbreviations : List ℕ) (items : List Item) (bytes : List ℕ)
    : Type 0 where
  pub fit : ItemsFit versions order 0 items
  pub tables : HoldsTables abbreviations items
  pub spelled : bytes ≡ items_bytes items

-- The fault of the first item that has one: all items before it are spelled, and it begins with a byte.
pub record FailsBehind (versions : Versions) (order : Order) (abbreviations : List ℕ) (start : ℕ) (bytes : List ℕ)
    (s : SectionId) (offset : ℕ) (reason : Reason) : Type 0 where
  pub before : List Item
  pub rest : List ℕ
  pub fit : ItemsFit versions order start before
  pub tables : HoldsTables abbreviations before
  pub split : bytes ≡ items_bytes before ++ rest
  pub some : 0 < length rest
  pub fails : ItemFails versions order abbreviations (start + length (items_bytes before)) rest s offset reason

-- the one fault of a section that can't be read
abbrev pub SectionFails : Versions → Order → List ℕ → List ℕ → SectionId → ℕ → Reason → Type 0
SectionFails versions order abbreviations bytes s offset reason =
    FailsBehind versions order abbreviations 0 bytes s offset reason

-- These bytes are read as these items: they are a section of them and of no others, and have no fault.
pub record SectionReadAs (versions : Versions) (order : Order) (abbreviations : List ℕ) (items : List Item)
    (bytes : List ℕ) : Type 0 where
  pub there : SectionIs versions order abbreviations items bytes
  pub only : (others : List Item) → SectionIs versions order abbreviations others bytes → others ≡ items
  pub no_fault : (s : SectionId) (offset : ℕ) (reason : Reason)
      → SectionFails versions order abbreviations bytes s offset reason → ⊥

-- ---- the program's sections

-- what a program keeps of a section: no abbreviation section, only the table of each unit
pub record WholeSection : Type 0 where
  pub order : Order
  pub versions : Versions
  pub items : List Item

abbrev pub SectionFits : WholeSection → Type 0
SectionFits s = ItemsFit s.versions s.order 0 s.items

abbrev pub section_bytes : WholeSection → List ℕ
section_bytes s = items_bytes s.items
