-- What a read of a section, or of an item of one, answers and takes.
use Rattle.std.specs.Prelude.{◌≡◌, ℕ, ◌+◌, ◌≤◌, ◌<◌, List, [], ◌++◌, length, Option, Bool, true, false, Result, Ok, Err, ◌⊎◌}
use Rattle.std.specs.Io.KnownBytes.{Consumes, IsAtEnd}
use Rattle.dw_leb.specs.declared.errors.Fault.{Fault}
use Rattle.dw_leb.specs.declared.errors.Reason.{Reason}
use Rattle.dw_leb.specs.declared.errors.ReadError.{ReadError}
use Rattle.dw_leb.specs.declared.errors.ReadError.TheVariants as reads
use Rattle.dw_leb.specs.declared.errors.SectionId.{SectionId}
use Rattle.dw_leb.specs.declared.errors.SectionId.TheVariants.{Info, Abbrev}
use Rattle.dw_leb.specs.declared.order.Order.{Order}
use Rattle.dw_leb.specs.declared.order.Format.{Format}
use Rattle.dw_leb.specs.Number.{length_size}
use Rattle.dw_header.specs.declared.versions.Versions.{Versions}
use Rattle.dw_feed.specs.Feed.{Had, Takes, InField, FailsUpTo}
use Rattle.dw_section.specs.Item.{Item, item_bytes, ShowsKind, HasInitialLength, ItemFits, HoldsTable, ItemFails}
use Rattle.dw_section.specs.Push.{with_item}
use Rattle.dw_section.specs.Section.{ItemsFit, HoldsTables, items_bytes, section_bytes, SectionIs, SectionFails, WholeSection}

-- ---- how many bytes are taken where nothing is read

-- So many bytes of those at an item's start are at most its length field, or at most the item whose length it tells.
abbrev pub InItem : Order → ℕ → List ℕ → ℕ → Type 0
InItem order start bytes k =
    InField bytes k
    ⊎ ((format : Format) × (n : ℕ) × (rest : List ℕ) × HasInitialLength order start bytes format n rest
    × (k ≤ length_size format + n))

-- Bytes that were taken of a section are items that stand at its front, and at most the one that stands behind these.
pub record InSection (versions : Versions) (order : Order) (abbreviations all taken : List ℕ) : Type 0 where
  pub before : List Item
  pub rest : List ℕ
  pub own : List ℕ
  pub fit : ItemsFit versions order 0 before
  pub tables : HoldsTables abbreviations before
  pub split : all ≡ items_bytes before ++ rest
  pub taken_are : taken ≡ items_bytes before ++ own
  pub inside : InItem order (length (items_bytes before)) rest (length own)

-- ---- a section

-- all that the reader had left is the section's spelling, and nothing is left unread
pub record TakesSection (versions : Versions) (order : Order) (abbreviations : List ℕ) (old new : Option (List ℕ))
    (s : WholeSection) : Type 0 where
  pub order_is : s.order ≡ order
  pub versions_is : s.versions ≡ versions
  pub all : List ℕ
  pub had : Had old all
  pub is : SectionIs versions order abbreviations s.items all
  pub consumed : Consumes old new all
  pub end : IsAtEnd new

-- a fault is the first one of all that the reader had left
abbrev pub IsSectionError : Versions → Order → List ℕ → List ℕ → ReadError → Type 0
IsSectionError versions order abbreviations all (reads.Fault f) =
    SectionFails versions order abbreviations all f.section f.offset f.reason
IsSectionError versions order abbreviations all reads.NoMemory = Unit {0}
IsSectionError versions order abbreviations all (reads.Io kind) = Unit {0}

-- no section is read: what the error tells, and that no byte was taken past the end of the item where it came
abbrev pub TakesNoSection : Versions → Order → List ℕ → Option (List ℕ) → Option (List ℕ) → ReadError → Type 0
TakesNoSection versions order abbreviations old new e =
    (all : List ℕ) × (h : Takes old new all) × IsSectionError versions order abbreviations all e
    × InSection versions order abbreviations all h.taken

-- ---- an item at a start

-- the item stands at the front of what the reader had left, and exactly its bytes were taken
pub record TakesItem (versions : Versions) (order : Order) (abbreviations : List ℕ) (start : ℕ)
    (old new : Option (List ℕ)) (x : Item) : Type 0 where
  pub fits : ItemFits versions order start x
  pub place : HoldsTable abbreviations x
  pub consumed : Consumes old new (item_bytes x)

-- it is one more item behind those of a section
abbrev pub AddsItem : Versions → Order → List ℕ → ℕ → Option (List ℕ) → Option (List ℕ) → WholeSection → WholeSection
    → Type 0
AddsItem versions order abbreviations start old new before after =
    (x : Item) × (after ≡ with_item before x) × TakesItem versions order abbreviations start old new x

-- or the reader had nothing left, and there is none
abbrev pub AddsNext : Versions → Order → List ℕ → ℕ → Option (List ℕ) → Option (List ℕ) → WholeSection → WholeSection
    → Bool → Type 0
AddsNext versions order abbreviations start old new before after true =
    AddsItem versions order abbreviations start old new before after
AddsNext versions order abbreviations start old new before after false =
    (after ≡ before) × Consumes old new [] × IsAtEnd new

-- the section has these versions and this order, and ends at the start
abbrev pub EndsAt : Versions → Order → ℕ → WholeSection → Type 0
EndsAt versions order start s = (s.versions ≡ versions) × (s.order ≡ order) × (length (section_bytes s) ≡ start)

-- a fault is that of the item at the front, of which at least a byte is there
abbrev pub IsItemError : Versions → Order → List ℕ → ℕ → List ℕ → ReadError → Type 0
IsItemError versions order abbreviations start all (reads.Fault f) =
    (0 < length all) × ItemFails versions order abbreviations start all f.section f.offset f.reason
IsItemError versions order abbreviations start all reads.NoMemory = Unit {0}
IsItemError versions order abbreviations start all (reads.Io kind) = Unit {0}

-- no item is read: what the error tells, and that no byte was taken past the item's end
abbrev pub TakesNoItem : Versions → Order → List ℕ → ℕ → Option (List ℕ) → Option (List ℕ) → ReadError → Type 0
TakesNoItem versions order abbreviations start old new e =
    (all : List ℕ) × (h : Takes old new all) × IsItemError versions order abbreviations start all e
    × InItem order start all (length h.taken)

-- ---- an item of which some bytes were taken

-- its length field
pub record HasLength (order : Order) (start n : ℕ) (bytes : List ℕ) : Type 0 where
  pub format : Format
  pub begins : HasInitialLength order start bytes format n []

-- its length field of so many bytes, and bytes behind it, no more than it says, which show of which kind it is
pub record HasKind (versions : Versions) (order : Order) (start n field : ℕ) (bytes : List ℕ) (known : Bool)
    : Type 0 where
  pub format : Format
  pub rest : List ℕ
  pub begins : HasInitialLength order start bytes format n rest
  pub field_is : field ≡ length_size format
  pub inside : length rest ≤ n
  pub shows : ShowsKind versions order n rest known

-- What a read of the bytes behind a length field puts behind those that are held: no more than the item has, and so
-- many as show of which kind it is, or all that the reader had left.
abbrev pub ReadsMarks : {X : Type 0} → List ℕ → List ℕ → Option (List ℕ) → Option (List ℕ) → ℕ → Result X ReadError
    → Type 0
ReadsMarks held now old new n (Ok x) =
    (got : List ℕ) × (now ≡ held ++ got) × (length got ≤ n) × Consumes old new got
    × (((n ≤ length got) ⊎ (3 ≤ length got)) ⊎ IsAtEnd new)
ReadsMarks held now old new n (Err e) = FailsUpTo old new n e

-- ---- a fault of a unit that stands alone, in its section

abbrev pub moved_offset : SectionId → ℕ → ℕ → ℕ
moved_offset Info start offset = start + offset
moved_offset Abbrev start offset = offset

abbrev pub moved : ℕ → Fault → Fault
moved start f = record { section = f.section; offset = moved_offset f.section start f.offset; reason = f.reason }

abbrev pub moved_error : ℕ → ReadError → ReadError
moved_error start (reads.Fault f) = reads.Fault (moved start f)
moved_error start reads.NoMemory = reads.NoMemory
moved_error start (reads.Io kind) = reads.Io kind

-- ---- a fault in the section's own bytes

abbrev pub fault_at : ℕ → Reason → ReadError
fault_at offset reason = reads.Fault (record { section = Info; offset = offset; reason = reason })
