-- The laws of the grammar.
use Rattle.std.specs.Prelude.{◌∷◌, ◌≡◌, ◌≢◌, ◌↔◌, ℕ, ◌+◌, ◌<◌, List, ◌++◌, length, take, ◌⊎◌}
use Rattle.std.specs.List.{AllByRecursion, Contains}
use Rattle.dw_leb.specs.declared.errors.Reason.{Reason}
use Rattle.dw_leb.specs.declared.errors.Reason.TheVariants.{Truncated}
use Rattle.dw_leb.specs.declared.order.Order.{Order}
use Rattle.dw_abbrev.specs.Table.{Table, TableAt}
use Rattle.dw_header.specs.declared.versions.Versions.{Versions}
use Rattle.dw_header.specs.declared.versions.Versions.TheVariants.{Five}
use Rattle.dw_header.specs.Header.{Header, Accepts}
use Rattle.dw_header.specs.HeaderPlace.{HeaderAtUnder}
use Rattle.dw_tree.specs.Spelling.{tree_bytes}
use Rattle.dw_tree.specs.Lent.{EntryAt, entries_of, end_offset_of}
use Rattle.dw_unit.specs.Unit.{WholeUnit, bytes_of, tree_of, UnitFits, UnitFrontUnder, UnitBreaksUnder, UnitAtUnder, FailsUnder, ReadAs, ReadAsUnder}
use Rattle.dw_leb.specs.declared.errors.SectionId.{SectionId}
use Rattle.dw_leb.specs.declared.errors.SectionId.TheVariants.{Info}

-- ---- units over a table that is handed in; the versions that are accepted are told

-- bytes have at most one unit at the front, of one size
abbrev pub OneUnitOverUnder : Versions → Type 0
OneUnitOverUnder versions =
    (order : Order) (bytes : List ℕ) (u v : WholeUnit) (m n : ℕ) → u.table ≡ v.table
    → UnitFrontUnder versions order bytes u m → UnitFrontUnder versions order bytes v n → (u ≡ v) × (m ≡ n)

-- they break at one place, for one reason
abbrev pub OneBreakUnder : Versions → Type 0
OneBreakUnder versions =
    (order : Order) (t : Table) (bytes : List ℕ) (m n : ℕ) (r q : Reason) → UnitBreaksUnder versions order t bytes m r
    → UnitBreaksUnder versions order t bytes n q → (m ≡ n) × (r ≡ q)

-- they have at most one of a unit at the front and a break
abbrev pub NotUnitAndBreakUnder : Versions → Type 0
NotUnitAndBreakUnder versions =
    (order : Order) (bytes : List ℕ) (u : WholeUnit) (size offset : ℕ) (reason : Reason)
    → UnitFrontUnder versions order bytes u size → UnitBreaksUnder versions order u.table bytes offset reason → ⊥

-- every list of bytes has one
abbrev pub UnitOrBreakUnder : Versions → Type 0
UnitOrBreakUnder versions = (order : Order) (t : Table) (bytes : List ℕ) → AllByRecursion (λ b. b < 256) bytes
    → ((u : WholeUnit) × (size : ℕ) × (u.table ≡ t) × UnitFrontUnder versions order bytes u size)
    ⊎ ((offset : ℕ) × (reason : Reason) × UnitBreaksUnder versions order t bytes offset reason)

-- a unit at the front stays there whatever bytes follow
abbrev pub FrontsStayUnder : Versions → Type 0
FrontsStayUnder versions =
    (order : Order) (bytes tail : List ℕ) (u : WholeUnit) (size : ℕ) → UnitFrontUnder versions order bytes u size
    → UnitFrontUnder versions order (bytes ++ tail) u size

-- and so does a break other than Truncated
abbrev pub BreaksStayUnder : Versions → Type 0
BreaksStayUnder versions =
    (order : Order) (t : Table) (bytes tail : List ℕ) (offset : ℕ) (reason : Reason) → reason ≢ Truncated
    → UnitBreaksUnder versions order t bytes offset reason
    → UnitBreaksUnder versions order t (bytes ++ tail) offset reason

-- a proper front of a unit's bytes is cut off, and nothing else, where the unit's version is accepted
abbrev pub FrontsAreCutUnder : Versions → Type 0
FrontsAreCutUnder versions =
    (u : WholeUnit) (front : List ℕ) (b : ℕ) (more : List ℕ) → AllByRecursion (λ b. b < 256) front
    → Accepts versions u.header.kind → UnitFits u → bytes_of u ≡ front ++ b ∷ more
    → (offset : ℕ) × UnitBreaksUnder versions u.header.order u.table front offset Truncated

-- ---- units over an abbreviation section

-- over the table that stands in the section at the header's offset, a unit is one over the section ..
abbrev pub UnitsOverSectionsUnder : Versions → Type 0
UnitsOverSectionsUnder versions =
    (order : Order) (abbreviations bytes : List ℕ) (h : Header) (n : ℕ) (t : Table)
    → HeaderAtUnder versions order bytes h n → TableAt abbreviations h.abbrev_offset t
    → (u : WholeUnit) (size : ℕ) → u.table ≡ t → UnitFrontUnder versions order bytes u size
    → UnitAtUnder versions abbreviations order bytes u size

-- .. and a break is the fault over the section
abbrev pub BreaksAreFaultsUnder : Versions → Type 0
BreaksAreFaultsUnder versions =
    (order : Order) (abbreviations bytes : List ℕ) (h : Header) (n : ℕ) (t : Table)
    → HeaderAtUnder versions order bytes h n → TableAt abbreviations h.abbrev_offset t
    → (offset : ℕ) (reason : Reason)
    → UnitBreaksUnder versions order t bytes offset reason ↔ FailsUnder versions order abbreviations bytes Info offset
    reason

-- bytes have at most one unit at the front, of one size
abbrev pub OneUnitUnder : Versions → Type 0
OneUnitUnder versions =
    (abbreviations : List ℕ) (order : Order) (bytes : List ℕ) (u v : WholeUnit) (m n : ℕ)
    → UnitAtUnder versions abbreviations order bytes u m → UnitAtUnder versions abbreviations order bytes v n
    → (u ≡ v) × (m ≡ n)

-- a unit that can't be read has one fault
abbrev pub OneFaultUnder : Versions → Type 0
OneFaultUnder versions =
    (order : Order) (abbreviations bytes : List ℕ) (s z : SectionId) (m n : ℕ) (r q : Reason)
    → FailsUnder versions order abbreviations bytes s m r → FailsUnder versions order abbreviations bytes z n q
    → (s ≡ z) × (m ≡ n) × (r ≡ q)

-- bytes have at most one of a unit at the front and a fault
abbrev pub NotBothUnder : Versions → Type 0
NotBothUnder versions =
    (abbreviations : List ℕ) (order : Order) (bytes : List ℕ) (u : WholeUnit) (size : ℕ) (s : SectionId) (n : ℕ)
    (r : Reason)
    → UnitAtUnder versions abbreviations order bytes u size → FailsUnder versions order abbreviations bytes s n r → ⊥

-- every list of bytes has one
abbrev pub SomeAnswerUnder : Versions → Type 0
SomeAnswerUnder versions =
    (order : Order) (abbreviations bytes : List ℕ) → AllByRecursion (λ b. b < 256) abbreviations
    → AllByRecursion (λ b. b < 256) bytes
    → ((u : WholeUnit) × (size : ℕ) × UnitAtUnder versions abbreviations order bytes u size)
    ⊎ ((s : SectionId) × (n : ℕ) × (r : Reason) × FailsUnder versions order abbreviations bytes s n r)

-- a unit at the front stays there whatever bytes follow
abbrev pub UnitsStayUnder : Versions → Type 0
UnitsStayUnder versions =
    (abbreviations : List ℕ) (order : Order) (bytes tail : List ℕ) (u : WholeUnit) (size : ℕ)
    → UnitAtUnder versions abbreviations order bytes u size
    → UnitAtUnder versions abbreviations order (bytes ++ tail) u size

-- and so does a fault other than Truncated in the unit's own bytes
abbrev pub FaultsStayUnder : Versions → Type 0
FaultsStayUnder versions =
    (order : Order) (abbreviations bytes tail : List ℕ) (s : SectionId) (offset : ℕ) (reason : Reason)
    → (s ≡ Info → reason ≢ Truncated) → FailsUnder versions order abbreviations bytes s offset reason
    → FailsUnder versions order abbreviations (bytes ++ tail) s offset reason

-- a proper front of a unit's bytes has a fault of an input that ends too early, and no other, where the unit's version
-- is accepted
abbrev pub FrontsAreTruncatedUnder : Versions → Type 0
FrontsAreTruncatedUnder versions =
    (abbreviations : List ℕ) (u : WholeUnit) (front : List ℕ) (b : ℕ) (more : List ℕ)
    → AllByRecursion (λ b. b < 256) front → Accepts versions u.header.kind
    → TableAt abbreviations u.header.abbrev_offset u.table → UnitFits u → bytes_of u ≡ front ++ b ∷ more
    → (offset : ℕ) × FailsUnder versions u.header.order abbreviations front Info offset Truncated

-- ---- other versions

-- a unit at the front is of a version that is accepted
abbrev pub UnitsAreAccepted : Type 0
UnitsAreAccepted =
    (versions : Versions) (abbreviations : List ℕ) (order : Order) (bytes : List ℕ) (u : WholeUnit) (size : ℕ)
    → UnitAtUnder versions abbreviations order bytes u size → Accepts versions u.header.kind

-- and it stands there wherever that version is accepted
abbrev pub UnitsStandWhereAccepted : Type 0
UnitsStandWhereAccepted =
    (versions others : Versions) (abbreviations : List ℕ) (order : Order) (bytes : List ℕ) (u : WholeUnit) (size : ℕ)
    → UnitAtUnder versions abbreviations order bytes u size → Accepts others u.header.kind
    → UnitAtUnder others abbreviations order bytes u size

-- where a header stands at the front, a unit breaks alike wherever the header's version is accepted
abbrev pub UnitsBreakWhereAccepted : Type 0
UnitsBreakWhereAccepted =
    (versions others : Versions) (order : Order) (t : Table) (bytes : List ℕ) (h : Header) (n : ℕ)
    → HeaderAtUnder versions order bytes h n → Accepts others h.kind
    → (offset : ℕ) (reason : Reason) → UnitBreaksUnder versions order t bytes offset reason
    → UnitBreaksUnder others order t bytes offset reason

-- and so it has the same fault over a section
abbrev pub UnitsFailWhereAccepted : Type 0
UnitsFailWhereAccepted =
    (versions others : Versions) (order : Order) (abbreviations bytes : List ℕ) (h : Header) (n : ℕ)
    → HeaderAtUnder versions order bytes h n → Accepts others h.kind
    → (s : SectionId) (offset : ℕ) (reason : Reason) → FailsUnder versions order abbreviations bytes s offset reason
    → FailsUnder others order abbreviations bytes s offset reason

-- ---- the round trip

-- the bytes of a unit are read as that unit, whatever follows, where its table stands
abbrev pub WrittenIsRead : Type 0
WrittenIsRead =
    (abbreviations rest : List ℕ) (u : WholeUnit) → UnitFits u → TableAt abbreviations u.header.abbrev_offset u.table
    → ReadAs abbreviations u.header.order (bytes_of u ++ rest) u (length (bytes_of u))

-- the same under all versions that accept the unit's
abbrev pub WrittenIsReadUnder : Versions → Type 0
WrittenIsReadUnder versions =
    (abbreviations rest : List ℕ) (u : WholeUnit) → Accepts versions u.header.kind → UnitFits u
    → TableAt abbreviations u.header.abbrev_offset u.table
    → ReadAsUnder versions abbreviations u.header.order (bytes_of u ++ rest) u (length (bytes_of u))

-- the bytes that a unit was read from are its one spelling
abbrev pub ReadIsWrittenUnder : Versions → Type 0
ReadIsWrittenUnder versions =
    (abbreviations : List ℕ) (order : Order) (bytes : List ℕ) (u : WholeUnit) (size : ℕ)
    → UnitAtUnder versions abbreviations order bytes u size → take size bytes ≡ bytes_of u

-- ---- where version 5 alone is accepted

abbrev pub OneUnitOver : Type 0
OneUnitOver = OneUnitOverUnder Five

abbrev pub OneBreak : Type 0
OneBreak = OneBreakUnder Five

abbrev pub NotUnitAndBreak : Type 0
NotUnitAndBreak = NotUnitAndBreakUnder Five

abbrev pub UnitOrBreak : Type 0
UnitOrBreak = UnitOrBreakUnder Five

abbrev pub FrontsStay : Type 0
FrontsStay = FrontsStayUnder Five

abbrev pub BreaksStay : Type 0
BreaksStay = BreaksStayUnder Five

abbrev pub FrontsAreCut : Type 0
FrontsAreCut = FrontsAreCutUnder Five

abbrev pub UnitsOverSections : Type 0
UnitsOverSections = UnitsOverSectionsUnder Five

abbrev pub BreaksAreFaults : Type 0
BreaksAreFaults = BreaksAreFaultsUnder Five

abbrev pub OneUnit : Type 0
OneUnit = OneUnitUnder Five

abbrev pub OneFault : Type 0
OneFault = OneFaultUnder Five

abbrev pub NotBoth : Type 0
NotBoth = NotBothUnder Five

abbrev pub SomeAnswer : Type 0
SomeAnswer = SomeAnswerUnder Five

abbrev pub UnitsStay : Type 0
UnitsStay = UnitsStayUnder Five

abbrev pub FaultsStay : Type 0
FaultsStay = FaultsStayUnder Five

abbrev pub FrontsAreTruncated : Type 0
FrontsAreTruncated = FrontsAreTruncatedUnder Five

abbrev pub ReadIsWritten : Type 0
ReadIsWritten = ReadIsWrittenUnder Five

-- ---- offsets

-- among the unit's bytes those of an entry, with all below it, stand from the entry's offset to its end
abbrev pub LentAreSpelled : Type 0
LentAreSpelled = (u : WholeUnit) (e : EntryAt) → UnitFits u → Contains (entries_of (tree_of u)) e
    → (before : List ℕ) × (own : List ℕ) × (after : List ℕ) × (bytes_of u ≡ before ++ (own ++ after))
    × (own ≡ tree_bytes e.context e.table e.node) × (length before ≡ e.offset)
    × (length before + length own ≡ end_offset_of e)
