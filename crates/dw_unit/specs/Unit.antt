-- Units, their breaks, and the first fault (section 7.5).
use Rattle.std.specs.Prelude.{◌≡◌, ℕ, ◌+◌, ◌-◌, List, ◌++◌, length, ◌⊎◌}
use Rattle.dw_leb.specs.declared.errors.Reason.{Reason}
use Rattle.dw_leb.specs.Part.{Breaks, After}
use Rattle.dw_leb.specs.declared.order.Order.{Order}
use Rattle.dw_leb.specs.Number.{length_field, initial_length, length_size}
use Rattle.dw_leb.specs.declared.errors.SectionId.{SectionId}
use Rattle.dw_leb.specs.declared.errors.SectionId.TheVariants.{Info, Abbrev}
use Rattle.dw_form.specs.declared.shape.Ctx.{Ctx}
use Rattle.dw_abbrev.specs.Table.{Table, TableAt, TableBreaks}
use Rattle.dw_header.specs.declared.versions.Versions.{Versions}
use Rattle.dw_header.specs.declared.versions.Versions.TheVariants.{Five}
use Rattle.dw_header.specs.Header.{Header, Accepts, versions_for, HeaderFits, fields, fields_of, context_of}
use Rattle.dw_header.specs.HeaderPlace.{HeaderAtUnder, HeaderBreaksUnder, header_size}
use Rattle.dw_tree.specs.Tree.{Tree, tree, nulls, AreNulls, PaddingBreaks, unit_tree}
use Rattle.dw_tree.specs.Steps.{TreeAt}

-- a header, the table of its entries' declarations, the root with all entries below it, and the widths of the nulls
-- after it
pub record WholeUnit : Type 0 where
  pub header : Header
  pub table : Table
  pub root : Tree
  pub padding : List ℕ

-- what the initial length counts
abbrev pub body_bytes : WholeUnit → List ℕ
body_bytes u =
    (fields u.header.order u.header.format).spell (fields_of u.header)
    ++ ((unit_tree (context_of u.header) u.table).spell u.root ++ nulls u.padding)

-- the one spelling of a unit: its length is computed from what follows it
abbrev pub bytes_of : WholeUnit → List ℕ
bytes_of u = (length_field u.header.order).spell (u.header.format, length (body_bytes u)) ++ body_bytes u

-- the units that have one
pub record UnitFits (u : WholeUnit) : Type 0 where
  pub length_fits : (initial_length u.header.order 0).Fits (u.header.format, length (body_bytes u))
  pub header_fits : HeaderFits u.header
  pub tree_fits : (unit_tree (context_of u.header) u.table).Fits u.root
  pub padding_fits : AreNulls u.padding

-- the tree of a unit: the root stands behind the header
abbrev pub tree_of : WholeUnit → TreeAt
tree_of u = record { context = context_of u.header; table = u.table; start = header_size u.header; root = u.root }

-- ---- over a table that is handed in; the versions that are accepted are told

-- the unit, of so many bytes, stands at the front of the bytes
pub record UnitFrontUnder (versions : Versions) (order : Order) (bytes : List ℕ) (u : WholeUnit) (size : ℕ)
    : Type 0 where
  pub order_is : u.header.order ≡ order
  pub accepted : Accepts versions u.header.kind
  pub fits : UnitFits u
  pub rest : List ℕ
  pub split : bytes ≡ bytes_of u ++ rest
  pub is_size : length (bytes_of u) ≡ size

-- how many bytes a unit_length leaves behind the header
abbrev pub left_behind : Header → ℕ → ℕ
left_behind h n = length_size h.format + n - header_size h

-- behind its header a unit breaks in its root, or behind a root that is spelled in its padding
abbrev pub EntriesBreak : Ctx → Table → Breaks
EntriesBreak k t bytes lim offset reason = (unit_tree k t).Break bytes lim offset reason
    ⊎ ((root : Tree) × (unit_tree k t).Fits root
    × After ((unit_tree k t).spell root) PaddingBreaks bytes lim offset reason)

-- the entries break, behind a header that is spelled; the table is one that goes with the header's offset
pub record BodyBreaksUnder (versions : Versions) (order : Order) (IsTable : ℕ → Table → Type 0) (bytes : List ℕ)
    (offset : ℕ) (reason : Reason) : Type 0 where
  pub header : Header
  pub count : ℕ
  pub stands : HeaderAtUnder versions order bytes header count
  pub table : Table
  pub is_table : IsTable header.abbrev_offset table
  pub own : ℕ
  pub sum : offset ≡ header_size header + own
  pub breaks : EntriesBreak (context_of header) table stands.1 (left_behind header count) own reason

-- a unit with the table t breaks
abbrev pub UnitBreaksUnder : Versions → Order → Table → List ℕ → ℕ → Reason → Type 0
UnitBreaksUnder versions order t bytes offset reason =
    HeaderBreaksUnder versions order bytes offset reason
    ⊎ BodyBreaksUnder versions order (λ _ s. s ≡ t) bytes offset reason

-- ---- over an abbreviation section

-- the unit, of so many bytes, stands at the front of the bytes, and its table in the section at its header's offset
pub record UnitAtUnder (versions : Versions) (abbreviations : List ℕ) (order : Order) (bytes : List ℕ) (u : WholeUnit)
    (size : ℕ) : Type 0 where
  pub table_at : TableAt abbreviations u.header.abbrev_offset u.table
  pub front : UnitFrontUnder versions order bytes u size

-- the one fault of a unit that can't be read: the header's, else the table's, else the body's
abbrev pub FailsUnder : Versions → Order → List ℕ → List ℕ → SectionId → ℕ → Reason → Type 0
FailsUnder versions order abbreviations bytes Info offset reason =
    HeaderBreaksUnder versions order bytes offset reason
    ⊎ BodyBreaksUnder versions order (TableAt abbreviations) bytes offset reason
FailsUnder versions order abbreviations bytes Abbrev offset reason =
    (h : Header) × (n : ℕ) × HeaderAtUnder versions order bytes h n
    × TableBreaks abbreviations h.abbrev_offset offset reason

-- These bytes are read as this unit: it stands at their front, no other unit does, and they have no fault.
pub record ReadAsUnder (versions : Versions) (abbreviations : List ℕ) (order : Order) (bytes : List ℕ) (u : WholeUnit)
    (size : ℕ) : Type 0 where
  pub there : UnitAtUnder versions abbreviations order bytes u size
  pub only : (v : WholeUnit) (n : ℕ) → UnitAtUnder versions abbreviations order bytes v n → (v ≡ u) × (n ≡ size)
  pub no_fault : (s : SectionId) (offset : ℕ) (reason : Reason)
      → FailsUnder versions order abbreviations bytes s offset reason → ⊥

-- ---- where version 5 alone is accepted

abbrev pub UnitFront : Order → List ℕ → WholeUnit → ℕ → Type 0
UnitFront = UnitFrontUnder Five

abbrev pub BodyBreaks : Order → (ℕ → Table → Type 0) → List ℕ → ℕ → Reason → Type 0
BodyBreaks = BodyBreaksUnder Five

abbrev pub UnitBreaks : Order → Table → List ℕ → ℕ → Reason → Type 0
UnitBreaks = UnitBreaksUnder Five

abbrev pub UnitAt : List ℕ → Order → List ℕ → WholeUnit → ℕ → Type 0
UnitAt = UnitAtUnder Five

abbrev pub Fails : Order → List ℕ → List ℕ → SectionId → ℕ → Reason → Type 0
Fails = FailsUnder Five

-- ---- where the version of the unit is accepted: version 5 alone, or version 4 too for a unit of that version

abbrev pub ReadAs : List ℕ → Order → List ℕ → WholeUnit → ℕ → Type 0
ReadAs abbreviations order bytes u size = ReadAsUnder (versions_for u.header.kind) abbreviations order bytes u size
