-- The program's units, and errors of reading one, as those of the definitions.
use Rattle.std.specs.Prelude.{◌≡◌, ◌≤◌, ◌<◌, ℕ, Bool, true, false, Option, Some, None, List, length, ◌⊎◌}
use Rattle.std.proofs.Common.{refl}
use Rattle.std.specs.Coded.{Coded, code_by, coded×, coded⊎, coded_ℕ, coded_list, coded_bool, coded_option}
use mathlib.Core.Logic.{inl, inr}
use Rattle.dw_leb.specs.declared.order.Order.{Order}
use Rattle.dw_leb.specs.declared.order.Format.{Format}
use Rattle.dw_leb.specs.declared.errors.ReadError.{ReadError}
use Rattle.dw_leb.specs.declared.errors.ReadError.TheVariants as reads
use Rattle.dw_leb.specs.declared.errors.SectionId.TheVariants.{Info}
use Rattle.dw_abbrev.specs.Table.{Table}
use Rattle.dw_tree.specs.Tree.{Tree}
use Rattle.dw_tree.specs.Codes.{order_code, format_code, table_code, tree_code}
use Rattle.dw_tree.specs.Steps.{TreeAt}
use Rattle.dw_header.specs.declared.kind.Kind.{Kind}
use Rattle.dw_header.specs.declared.kind.Kind.TheVariants.{Compile, Partial, TypeUnit, Skeleton, Four}
use Rattle.dw_header.specs.declared.versions.Versions.{Versions}
use Rattle.dw_header.specs.declared.versions.Versions.TheVariants.{Five}
use Rattle.dw_header.specs.Header.{Header}
use Rattle.dw_header.specs.HeaderPlace.{HeaderAtUnder}
use Rattle.dw_unit.specs.Unit.{WholeUnit, bytes_of, tree_of, UnitFits, FailsUnder}

-- An error of reading a unit: a fault is the first one. A reading without a reader has no reader's error.
abbrev pub IsUnitErrorUnder : Versions → List ℕ → Order → List ℕ → ReadError → Type 0
IsUnitErrorUnder versions abbreviations order bytes (reads.Fault f) =
    FailsUnder versions order abbreviations bytes f.section f.offset f.reason
IsUnitErrorUnder versions abbreviations order bytes reads.NoMemory = Unit {0}
IsUnitErrorUnder versions abbreviations order bytes (reads.Io kind) = ⊥

-- A fault in the unit's own bytes stands within so many bytes, or just behind them.
abbrev pub FaultWithin : ℕ → ReadError → Type 0
FaultWithin n (reads.Fault f) = f.section ≡ Info → f.offset ≤ n
FaultWithin n reads.NoMemory = Unit {0}
FaultWithin n (reads.Io kind) = Unit {0}

-- a header stands at the front, and the offset of its table lies in the abbreviation section
pub record NamesTableUnder (versions : Versions) (abbreviations : List ℕ) (order : Order) (bytes : List ℕ)
    : Type 0 where
  pub header : Header
  pub count : ℕ
  pub stands : HeaderAtUnder versions order bytes header count
  pub inside : header.abbrev_offset < length abbreviations

-- the same where version 5 alone is accepted
abbrev pub IsUnitError : List ℕ → Order → List ℕ → ReadError → Type 0
IsUnitError = IsUnitErrorUnder Five

abbrev pub NamesTable : List ℕ → Order → List ℕ → Type 0
NamesTable = NamesTableUnder Five

-- what a unit keeps: its tree, a spelling, and its size
pub record IsUnit (u : WholeUnit) (tree : TreeAt) (size : ℕ) : Type 0 where
  pub fits : UnitFits u
  pub tree_is : tree ≡ tree_of u
  pub sized : length (bytes_of u) ≡ size

-- ---- how the logic stores a unit

abbrev KindParts : Type 0
KindParts = Option Bool ⊎ ((ℕ × ℕ) ⊎ ℕ)

abbrev from_kind : Kind → KindParts
from_kind Compile = inl (Some true)
from_kind Partial = inl (Some false)
from_kind Four = inl None
from_kind (TypeUnit signature offset) = inr (inl (signature, offset))
from_kind (Skeleton id) = inr (inr id)

abbrev to_kind : KindParts → Kind
to_kind (inl (Some true)) = Compile
to_kind (inl (Some false)) = Partial
to_kind (inl None) = Four
to_kind (inr (inl p)) = TypeUnit p.0 p.1
to_kind (inr (inr id)) = Skeleton id

pub to_kind-from_kind : (k : Kind) → to_kind (from_kind k) ≡ k
to_kind-from_kind Compile = refl
to_kind-from_kind Partial = refl
to_kind-from_kind (TypeUnit signature offset) = refl
to_kind-from_kind (Skeleton id) = refl
to_kind-from_kind Four = refl

abbrev kind_code : Coded Kind
kind_code =
    code_by KindParts (coded⊎ (coded_option coded_bool) (coded⊎ (coded× coded_ℕ coded_ℕ) coded_ℕ)) from_kind to_kind
    to_kind-from_kind

abbrev pub header_code : Coded Header
header_code =
    code_by (Order × (Format × (Kind × (ℕ × ℕ))))
    (coded× order_code (coded× format_code (coded× kind_code (coded× coded_ℕ coded_ℕ))))
    (λ h. (h.order, (h.format, (h.kind, (h.address_size, h.abbrev_offset)))))
    (λ p. record { order = p.0; format = p.1.0; kind = p.1.1.0; address_size = p.1.1.1.0; abbrev_offset = p.1.1.1.1 })
    (λ _. refl)

abbrev pub unit_code : Coded WholeUnit
unit_code =
    code_by (Header × (Table × (Tree × List ℕ)))
    (coded× header_code (coded× table_code (coded× tree_code (coded_list coded_ℕ))))
    (λ u. (u.header, (u.table, (u.root, u.padding))))
    (λ p. record { header = p.0; table = p.1.0; root = p.1.1.0; padding = p.1.1.1 }) (λ _. refl)
