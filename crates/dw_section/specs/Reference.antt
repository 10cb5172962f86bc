-- What a reference names, and why one names nothing (sections 2.2 and 7.5.5).
use Rattle.std.specs.Prelude.{ℕ, suc, ◌+◌, ◌-◌, List, [], ◌∷◌, length, Option, Some, None, Result, Ok, Err, nat_lt, nat_le, ◌==◌, if◌then◌else◌}
use Rattle.dw_leb.specs.Constants.{DW_FORM_GNU_ref_alt, DW_FORM_ref1, DW_FORM_ref2, DW_FORM_ref4, DW_FORM_ref8}
use Rattle.dw_leb.specs.Constants.{DW_FORM_ref_addr, DW_FORM_ref_sig8, DW_FORM_ref_sup4, DW_FORM_ref_sup8}
use Rattle.dw_leb.specs.Constants.{DW_FORM_ref_udata}
use Rattle.dw_form.specs.Form.{Value, at_number}
use Rattle.dw_form.specs.Lent.{number_in}
use Rattle.dw_header.specs.declared.kind.Kind.{Kind}
use Rattle.dw_header.specs.declared.kind.Kind.TheVariants.{Compile, Partial, TypeUnit, Skeleton, Four}
use Rattle.dw_tree.specs.Lent.{EntryAt, entries_of, find_at}
use Rattle.dw_unit.specs.Unit.{WholeUnit, tree_of, bytes_of}
use Rattle.dw_section.specs.declared.id.EntryId.{EntryId}
use Rattle.dw_section.specs.declared.id.RefFault.{RefFault}
use Rattle.dw_section.specs.declared.id.RefFault.TheVariants.{NotReference, OutsideUnit, OutsideSection, NotAnEntry, InOther, NoSignature, BadTypeOffset, Supplementary}
use Rattle.dw_section.specs.declared.resolve.RefKind.{RefKind}
use Rattle.dw_section.specs.declared.resolve.RefKind.TheVariants.{InUnit, InSection, BySignature, Elsewhere}
use Rattle.dw_section.specs.Item.{Item, Known, Other, item_bytes}

abbrev pub Target : Type 0
Target = Result EntryId RefFault

-- ---- where entries begin

abbrev pub unless_found : RefFault → EntryId → Option EntryAt → Target
unless_found why id None = Err why
unless_found why id (Some e) = Ok id

-- the entry of the unit that begins exactly there: a search of all entries
abbrev pub entry_in : RefFault → WholeUnit → EntryId → Target
entry_in why u id = unless_found why id (find_at id.offset (entries_of (tree_of u)))

-- an item with its number and its start
pub record ItemAt : Type 0 where
  pub number : ℕ
  pub start : ℕ
  pub item : Item

-- the items with their numbers and starts, the first of which has this number and start
abbrev pub items_from : ℕ → ℕ → List Item → List ItemAt
items_from number start [] = []
items_from number start (x ∷ xs) =
    record { number = number; start = start; item = x } ∷ items_from (suc number) (start + length (item_bytes x)) xs

abbrev pub items_at : List Item → List ItemAt
items_at items = items_from 0 0 items

-- ---- the kinds of references

-- an offset from the unit's first byte
abbrev pub in_unit : ℕ → WholeUnit → ℕ → Target
in_unit item u v =
    if nat_le (length (bytes_of u)) v then Err OutsideUnit
    else entry_in NotAnEntry u (record { item = item; offset = v })

abbrev pub in_item : ℕ → ℕ → Item → Target
in_item number offset (Known u) = entry_in NotAnEntry u (record { item = number; offset = offset })
in_item number offset (Other bytes) = Err InOther

-- an offset from the section's first byte: in the first item that ends past it
abbrev pub in_section : List ItemAt → ℕ → Target
in_section [] v = Err OutsideSection
in_section (p ∷ ps) v =
    if nat_lt v (p.start + length (item_bytes p.item)) then in_item p.number (v - p.start) p.item else in_section ps v

-- the type offset of a unit with this signature
abbrev pub type_offset_if : ℕ → Kind → Option ℕ
type_offset_if v (TypeUnit signature offset) = if signature == v then Some offset else None
type_offset_if v Compile = None
type_offset_if v Partial = None
type_offset_if v (Skeleton id) = None
type_offset_if v Four = None

-- a type unit: its number, itself, and the offset of its type
pub record TypeAt : Type 0 where
  pub number : ℕ
  pub unit : WholeUnit
  pub offset : ℕ

abbrev pub type_with : ℕ → WholeUnit → Option ℕ → Option TypeAt
type_with number u None = None
type_with number u (Some offset) = Some (record { number = number; unit = u; offset = offset })

abbrev pub type_in : ℕ → ℕ → Item → Option TypeAt
type_in v number (Known u) = type_with number u (type_offset_if v u.header.kind)
type_in v number (Other bytes) = None

abbrev pub earlier : Option TypeAt → Option TypeAt → Option TypeAt
earlier None later = later
earlier (Some t) later = Some t

-- the first type unit with the signature
abbrev pub first_type : List ItemAt → ℕ → Option TypeAt
first_type [] v = None
first_type (p ∷ ps) v = earlier (type_in v p.number p.item) (first_type ps v)

-- the entry of a type unit's type
abbrev pub in_type : WholeUnit → EntryId → Target
in_type u id = entry_in BadTypeOffset u id

abbrev pub type_entry : Option TypeAt → Target
type_entry None = Err NoSignature
type_entry (Some t) = in_type t.unit (record { item = t.number; offset = t.offset })

abbrev pub by_signature : List ItemAt → ℕ → Target
by_signature ps v = type_entry (first_type ps v)

-- the forms of references: ref1, ref2, ref4, ref8, ref_udata; ref_addr; ref_sig8; ref_sup4, ref_sup8, GNU_ref_alt
abbrev pub ref_forms : List (ℕ × RefKind)
ref_forms =
    (DW_FORM_ref1, InUnit)
    ∷ (DW_FORM_ref2, InUnit)
    ∷ (DW_FORM_ref4, InUnit)
    ∷ (DW_FORM_ref8, InUnit)
    ∷ (DW_FORM_ref_udata, InUnit)
    ∷ (DW_FORM_ref_addr, InSection)
    ∷ (DW_FORM_ref_sig8, BySignature)
    ∷ (DW_FORM_ref_sup4, Elsewhere)
    ∷ (DW_FORM_ref_sup8, Elsewhere)
    ∷ (DW_FORM_GNU_ref_alt, Elsewhere)
    ∷ []

abbrev pub named_by : List Item → ℕ → WholeUnit → ℕ → Option RefKind → Target
named_by items item u v None = Err NotReference
named_by items item u v (Some InUnit) = in_unit item u v
named_by items item u v (Some InSection) = in_section (items_at items) v
named_by items item u v (Some BySignature) = by_signature (items_at items) v
named_by items item u v (Some Elsewhere) = Err Supplementary

abbrev pub named_if : List Item → ℕ → WholeUnit → ℕ → Option ℕ → Target
named_if items item u form None = Err NotReference
named_if items item u form (Some v) = named_by items item u v (at_number form ref_forms)

-- what a value under a form names, where it stands in the unit that is this item of the section
abbrev pub named : List Item → ℕ → WholeUnit → ℕ → Value → Target
named items item u form value = named_if items item u form (number_in value)
