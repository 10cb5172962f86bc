-- The law of references: its proof.
use Rattle.std.proofs.Common.{Bool, true, false, ◌≡◌, ℕ, suc, ◌+◌, List, [], ◌∷◌, length, Option, Some, None, refl, sym, ap, ◌∙◌, arith}
use Rattle.std.specs.Prelude.{Ok, Err, nat_le, if◌then◌else◌}
use Rattle.dw_form.specs.Form.{at_number}
use Rattle.dw_form.specs.Lent.{number_in}
use Rattle.dw_tree.specs.Lent.{EntryAt, entries_of, find_at}
use Rattle.dw_unit.specs.Unit.{WholeUnit, tree_of, bytes_of}
use Rattle.dw_section.specs.declared.id.EntryId.{EntryId}
use Rattle.dw_section.specs.declared.id.RefFault.{RefFault}
use Rattle.dw_section.specs.declared.id.RefFault.TheVariants.{NotAnEntry, BadTypeOffset, OutsideUnit}
use Rattle.dw_section.specs.declared.resolve.RefKind.{RefKind}
use Rattle.dw_section.specs.declared.resolve.RefKind.TheVariants.{InUnit, InSection, BySignature, Elsewhere}
use Rattle.dw_section.specs.Item.{Item, Known, Other, item_bytes}
use Rattle.dw_section.specs.Reference.{unless_found, entry_in, TypeAt, type_offset_if, type_with, type_in, earlier, items_from, items_at, first_type, type_entry, ref_forms, named_by, named_if}
use Rattle.dw_section.specs.Lookup.{known_of, unit_at, entry_of, entry}
use Rattle.dw_section.specs.Found.{BeginsAt, found_begins, found_offset, InUnit as EntryInUnit, entry_in_unit}
use Rattle.dw_section.specs.Laws.{NamedAs, NamesEntry, ReferencesNameEntries}

-- ---- the first type unit of a signature stands in the section

-- a type unit is the item's own
with_is : (number : ℕ) (u : WholeUnit) (o : Option ℕ) (t : TypeAt) → type_with number u o ≡ Some t
    → (t.number ≡ number) × (u ≡ t.unit)
with_is number u None t e = absurd cc
with_is number u (Some offset) t e =
    let same : (record { number = number; unit = u; offset = offset }) ≡ t = cc in
    (ap (λ (s : TypeAt). s.number) (sym same), ap (λ (s : TypeAt). s.unit) same)

type_in_is : (v number : ℕ) (x : Item) (t : TypeAt) → type_in v number x ≡ Some t
    → (t.number ≡ number) × (known_of (Some x) ≡ Some t.unit)
type_in_is v number (Known u) t e =
    let both = with_is number u (type_offset_if v u.header.kind) t e in (both.0, ap Some both.1)
type_in_is v number (Other bytes) t e = absurd cc

pub type_there : (xs : List Item) (number start v : ℕ) (t : TypeAt) → first_type (items_from number start xs) v ≡ Some t
    → (i : ℕ) × (t.number ≡ number + i) × (unit_at xs i ≡ Some t.unit)
type_there [] number start v t e = absurd cc
type_there (x ∷ xs) number start v t e =
    by (type_in v number x) refl e (λ f. type_there xs (suc number) (start + length (item_bytes x)) v t f)
  where
    by : (o : Option TypeAt) → type_in v number x ≡ o
        → earlier o (first_type (items_from (suc number) (start + length (item_bytes x)) xs) v) ≡ Some t
        → (first_type (items_from (suc number) (start + length (item_bytes x)) xs) v ≡ Some t
        → (i : ℕ) × (t.number ≡ suc number + i) × (unit_at xs i ≡ Some t.unit))
        → (i : ℕ) × (t.number ≡ number + i) × (unit_at (x ∷ xs) i ≡ Some t.unit)
    by (Some s) is f later = let both = type_in_is v number x t (is ∙ f) in (0, omega (arith, both.0), both.1)
    by None is f later = let found = later f in (suc found.0, omega (arith, found.1), found.2)

-- ---- an entry that is looked for in a unit

pub record FoundIn (u : WholeUnit) (sought id : EntryId) : Type 0 where
  pub entry_at : EntryAt
  pub found : find_at sought.offset (entries_of (tree_of u)) ≡ Some entry_at
  pub same : sought ≡ id

found_in : (why : RefFault) (u : WholeUnit) (sought id : EntryId) → entry_in why u sought ≡ Ok id → FoundIn u sought id
found_in why u sought id e = by (find_at sought.offset (entries_of (tree_of u))) refl e
  where
    by : (o : Option EntryAt) → find_at sought.offset (entries_of (tree_of u)) ≡ o → unless_found why sought o ≡ Ok id
        → FoundIn u sought id
    by None is f = absurd cc
    by (Some n) is f = let same : sought ≡ id = cc in record { entry_at = n; found = is; same = same }

module _ (items : List Item) (item form v : ℕ) (id : EntryId) where
  -- in a unit of the section
  names_in : (kind : RefKind) → at_number form ref_forms ≡ Some kind → (u : WholeUnit) (sought : EntryId)
      → unit_at items sought.item ≡ Some u → FoundIn u sought id
      → ((e : EntryAt) → sought ≡ id → NamedAs items item v id e kind) → NamesEntry items item form v id
  names_in kind is u sought there f by =
      let is_entry : entry items sought ≡ Some f.entry_at =
      ap (λ (o : Option WholeUnit). entry_of o sought.offset) there ∙ f.found in
      record {
        kind = kind;
        is_kind = is;
        entry_at = f.entry_at;
        is_entry = ap (entry items) (sym f.same) ∙ is_entry;
        offset_is =
            found_offset sought.offset (entries_of (tree_of u)) f.entry_at f.found
            ∙ ap (λ (i : EntryId). i.offset) f.same;
        by = by f.entry_at f.same;
      }

  in_unit_names : at_number form ref_forms ≡ Some InUnit → (u : WholeUnit) → unit_at items item ≡ Some u → (b : Bool)
      → (if b then Err OutsideUnit else entry_in NotAnEntry u (record { item = item; offset = v })) ≡ Ok id
      → NamesEntry items item form v id
  in_unit_names is u there true e = absurd cc
  in_unit_names is u there false e =
      names_in InUnit is u (record { item = item; offset = v }) there
      (found_in NotAnEntry u (record { item = item; offset = v }) id e) (λ _ same. sym same)

  in_section_names : at_number form ref_forms ≡ Some InSection → (e : EntryAt) → BeginsAt items id e v
      → NamesEntry items item form v id
  in_section_names is e h =
      let i : EntryInUnit items id e = entry_in_unit items id e h.is_entry in
      record {
        kind = InSection;
        is_kind = is;
        entry_at = e;
        is_entry = h.is_entry;
        offset_is = found_offset id.offset (entries_of (tree_of i.unit)) e i.found;
        by = h;
      }

  by_signature_names : at_number form ref_forms ≡ Some BySignature → (o : Option TypeAt)
      → first_type (items_at items) v ≡ o → type_entry o ≡ Ok id → NamesEntry items item form v id
  by_signature_names is None first e = absurd cc
  by_signature_names is (Some t) first e =
      let there = type_there items 0 0 v t first in
      let sought : EntryId = record { item = t.number; offset = t.offset } in
      let number : t.number ≡ there.0 = there.1 ∙ omega arith in
      names_in BySignature is t.unit sought (ap (unit_at items) number ∙ there.2)
      (found_in BadTypeOffset t.unit sought id e) (λ _ same. (t, first, sym same))

  pub kind_names : (u : WholeUnit) → unit_at items item ≡ Some u → (o : Option RefKind) → at_number form ref_forms ≡ o
      → named_by items item u v o ≡ Ok id → NamesEntry items item form v id
  kind_names u there None is e = absurd cc
  kind_names u there (Some InUnit) is e = in_unit_names is u there (nat_le (length (bytes_of u)) v) e
  kind_names u there (Some InSection) is e =
      let begins = found_begins items v id e in in_section_names is begins.0 begins.1
  kind_names u there (Some BySignature) is e = by_signature_names is (first_type (items_at items) v) refl e
  kind_names u there (Some Elsewhere) is e = absurd cc

pub references_name_entries : ReferencesNameEntries
references_name_entries items item u there form value id e = by (number_in value) refl e
  where
    by : (o : Option ℕ) → number_in value ≡ o → named_if items item u form o ≡ Ok id
        → (v : ℕ) × (number_in value ≡ Some v) × NamesEntry items item form v id
    by None is f = absurd cc
    by (Some v) is f = (v, is, kind_names items item form v id u there (at_number form ref_forms) refl f)
