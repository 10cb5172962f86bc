-- What is kept of the types of a section leads to the first type unit of each signature.
use Rattle.std.proofs.Common.{◌≡◌, ℕ, List, Option, Some, None, sym, ap, ◌∙◌, refl, arith}
use Rattle.std.specs.Prelude.{option_map}
use Rattle.dw_unit.specs.Unit.{WholeUnit}
use Rattle.dw_section.specs.declared.id.EntryId.{EntryId}
use Rattle.dw_section.specs.Item.{Item}
use Rattle.dw_section.specs.Reference.{TypeAt, items_at, first_type, in_type, type_entry, by_signature}
use Rattle.dw_section.specs.Lookup.{unit_at}
use Rattle.dw_section.specs.ReferenceLaws.{type_there}
use Rattle.dw_section.specs.SectionView.{id_of}

-- the entry that is kept under a signature is in a unit, and what the signature names is looked for there
pub record NamesType (xs : List Item) (v : ℕ) (id : EntryId) : Type 0 where
  pub unit : WholeUnit
  pub there : unit_at xs id.item ≡ Some unit
  pub named : by_signature (items_at xs) v ≡ in_type unit id

pub names_type : (xs : List Item) (v : ℕ) (id : EntryId) → Some id ≡ option_map id_of (first_type (items_at xs) v) → NamesType xs v id
names_type xs v id e = by (first_type (items_at xs) v) refl e
  where
    by : (o : Option TypeAt) → first_type (items_at xs) v ≡ o → Some id ≡ option_map id_of o → NamesType xs v id
    by None is f = absurd cc
    by (Some t) is f =
        let same : id ≡ id_of t = cc in
        let found = type_there xs 0 0 v t is in
        let item : id.item ≡ found.0 = ap (λ (i : EntryId). i.item) same ∙ found.1 ∙ omega arith in
        record { unit = t.unit; there = ap (unit_at xs) item ∙ found.2; named = ap type_entry is ∙ ap (in_type t.unit) (sym same) }
