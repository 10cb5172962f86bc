-- An id that is answered for a number is that of an entry.
use Rattle.std.proofs.Common.{◌≡◌, ℕ, List, Option, Some, None, refl, sym}
use Rattle.std.specs.Prelude.{Ok, Err, IsSome, IfOk}
use Rattle.dw_form.specs.Form.{at_number}
use Rattle.dw_tree.specs.Lent.{EntryAt}
use Rattle.dw_unit.specs.Unit.{WholeUnit}
use Rattle.dw_section.specs.Item.{Item}
use Rattle.dw_section.specs.Reference.{Target, ref_forms, named_by}
use Rattle.dw_section.specs.Lookup.{unit_at, entry}
use Rattle.dw_section.specs.ReferenceLaws.{kind_names}

pub unit_there : (o : Option WholeUnit) → IsSome o → (u : WholeUnit) × (o ≡ Some u)
unit_there None h = absurd cc
unit_there (Some u) h = (u, refl)

pub ok_names : (items : List Item) (item form v : ℕ) (u : WholeUnit) → unit_at items item ≡ Some u → (t : Target) → t ≡ named_by items item u v (at_number form ref_forms) → IfOk t (λ id. (e : EntryAt) × (entry items id ≡ Some e) × (e.offset ≡ id.offset))
ok_names items item form v u there (Ok id) is = let names = kind_names items item form v id u there (at_number form ref_forms) refl (sym is) in (names.entry_at, names.is_entry, names.offset_is)
ok_names items item form v u there (Err why) is = tt
