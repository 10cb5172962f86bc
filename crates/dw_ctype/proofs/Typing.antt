-- A step of the search behind qualifiers.
use Rattle.std.proofs.Common.{◌≡◌, ◌<◌, ◌-◌, ℕ, zero, suc, List, Some, ap, ◌∙◌, arith}
use Rattle.dw_tree.specs.Lent.{EntryAt}
use Rattle.dw_section.specs.Item.{Item}
use Rattle.dw_section.specs.Lookup.{entry}
use Rattle.dw_section.specs.declared.id.EntryId.{EntryId}
use Rattle.dw_ctype.specs.declared.kind.Kind.{Kind}
use Rattle.dw_ctype.specs.declared.kind.Kind.TheVariants.{Qualified}
use Rattle.dw_ctype.specs.declared.kind.Qualifier.{Qualifier}
use Rattle.dw_ctype.specs.declared.typed.Typed.{Typed}
use Rattle.dw_ctype.specs.declared.typed.Typed.TheVariants.{Entry}
use Rattle.dw_ctype.specs.Types.{kind_of, type_of, unqualified, under, under_type, under_entry}

pub under_next : (items : List Item) (steps i : ℕ) (e target : EntryAt) (q : Qualifier) (id : EntryId) → 0 < steps → kind_of e ≡ Qualified q → type_of items i e ≡ Entry id → entry items id ≡ Some target → under items steps i e ≡ under items (steps - 1) id.item target
under_next items zero i e target q id some k t x = absurd (omega (arith, some))
under_next items (suc n) i e target q id some k t x =
    let same : n ≡ suc n - 1 = omega arith in
    ap (λ (k : Kind). unqualified k (under_type (under items n) items (type_of items i e))) k ∙ ap (λ (t : Typed). under_type (under items n) items t) t ∙ ap (under_entry (under items n) id.item) x ∙ ap (λ (m : ℕ). under items m id.item target) same
