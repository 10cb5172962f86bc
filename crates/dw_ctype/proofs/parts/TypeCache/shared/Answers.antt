use Rattle.std.proofs.Common.{◌≡◌, Some, sym, subst}
use Rattle.dw_section.specs.Section.{WholeSection}
use Rattle.dw_section.specs.Lookup.{entry}
use Rattle.dw_section.specs.declared.id.EntryId.{EntryId}
use Rattle.dw_ctype.specs.declared.parts.Parts.{Parts}
use Rattle.dw_ctype.specs.Parts.{ArePartsOf}
use Rattle.dw_ctype.proofs.Gathered.{kept_at, kept_more, parts_kept, same_id}
use Rattle.dw_ctype.proofs.parts.TypeCache.shared.Goals as goal

pub invariant_of-self-2 : goal.invariant_of-self-2
invariant_of-self-2 c =
    let items = c.self.inside.section.now.items in
    let id : EntryId = c.args.id in
    let there : entry items id ≡ Some c.args.entry.now = subst (λ (s : WholeSection). entry s.items id ≡ Some c.args.entry.now) (sym c.self.view_is) c.requires in
    let parts : Parts = record { types = c.in_ok-types.types; shown = c.in_ok-shown.shown } in
    let are : ArePartsOf items id.item (entry items id) c.in_ok-parts.parts.value =
    subst (λ (p : Parts). ArePartsOf items id.item (entry items id) p) (sym c.in_ok-parts.ensures.ok) (parts_kept items id c.args.entry.now parts there c.in_ok-types.ensures c.in_ok-shown.ensures) in
    rw c.in_ok-insert.ensures.entries
    (kept_more (λ (k : EntryId) (p : _). ArePartsOf items k.item (entry items k) p.value) _ c.self.inside.parts.entries id c.in_ok-parts.parts (λ other is. same_id id other is) c.self.invariant are)

pub returns-in-Some-clause-parts : goal.returns-in-Some-clause-parts
returns-in-Some-clause-parts c =
    let items = c.self.inside.section.now.items in
    let id : EntryId = c.args.id in
    let are : ArePartsOf items id.item (entry items id) c.in-Some.parts.now.value =
    kept_at (λ (k : EntryId) (p : _). ArePartsOf items k.item (entry items k) p.value) c.self.inside.parts.entries id _ c.in-Some.parts.now (λ other is. same_id id other is) c.self.invariant (sym c.in-Some.ensures.value) in
    rw (← c.self.view_is) (subst (λ (p : Parts). ArePartsOf items id.item (entry items id) p) (sym c.in_ok-clone.ensures.cases) are)
