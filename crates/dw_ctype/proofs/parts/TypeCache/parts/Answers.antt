use Rattle.std.proofs.Common.{sym, subst}
use Rattle.dw_section.specs.Lookup.{entry}
use Rattle.dw_section.specs.declared.id.EntryId.{EntryId}
use Rattle.dw_ctype.specs.declared.parts.Parts.{Parts}
use Rattle.dw_ctype.specs.Parts.{ArePartsOf}
use Rattle.dw_ctype.proofs.Gathered.{kept_at, same_id}
use Rattle.dw_ctype.proofs.parts.TypeCache.parts.Goals as goal

pub returns-in-Some : goal.returns-in-Some
returns-in-Some c =
    let items = c.self.inside.section.now.items in
    let id : EntryId = c.args.id in
    let are : ArePartsOf items id.item (entry items id) c.in-Some.parts.now.value =
    kept_at (λ (k : EntryId) (p : _). ArePartsOf items k.item (entry items k) p.value) c.self.inside.parts.entries id _ c.in-Some.parts.now (λ other is. same_id id other is) c.self.invariant (sym c.in-Some.ensures.value) in
    rw (← c.self.view_is) (subst (λ (p : Parts). ArePartsOf items id.item (entry items id) p) (sym c.deref.ensures) are)
