use Rattle.std.proofs.Common.{◌≡◌, ℕ, true, false, None, map, refl, sym, ap, subst, ◌∙◌}
use Rattle.dw_leb.specs.Number.{Unsigned}
use Rattle.dw_leb.specs.View.{uleb_of}
use Rattle.dw_form.specs.Lent.{attribute_of}
use Rattle.dw_abbrev.specs.Table.{declared}
use Rattle.dw_tree.specs.Tree.{declared_pairs}
use Rattle.dw_header.specs.Header.{context_of}
use Rattle.dw_unit.specs.Draft.{Drafted, passes_limit}
use Rattle.dw_unit.specs.Build.{Building, draft_of, building_of, is_known, is_too_long, entry_size, opened, place_refusal, ValuesFit}
use Rattle.dw_unit.proofs.OpenLemmas.{free_when, size_is, same_draft, opened_is, known_some}
use Rattle.dw_unit.proofs.builder.UnitBuilder.open.Goals as goal

pub put_entry-requires-clause-level : goal.put_entry-requires-clause-level
put_entry-requires-clause-level c =
    let free : None ≡ place_refusal c.self.inside.draft.place.spot = c.in_default.ensures ∙ ap (λ (b : Building). place_refusal b.spot) (sym c.self.view_is) in
    (free_when c.self.inside.draft.place.spot free).level

pub put_entry-requires-clause-short : goal.put_entry-requires-clause-short
put_entry-requires-clause-short c =
    let d : Drafted = c.self.inside.draft in
    let b : Building = building_of d in
    let code : Unsigned = uleb_of c.args.code in
    let vs = map attribute_of c.args.values.now in
    let size = size_is b code vs (context_of d.header) (declared_pairs (declared d.table code.value)) refl refl in
    let short : is_too_long b (entry_size b code vs) ≡ false = subst (λ (x : Building). is_too_long x (entry_size x code vs) ≡ false) (sym c.self.view_is) c.in_ok-judged.ensures.short in
    ap (λ (n : ℕ). passes_limit d n) (sym size) ∙ (ap (λ (x : Drafted). passes_limit x (entry_size b code vs)) (sym (same_draft d c.self.invariant)) ∙ short)

pub invariant_of-self-2 : goal.invariant_of-self-2
invariant_of-self-2 c =
    let d : Drafted = c.self.inside.draft in
    let b : Building = building_of d in
    let code : Unsigned = uleb_of c.args.code in
    let vs = map attribute_of c.args.values.now in
    let known : is_known b.table code ≡ true = subst (λ (x : Building). is_known x.table code ≡ true) (sym c.self.view_is) c.in_ok-judged.ensures.known in
    let fits : ValuesFit b code vs = subst (λ (x : Building). ValuesFit x code vs) (sym c.self.view_is) c.in_ok-judged.ensures.fits in
    let put : c.put_entry.new.draft ≡ draft_of (opened code vs b) = c.in_ok-put_entry.ensures.ok ∙ opened_is d code vs (known_some d.table code known) fits in
    ap (λ (x : Drafted). x.place.unfinished) put

pub returns-clause-opened : goal.returns-clause-opened
returns-clause-opened c =
    let d : Drafted = c.self.inside.draft in
    let b : Building = building_of d in
    let code : Unsigned = uleb_of c.args.code in
    let vs = map attribute_of c.args.values.now in
    let known : is_known b.table code ≡ true = subst (λ (x : Building). is_known x.table code ≡ true) (sym c.self.view_is) c.in_ok-judged.ensures.known in
    let fits : ValuesFit b code vs = subst (λ (x : Building). ValuesFit x code vs) (sym c.self.view_is) c.in_ok-judged.ensures.fits in
    let put : c.put_entry.new.draft ≡ draft_of (opened code vs b) = c.in_ok-put_entry.ensures.ok ∙ opened_is d code vs (known_some d.table code known) fits in
    ap building_of put ∙ ap (opened code vs) c.self.view_is
