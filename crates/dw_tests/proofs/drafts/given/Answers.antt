use Rattle.std.proofs.Common.{◌≡◌, false, length, sym, ap, subst, ◌∙◌}
use Rattle.dw_form.specs.Form.{Attribute}
use Rattle.dw_form.specs.Lent.{attribute_of}
use Rattle.dw_abbrev.specs.PairView.{pair_of}
use Rattle.dw_tree.specs.Steps.{NextFits}
use Rattle.dw_header.specs.Header.{context_of}
use Rattle.dw_unit.specs.Draft.{Drafted, passes_limit, value_bytes}
use Rattle.dw_tests.proofs.Drafting.{is_spelled, is_next, measured}
use Rattle.dw_tests.proofs.drafts.given.Goals as goal

pub size_of-requires-clause-spelled : goal.size_of-requires-clause-spelled
size_of-requires-clause-spelled c =
    is_spelled c.args.draft.now _ (attribute_of c.args.value) (pair_of c.in-Some.pair) (c.context-ctx.ensures.context ∙ ap context_of c.header.ensures) c.in-Some.ensures.pair (c.fits.ensures.0 c.if-not-fits.false)

pub value-requires-clause-fits : goal.value-requires-clause-fits
value-requires-clause-fits c =
    is_next c.args.draft.now _ (attribute_of c.args.value) (pair_of c.in-Some.pair) (c.context-ctx.ensures.context ∙ ap context_of c.header.ensures) c.in-Some.ensures.pair (c.fits.ensures.0 c.if-not-fits.false)

pub value-requires-clause-short : goal.value-requires-clause-short
value-requires-clause-short c =
    let d : Drafted = c.args.draft.now in
    let size = measured d _ (attribute_of c.args.value) (pair_of c.in-Some.pair) (c.context-ctx.ensures.context ∙ ap context_of c.header.ensures) c.in-Some.ensures.pair (c.fits.ensures.0 c.if-not-fits.false) in
    ap (passes_limit d) (sym (c.size_of.ensures ∙ size)) ∙ sym c.if-is_too_long.ensures

pub value-requires-in-Err-clause-fits : goal.value-requires-in-Err-clause-fits
value-requires-in-Err-clause-fits c =
    let v : Attribute = attribute_of c.args.value in
    let next = is_next c.args.draft.now _ v (pair_of c.in-Some.pair) (c.context-ctx.ensures.context ∙ ap context_of c.header.ensures) c.in-Some.ensures.pair (c.fits.ensures.0 c.if-not-fits.false) in
    subst (λ (x : Drafted). NextFits (context_of x.header) x.table x.place.unfinished v) (sym c.in-Err.ensures.err) next

pub value-requires-in-Err-clause-short : goal.value-requires-in-Err-clause-short
value-requires-in-Err-clause-short c =
    let d : Drafted = c.args.draft.now in
    let v : Attribute = attribute_of c.args.value in
    let size = measured d _ v (pair_of c.in-Some.pair) (c.context-ctx.ensures.context ∙ ap context_of c.header.ensures) c.in-Some.ensures.pair (c.fits.ensures.0 c.if-not-fits.false) in
    let short : passes_limit d (length (value_bytes d v)) ≡ false = ap (passes_limit d) (sym (c.size_of.ensures ∙ size)) ∙ sym c.if-is_too_long.ensures in
    subst (λ (x : Drafted). passes_limit x (length (value_bytes x v)) ≡ false) (sym c.in-Err.ensures.err) short
