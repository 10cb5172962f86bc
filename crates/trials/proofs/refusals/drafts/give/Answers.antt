use Rattle.std.proofs.Common.{length, sym, ap, ◌∙◌}
use Rattle.dw_form.specs.Form.{Attribute}
use Rattle.dw_form.specs.Lent.{attribute_of}
use Rattle.dw_abbrev.specs.PairView.{pair_of}
use Rattle.dw_header.specs.Header.{context_of}
use Rattle.dw_unit.specs.Draft.{Drafted, passes_limit}
use Rattle.trials.proofs.Drafting.{is_spelled, is_next, measured}
use Rattle.trials.proofs.refusals.drafts.give.Goals as goal

pub size_of-requires-clause-spelled : goal.size_of-requires-clause-spelled
size_of-requires-clause-spelled c =
    is_spelled c.args.draft.now _ (attribute_of c.args.value) (pair_of c.in-Some.pair) (c.context-ctx.ensures.context ∙ ap context_of c.header.ensures) c.in-Some.ensures.pair (c.fits.ensures.0 c.if-not-fits.false)

pub give_fitting-requires-clause-fits : goal.give_fitting-requires-clause-fits
give_fitting-requires-clause-fits c =
    is_next c.args.draft.now _ (attribute_of c.args.value) (pair_of c.in-Some.pair) (c.context-ctx.ensures.context ∙ ap context_of c.header.ensures) c.in-Some.ensures.pair (c.fits.ensures.0 c.if-not-fits.false)

pub give_fitting-requires-clause-short : goal.give_fitting-requires-clause-short
give_fitting-requires-clause-short c =
    let d : Drafted = c.args.draft.now in
    let size = measured d _ (attribute_of c.args.value) (pair_of c.in-Some.pair) (c.context-ctx.ensures.context ∙ ap context_of c.header.ensures) c.in-Some.ensures.pair (c.fits.ensures.0 c.if-not-fits.false) in
    ap (passes_limit d) (sym (c.size_of.ensures ∙ size)) ∙ sym c.if-is_too_long.ensures
