use Rattle.std.proofs.Common.{ap, ◌∙◌}
use Rattle.dw_form.specs.declared.shape.Ctx.{Ctx}
use Rattle.dw_header.specs.Header.{context_of}
use Rattle.dw_abbrev.specs.PairView.{pair_of}
use Rattle.dw_feed.specs.FeedInvariant.{context}
use Rattle.dw_feed.specs.PlainValues.{told_size}
use Rattle.dw_feed.proofs.ToldValues.{told_indirect}
use Rattle.dw_feed.proofs.unit_in_parts.UnitInParts.told.Goals as goal

pub returns : goal.returns
returns c =
    c.told_size.ensures ∙ ap (λ (k : Ctx). told_size k (pair_of c.args.pair.now)) (c.context.ensures.context ∙ ap context_of c.header.ensures ∙ ap context c.self.view_is)

pub returns-then-pair-eq-DW_FORM_INDIRECT : goal.returns-then-pair-eq-DW_FORM_INDIRECT
returns-then-pair-eq-DW_FORM_INDIRECT c = told_indirect (context c.args.self.now) (pair_of c.args.pair.now) c.if-pair-eq-DW_FORM_INDIRECT.true
