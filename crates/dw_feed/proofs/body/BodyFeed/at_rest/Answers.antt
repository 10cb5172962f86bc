use Rattle.std.proofs.Common.{◌≡◌, [], Option, sym, ap, subst, ◌∙◌}
use Rattle.dw_feed.specs.declared.progress.Progress.TheVariants as answers
use Rattle.dw_feed.specs.BodyFeed.{PartialUnit, BodyFeed, Reading, Refused, FeedsBody}
use Rattle.dw_feed.specs.BodyFeedView.{feed_of, IsBodyFeed}
use Rattle.dw_feed.specs.EmptyPiece.{rests_more, rests_fault}
use Rattle.dw_feed.specs.FieldSteps.{told, told_not}
use Rattle.dw_feed.proofs.body.BodyFeed.at_rest.Goals as goal

pub returns-then-is_cut-clause-feeds : goal.returns-then-is_cut-clause-feeds
returns-then-is_cut-clause-feeds c =
    let g : PartialUnit = c.in-Some.coming in
    let old : Reading g ≡ c.args.self.now = ap (λ (o : Option PartialUnit). feed_of o c.self.inside.fault) (sym c.in-Some.is) ∙ c.self.view_is in
    subst (λ (f : BodyFeed). FeedsBody f [] 0 answers.More f) old (rests_more g c.cut_off-fault.result c.cut_off-fault.ensures (told c.is_cut.result c.is_cut.ensures c.if-is_cut.true))

pub returns-clause-feeds : goal.returns-clause-feeds
returns-clause-feeds c =
    let g : PartialUnit = c.in-Some.coming in
    let old : Reading g ≡ c.args.self.now = ap (λ (o : Option PartialUnit). feed_of o c.self.inside.fault) (sym c.in-Some.is) ∙ c.self.view_is in
    let kept : IsBodyFeed (Reading g) = subst (λ (o : Option PartialUnit). IsBodyFeed (feed_of o c.self.inside.fault)) c.in-Some.is c.self.invariant in
    subst (λ (f : BodyFeed). FeedsBody f [] 0 (answers.Fault c.cut_off-fault.result) (Refused c.cut_off-fault.result)) old
    (rests_fault g c.cut_off-fault.result kept.0 c.cut_off-fault.ensures (told_not c.is_cut.result c.is_cut.ensures c.if-is_cut.false))
