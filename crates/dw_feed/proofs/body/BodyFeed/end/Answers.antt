use Rattle.std.proofs.Common.{Option, Some, sym, ap, subst, ◌∙◌}
use Rattle.dw_feed.specs.BodyFeed.{PartialUnit, BodyFeed, EndsBody}
use Rattle.dw_feed.specs.BodyFeedView.{feed_of}
use Rattle.dw_feed.proofs.body.BodyFeed.end.Goals as goal

pub returns-in-Some : goal.returns-in-Some
returns-in-Some c =
    subst (λ (f : BodyFeed). EndsBody f (Some c.cut_off.result)) (ap (λ (o : Option PartialUnit). feed_of o c.self.inside.fault) (sym c.in-Some.is) ∙ c.self.view_is) c.cut_off.ensures
