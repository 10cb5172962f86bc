use Rattle.std.proofs.Common.{refl, sym, subst, inr}
use Rattle.dw_feed.specs.BodyFeed.{PartialUnit, Reading, started}
use Rattle.dw_feed.specs.FeedInvariant.{start_keeps}
use Rattle.dw_feed.specs.BodyFeedView.{IsBodyFeed}
use Rattle.dw_feed.proofs.body.BodyFeed.new.Goals as goal

pub invariant_of-result : goal.invariant_of-result
invariant_of-result c =
    let g : PartialUnit = started c.args.header c.args.length c.args.table.value in
    subst (λ (x : PartialUnit). IsBodyFeed (Reading x)) (sym c.new.ensures) ((start_keeps c.args.header c.args.length c.args.table.value c.requires, tt, inr refl), ((refl, refl), tt))
