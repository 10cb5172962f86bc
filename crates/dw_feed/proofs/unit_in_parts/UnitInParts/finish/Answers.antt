use Rattle.std.proofs.Common.{◌≡◌, List, ℕ, zero, suc, [], ◌∷◌, Option, Some, None, IfSome, option_map, sym, ap, ◌∙◌}
use Rattle.dw_tree.specs.Tree.{Tree, Forest, none, more}
use Rattle.dw_tree.specs.Place.{Frame, UnfinishedEntry}
use Rattle.dw_tree.specs.Steps.{whole_tree}
use Rattle.dw_unit.specs.Unit.{WholeUnit}
use Rattle.dw_unit.specs.Draft.{finished}
use Rattle.dw_feed.specs.BodyFeed.{PartialUnit}
use Rattle.dw_feed.specs.BodyView.{drafted}
use Rattle.dw_feed.specs.FeedInvariant.{left}
use Rattle.dw_feed.specs.PlainFeed.{whole_at, root_if_whole, unit_with}
use Rattle.dw_feed.proofs.unit_in_parts.UnitInParts.finish.Goals as goal

whole_is : (g : PartialUnit) (u : WholeUnit) → finished (drafted g) ≡ Some u → IfSome (root_if_whole g) (λ x. u ≡ unit_with g x)
whole_is g u e = by g.place.spot.above g.place.spot.left g.place.unfinished (left g) e
  where
    build : Tree → WholeUnit
    build x = unit_with g x

    by : (fs : List Frame) (ts : Forest) (o : Option UnfinishedEntry) (lim : ℕ) → option_map build (whole_tree fs ts o) ≡ Some u → IfSome (whole_at fs ts o lim) (λ x. u ≡ build x)
    by [] none None lim e = tt
    by [] none (Some r) lim e = tt
    by [] (more x none) None zero e = let q : build x ≡ u = cc in sym q
    by [] (more x none) None (suc lim) e = tt
    by [] (more x (more y ts)) None lim e = tt
    by [] (more x none) (Some r) lim e = tt
    by [] (more x (more y ts)) (Some r) lim e = tt
    by (f ∷ fs) ts o lim e = tt

pub returns : goal.returns
returns c = whole_is c.args.self c.finish.result (ap finished (ap drafted (sym c.self.view_is)) ∙ c.finish.ensures.unit)
