use mir.Val.{bool_byte}
use Rattle.std.proofs.Common.{◌≡◌, ◌≤◌, Bool, true, false, length, ap, ◌∙◌, arith}
use Rattle.dw_tree.specs.Levels.{nesting_is}
use Rattle.dw_feed.specs.BodyFeed.{PartialUnit}
use Rattle.dw_feed.specs.HeldBounds.{held_nested}
use Rattle.dw_feed.proofs.unit_in_parts.UnitInParts.held.Goals as goal

one_at_most : (b : Bool) → bool_byte b ≤ 1
one_at_most true = omega arith
one_at_most false = omega arith

pub overflow_add-result : goal.overflow_add-result
overflow_add-result c =
    let g : PartialUnit = c.args.self.now in
    let depth : c.depth.result ≡ length g.place.spot.above = c.depth.ensures ∙ ap (λ (x : PartialUnit). length x.place.spot.above) c.self.view_is in
    omega (arith, depth, held_nested g c.requires, nesting_is, one_at_most c.is_some-unfinished.result)
