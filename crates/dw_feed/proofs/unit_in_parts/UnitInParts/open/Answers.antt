use Rattle.std.proofs.Common.{◌++◌, sym, subst}
use Rattle.std.specs.Prelude.{option_map}
use Rattle.dw_leb.specs.View.{uleb_of}
use Rattle.dw_feed.specs.BodyFeed.{PartialUnit, part}
use Rattle.dw_feed.specs.FeedInvariant.{Keeps}
use Rattle.dw_feed.specs.FieldSteps.{HasPart, StepSays}
use Rattle.dw_feed.specs.Openings.{ValueHere, value_here, opens_some, opens_at, opened_is, opened_keeps, opened_has, opened_step}
use Rattle.dw_feed.proofs.unit_in_parts.UnitInParts.open.Goals as goal

pub content-requires-clause-stands : goal.content-requires-clause-stands
content-requires-clause-stands c =
    let g : PartialUnit = c.args.self.now in
    let here : ValueHere g = value_here g c.requires.has (opens_some g c.args.width c.args.count c.requires.opens) c.requires.between in
    let opens = opens_at g c.args.width c.args.count here c.requires.opens in
    let in_it = c.self.inside in
    let new = opened_is g in_it.draft c.start.new.self in_it.unit_length (option_map uleb_of in_it.named) in_it.to_come c.args.count in_it.pending.items c.clear.new.self.items c.args.width c.self.view_is c.in-Ok.ensures.ok c.clear.ensures in
    subst Keeps (sym new) (opened_keeps g c.args.width c.args.count here opens c.requires.stands)

pub content-requires-clause-has : goal.content-requires-clause-has
content-requires-clause-has c =
    let g : PartialUnit = c.args.self.now in
    let here : ValueHere g = value_here g c.requires.has (opens_some g c.args.width c.args.count c.requires.opens) c.requires.between in
    let opens = opens_at g c.args.width c.args.count here c.requires.opens in
    let in_it = c.self.inside in
    let new = opened_is g in_it.draft c.start.new.self in_it.unit_length (option_map uleb_of in_it.named) in_it.to_come c.args.count in_it.pending.items c.clear.new.self.items c.args.width c.self.view_is c.in-Ok.ensures.ok c.clear.ensures in
    subst HasPart (sym new) (opened_has g c.args.width c.args.count here opens)

pub returns : goal.returns
returns c =
    let g : PartialUnit = c.args.self.now in
    let here : ValueHere g = value_here g c.requires.has (opens_some g c.args.width c.args.count c.requires.opens) c.requires.between in
    let opens = opens_at g c.args.width c.args.count here c.requires.opens in
    let in_it = c.self.inside in
    let new = opened_is g in_it.draft c.start.new.self in_it.unit_length (option_map uleb_of in_it.named) in_it.to_come c.args.count in_it.pending.items c.clear.new.self.items c.args.width c.self.view_is c.in-Ok.ensures.ok c.clear.ensures in
    let says = subst (λ (u : PartialUnit). StepSays u (part u ++ c.args.b.now) c.content.result c.content.new.self) new c.content.ensures in
    opened_step g c.args.width c.args.count here opens c.args.b.now c.content.result c.content.new.self says
