use Rattle.std.proofs.Common.{length, ap, ◌∙◌, arith}
use Rattle.dw_leb.specs.View.{uleb_of}
use Rattle.dw_unit.specs.Draft.{passes_limit}
use Rattle.dw_feed.specs.BodyFeed.{PartialUnit}
use Rattle.dw_feed.specs.BodyView.{drafted}
use Rattle.dw_feed.proofs.DraftRoom.{room_for, level_for}
use Rattle.dw_feed.proofs.unit_in_parts.UnitInParts.put.Goals as goal

pub begin-put-requires-clause-level : goal.begin-put-requires-clause-level
begin-put-requires-clause-level c =
    let n = ap (λ (g : PartialUnit). length g.place.spot.above) c.self.view_is in
    let l = level_for c.args.self.now.table c.args.self.now.place.spot.above c.args.self.now.place.spot.left (uleb_of c.args.code) c.requires.meant c.if-code-ne0.true in
    omega (arith, n, l)

pub begin-put-requires-clause-short : goal.begin-put-requires-clause-short
begin-put-requires-clause-short c = ap (λ (g : PartialUnit). passes_limit (drafted g) c.args.code.width) c.self.view_is ∙ room_for c.args.self.now c.requires.stands c.args.code.width c.requires.within

pub close-requires-clause-short : goal.close-requires-clause-short
close-requires-clause-short c = ap (λ (g : PartialUnit). passes_limit (drafted g) c.args.code.width) c.self.view_is ∙ room_for c.args.self.now c.requires.stands c.args.code.width c.requires.within

pub pad-requires-clause-short : goal.pad-requires-clause-short
pad-requires-clause-short c = ap (λ (g : PartialUnit). passes_limit (drafted g) c.args.code.width) c.self.view_is ∙ room_for c.args.self.now c.requires.stands c.args.code.width c.requires.within
