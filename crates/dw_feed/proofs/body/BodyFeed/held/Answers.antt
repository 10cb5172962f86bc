use Rattle.std.proofs.Common.{◌≡◌, ◌++◌, Option, sym, ap, subst, ◌∙◌, arith, length, ◌≤◌}
use Rattle.dw_feed.specs.BodyFeed.{PartialUnit, BodyFeed, Reading, part}
use Rattle.dw_feed.specs.BodyFeedView.{feed_of, IsBodyFeed}
use Rattle.dw_feed.specs.FeedInvariant.{body_so_far}
use Rattle.dw_feed.specs.HeldBounds.{held_within, few_padding}
use Rattle.dw_feed.specs.HeldCounts.{HeldCounts, held_by}
use Rattle.dw_feed.specs.HeldView.{held_of, HeldWithin, padding_of, taken_by}
use Rattle.dw_feed.proofs.body.BodyFeed.held.Goals as goal

pub returns-in-Some-clause-within : goal.returns-in-Some-clause-within
returns-in-Some-clause-within c =
    let g : PartialUnit = c.in-Some.coming in
    let old : Reading g ≡ c.args.self.now = ap (λ (o : Option PartialUnit). feed_of o c.self.inside.fault) (sym c.in-Some.is) ∙ c.self.view_is in
    let kept : IsBodyFeed (Reading g) = subst (λ (o : Option PartialUnit). IsBodyFeed (feed_of o c.self.inside.fault)) c.in-Some.is c.self.invariant in
    let exact : held_of c.held.result ≡ held_by g = c.held.ensures.exact in
    let pending = ap (λ (h : HeldCounts). h.pending) exact in
    let within = held_within g kept.0.0 c.held.ensures.few (omega (arith, pending, c.held.ensures.short)) in
    subst (λ (f : BodyFeed). HeldWithin (taken_by f) (held_of c.held.result)) old (subst (HeldWithin (length (body_so_far g ++ part g))) (sym exact) within)

pub returns-in-Some-clause-padding : goal.returns-in-Some-clause-padding
returns-in-Some-clause-padding c =
    let g : PartialUnit = c.in-Some.coming in
    let old : Reading g ≡ c.args.self.now = ap (λ (o : Option PartialUnit). feed_of o c.self.inside.fault) (sym c.in-Some.is) ∙ c.self.view_is in
    let kept : IsBodyFeed (Reading g) = subst (λ (o : Option PartialUnit). IsBodyFeed (feed_of o c.self.inside.fault)) c.in-Some.is c.self.invariant in
    subst (λ (f : BodyFeed). length (padding_of f) ≤ taken_by f) old (few_padding g kept.0.0)

pub returns-in-Some-clause-place : goal.returns-in-Some-clause-place
returns-in-Some-clause-place c = subst IsBodyFeed c.self.view_is c.self.invariant

pub returns-in-None-clause-place : goal.returns-in-None-clause-place
returns-in-None-clause-place c = subst IsBodyFeed c.self.view_is c.self.invariant
