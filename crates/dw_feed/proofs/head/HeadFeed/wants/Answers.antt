use Rattle.std.proofs.Common.{List, ℕ, Option, sym, subst}
use Rattle.dw_feed.specs.declared.head.Answered.{Answered}
use Rattle.dw_feed.specs.HeadFeed.{HeadFeed, Wants, Lacks}
use Rattle.dw_feed.specs.HeadFeedView.{state_of, reading_cut}
use Rattle.dw_feed.proofs.HeadGrows.{lacks_wants}
use Rattle.dw_feed.proofs.head.HeadFeed.wants.Goals as goal

pub returns-in-None-clause-least : goal.returns-in-None-clause-least
returns-in-None-clause-least c =
    let inside = c.self.inside in
    let cut = reading_cut inside.versions inside.order inside.taken.items inside.answered c.in-None.is c.self.invariant in
    let lacks = subst (λ (bs : List ℕ). Lacks inside.versions bs c.lacking.result) c.as_slice.ensures.value c.lacking.ensures.lacks in
    let wants = lacks_wants inside.versions inside.order inside.taken.items c.lacking.result c.lacking.ensures.some cut lacks in
    subst (λ (feed : HeadFeed). Wants feed.versions feed.order feed.state c.lacking.result) c.self.view_is
    (subst (λ (o : Option Answered). Wants inside.versions inside.order (state_of inside.taken.items o) c.lacking.result) (sym c.in-None.is) wants)
