use Rattle.std.proofs.Common.{List, ℕ, Some, sym, subst}
use Rattle.dw_header.specs.HeaderPlace.{HeaderFaultUnder}
use Rattle.dw_feed.specs.HeaderCut.{IsCut}
use Rattle.dw_feed.specs.HeadFeed.{HeadFeed as TheFeed, Ends}
use Rattle.dw_feed.specs.HeadFeedView.{reading_cut, reading_ends}
use Rattle.dw_feed.proofs.head.HeadFeed.end.Goals as goal

pub cut_off-requires : goal.cut_off-requires
cut_off-requires c =
    subst (IsCut c.self.inside.versions c.self.inside.order) (sym c.as_slice.ensures.value)
    (reading_cut c.self.inside.versions c.self.inside.order c.self.inside.taken.items c.self.inside.answered c.in-None.is c.self.invariant)

pub returns-in-None : goal.returns-in-None
returns-in-None c =
    let fault = subst (λ (b : List ℕ). HeaderFaultUnder c.self.inside.versions c.self.inside.order b c.cut_off.result) c.as_slice.ensures.value c.cut_off.ensures.fault in
    subst (λ (s : TheFeed). Ends s.versions s.order s.state (Some c.cut_off.result)) c.self.view_is
    (reading_ends c.self.inside.versions c.self.inside.order c.self.inside.taken.items c.self.inside.answered c.cut_off.result c.in-None.is fault c.cut_off.ensures.cut)
