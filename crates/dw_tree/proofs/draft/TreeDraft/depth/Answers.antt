use Rattle.std.proofs.Common.{length, ap, sym, ◌∙◌}
use Rattle.dw_tree.specs.Place.{Spot, spot_after}
use Rattle.dw_tree.specs.Steps.{Growing}
use Rattle.dw_tree.proofs.Stands.{open_long}
use Rattle.dw_tree.proofs.Begins.{spot_is, view_is}
use Rattle.dw_tree.proofs.draft.TreeDraft.depth.Goals as goal

pub returns : goal.returns
returns c =
    let a = c.self.inside in
    let d = c.self.invariant in
    c.len.ensures
    ∙ (a.nested.ok.0
    ∙ (ap length d.given.lists.is_spelled.opened
    ∙ (open_long (spot_after d.given.tokens).above
    ∙ (ap (λ (s : Spot). length s.above) (sym (spot_is a.partial a.pool.items _))
    ∙ ap (λ (g : Growing). length g.place.spot.above) (sym (view_is a d) ∙ c.self.view_is)))))
