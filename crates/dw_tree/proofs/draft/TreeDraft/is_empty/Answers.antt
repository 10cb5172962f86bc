use Rattle.std.proofs.Common.{ℕ, ap, sym, ◌∙◌}
use Rattle.std.specs.Prelude.{◌==◌}
use Rattle.dw_tree.specs.Steps.{Growing}
use Rattle.dw_tree.specs.Emptiness.{is_bare}
use Rattle.dw_tree.proofs.Bare.{bare_when}
use Rattle.dw_tree.proofs.Begins.{spot_is, view_is}
use Rattle.dw_tree.proofs.draft.TreeDraft.is_empty.Goals as goal

pub returns : goal.returns
returns c =
    let a = c.self.inside in
    let d = c.self.invariant in
    let s = d.given.lists.is_spelled in
    ap (λ (n : ℕ). n == 0) (c.len.ensures ∙ (a.rows.ok.0 ∙ s.long))
    ∙ (bare_when d.given.tokens s.spelled
    ∙ (ap is_bare (sym (spot_is a.partial a.pool.items _))
    ∙ ap (λ (g : Growing). is_bare g.place.spot) (sym (view_is a d) ∙ c.self.view_is)))
