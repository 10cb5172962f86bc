use Rattle.std.proofs.Common.{length, sym, ap, ◌∙◌, arith}
use Rattle.dw_tree.specs.Place.{Spot, rows_before}
use Rattle.dw_tree.specs.Steps.{Growing, end_of}
use Rattle.dw_tree.proofs.Begins.{draft_short, ends_here, spot_is, view_is}
use Rattle.dw_tree.proofs.draft.TreeDraft.row_count.Goals as goal

pub returns-clause-exact : goal.returns-clause-exact
returns-clause-exact c =
    let a = c.self.inside in
    let d = c.self.invariant in
    let s = d.given.lists.is_spelled in
    c.len.ensures
    ∙ (a.rows.ok.0
    ∙ (s.long
    ∙ (ap length s.spelled
    ∙ (ap (λ (x : Spot). length (rows_before x.above x.left)) (sym (spot_is a.partial a.pool.items _))
    ∙ ap (λ (g : Growing). length (rows_before g.place.spot.above g.place.spot.left)) (sym (view_is a d) ∙ c.self.view_is)))))

pub returns-clause-short : goal.returns-clause-short
returns-clause-short c =
    let a = c.self.inside in
    let end = ap end_of (sym c.self.view_is) ∙ ends_here a c.self.invariant in
    let start = ap (λ (g : Growing). g.start) c.self.view_is in
    omega (arith, (draft_short a c.self.invariant).rows_short, c.len.ensures, a.rows.ok.0, end, start)
