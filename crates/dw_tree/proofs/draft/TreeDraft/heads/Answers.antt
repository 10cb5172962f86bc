use Rattle.std.proofs.Common.{length, sym, ap, ◌∙◌, arith}
use Rattle.dw_tree.specs.Steps.{Growing, end_of}
use Rattle.dw_tree.specs.RowHeads.{heads_in}
use Rattle.dw_tree.proofs.Begins.{heads_are, draft_short, ends_here}
use Rattle.dw_tree.proofs.draft.TreeDraft.heads.Goals as goal

pub returns-clause-exact : goal.returns-clause-exact
returns-clause-exact c = c.deref.ensures.value ∙ (heads_are c.self.inside c.self.invariant ∙ ap (λ (g : Growing). heads_in g.context g.table g.place) c.self.view_is)

pub returns-clause-short : goal.returns-clause-short
returns-clause-short c =
    let a = c.self.inside in
    let end = ap end_of (sym c.self.view_is) ∙ ends_here a c.self.invariant in
    let start = ap (λ (g : Growing). g.start) c.self.view_is in
    omega (arith, (draft_short a c.self.invariant).heads_short, ap length c.deref.ensures.value, end, start)
