use Rattle.std.proofs.Common.{length, sym, ap, ◌∙◌, arith}
use Rattle.dw_tree.specs.Steps.{Growing, partial_in, end_of}
use Rattle.dw_tree.specs.PoolBytes.{held_in, partial_bytes}
use Rattle.dw_tree.proofs.Begins.{held_is, pool_short, ends_here}
use Rattle.dw_tree.proofs.draft.TreeDraft.content.Goals as goal

pub returns-clause-exact : goal.returns-clause-exact
returns-clause-exact c = c.deref.ensures.value ∙ (held_is c.self.inside c.self.invariant ∙ ap (λ (g : Growing). held_in g.place) c.self.view_is)

pub returns-clause-short : goal.returns-clause-short
returns-clause-short c =
    let a = c.self.inside in
    let end = ap end_of (sym c.self.view_is) ∙ ends_here a c.self.invariant in
    let start = ap (λ (g : Growing). g.start) c.self.view_is in
    let partial = ap (λ (g : Growing). length (partial_bytes (partial_in g.place.unfinished))) c.self.view_is in
    omega (arith, pool_short a c.self.invariant, ap length c.deref.ensures.value, end, start, partial)
