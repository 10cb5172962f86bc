use Rattle.std.proofs.Common.{◌+◌, ◌∙◌, List, ℕ, ap, map, sym, arith}
use Rattle.dw_abbrev.specs.PairView.{pair_of}
use Rattle.dw_tree.specs.RowHeads.{values_at}
use Rattle.dw_tree.specs.Lent.{lent_attributes}
use Rattle.dw_tree.specs.Names.{others_of}
use Rattle.dw_tree.proofs.Skipped.{behind_whole}
use Rattle.dw_tree.proofs.attrs.Attrs.step_over.Goals as goal

pub overflow_add-self : goal.overflow_add-self
overflow_add-self c =
    let it = c.self.inside in
    let b = behind_whole it.ctx it.at it.heads.now it.pool.now it.pairs.now c.in-Some.pair.now c.in-Some.pairs.now c.in-Some.ensures.cases.0 c.self.invariant c.in-Some-whole_end.size c.in-Some-whole_end.ensures.whole in
    omega (arith, b.lent_behind.room)

pub invariant_of-self : goal.invariant_of-self
invariant_of-self c =
    let it = c.self.inside in
    let b = behind_whole it.ctx it.at it.heads.now it.pool.now it.pairs.now c.in-Some.pair.now c.in-Some.pairs.now c.in-Some.ensures.cases.0 c.self.invariant c.in-Some-whole_end.size c.in-Some-whole_end.ensures.whole in
    rw c.behind-self-inside.ensures b.lent_behind

pub returns-in-Some-whole_end : goal.returns-in-Some-whole_end
returns-in-Some-whole_end c =
    let it = c.self.inside in
    let n = c.in-Some-whole_end.size in
    let rest = map pair_of c.in-Some.pairs.now in
    let b = behind_whole it.ctx it.at it.heads.now it.pool.now it.pairs.now c.in-Some.pair.now c.in-Some.pairs.now c.in-Some.ensures.cases.0 c.self.invariant n c.in-Some-whole_end.ensures.whole in
    ap (λ (hs : List ℕ). lent_attributes it.ctx (it.at + n) rest (values_at it.ctx rest hs it.pool.now)) c.behind-self-inside.ensures
    ∙ (sym b.seen_behind ∙ ap others_of c.self.view_is)
