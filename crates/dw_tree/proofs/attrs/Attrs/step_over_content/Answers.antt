use Rattle.std.proofs.Common.{sym, arith}
use Rattle.dw_form.specs.Lent.{attribute_of}
use Rattle.dw_tree.proofs.LentLemmas.{left}
use Rattle.dw_tree.proofs.attrs.Attrs.step_over_content.Goals as goal

pub spelled_size-requires-clause-spelled : goal.spelled_size-requires-clause-spelled
spelled_size-requires-clause-spelled c =
    let it = c.self.inside in
    let first = left it.ctx it.at it.heads.now it.pool.now it.pairs.now c.in-Some.pair.now c.in-Some.pairs.now c.in-Some.ensures.cases.0 c.self.invariant (attribute_of c.in-Some-lend_head.attr) c.in-Some-lend_head.head_size (sym c.in-Some-lend_head.ensures.exact) in
    first.spelled

pub overflow_add-self : goal.overflow_add-self
overflow_add-self c =
    let it = c.self.inside in
    let first = left it.ctx it.at it.heads.now it.pool.now it.pairs.now c.in-Some.pair.now c.in-Some.pairs.now c.in-Some.ensures.cases.0 c.self.invariant (attribute_of c.in-Some-lend_head.attr) c.in-Some-lend_head.head_size (sym c.in-Some-lend_head.ensures.exact) in
    omega (arith, c.spelled_size.ensures, first.others.room)

pub invariant_of-self : goal.invariant_of-self
invariant_of-self c =
    let it = c.self.inside in
    let first = left it.ctx it.at it.heads.now it.pool.now it.pairs.now c.in-Some.pair.now c.in-Some.pairs.now c.in-Some.ensures.cases.0 c.self.invariant (attribute_of c.in-Some-lend_head.attr) c.in-Some-lend_head.head_size (sym c.in-Some-lend_head.ensures.exact) in
    rw (c.spelled_size.ensures, c.behind-self-inside.ensures) first.others
