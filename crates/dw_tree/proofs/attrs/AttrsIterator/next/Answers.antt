use Rattle.std.proofs.Common.{◌≡◌, ◌∷◌, arith, rules, sym}
use Rattle.dw_form.specs.Lent.{attribute_of}
use Rattle.dw_tree.proofs.LentLemmas.{left}
use Rattle.dw_tree.proofs.attrs.AttrsIterator.next.Goals as goal

pub spelled_size-size-requires-clause-spelled : goal.spelled_size-size-requires-clause-spelled
spelled_size-size-requires-clause-spelled c =
    let it = c.self.inside in
    let q = c.in_ok-pair.pair.now in
    let qs = c.in_ok-pair.pairs.now in
    let items : it.pairs.now ≡ q ∷ qs = search rules in
    let first = left it.ctx it.at it.heads.now it.pool.now it.pairs.now q qs items c.self.invariant (attribute_of c.in-Some-lend_head.attr) c.in-Some-lend_head.own (sym c.in-Some-lend_head.ensures.exact) in
    first.spelled

pub overflow_add-self : goal.overflow_add-self
overflow_add-self c =
    let it = c.self.inside in
    let q = c.in_ok-pair.pair.now in
    let qs = c.in_ok-pair.pairs.now in
    let items : it.pairs.now ≡ q ∷ qs = search rules in
    let first = left it.ctx it.at it.heads.now it.pool.now it.pairs.now q qs items c.self.invariant (attribute_of c.in-Some-lend_head.attr) c.in-Some-lend_head.own (sym c.in-Some-lend_head.ensures.exact) in
    omega (arith, c.spelled_size-size.ensures, first.others.room)

pub invariant_of-self : goal.invariant_of-self
invariant_of-self c =
    let it = c.self.inside in
    let q = c.in_ok-pair.pair.now in
    let qs = c.in_ok-pair.pairs.now in
    let items : it.pairs.now ≡ q ∷ qs = search rules in
    let first = left it.ctx it.at it.heads.now it.pool.now it.pairs.now q qs items c.self.invariant (attribute_of c.in-Some-lend_head.attr) c.in-Some-lend_head.own (sym c.in-Some-lend_head.ensures.exact) in
    rw (c.spelled_size-size.ensures, c.behind-self-inside.ensures) first.others
