use Rattle.std.proofs.Common.{◌≡◌, ◌∷◌, None, arith, rules}
use Rattle.dw_form.specs.Form.{Num}
use Rattle.dw_abbrev.specs.PairView.{pair_of}
use Rattle.dw_tree.proofs.LentLemmas.{left}
use Rattle.dw_tree.proofs.attrs.Attrs.next_number.Goals as goal

pub spelled_size-size-requires-clause-spelled : goal.spelled_size-size-requires-clause-spelled
spelled_size-size-requires-clause-spelled c =
    let it = c.self.inside in
    let q = c.in_ok-pair.pair.now in
    let qs = c.in_ok-pair.pairs.now in
    let items : it.pairs.now ≡ q ∷ qs = search rules in
    let first = left it.ctx it.at it.heads.now it.pool.now it.pairs.now q qs items c.self.invariant (record { via = None; value = Num c.in_ok-number.number }) c.in_ok-number.width (c.in_ok-number.ensures.found (pair_of q).constant it.pool.now) in
    first.spelled

pub spelled_size-size-requires-clause-head : goal.spelled_size-size-requires-clause-head
spelled_size-size-requires-clause-head c =
    let it = c.self.inside in
    let q = c.in_ok-pair.pair.now in
    let qs = c.in_ok-pair.pairs.now in
    let items : it.pairs.now ≡ q ∷ qs = search rules in
    let first = left it.ctx it.at it.heads.now it.pool.now it.pairs.now q qs items c.self.invariant (record { via = None; value = Num c.in_ok-number.number }) c.in_ok-number.width (c.in_ok-number.ensures.found (pair_of q).constant it.pool.now) in
    first.own_head

pub overflow_add-self : goal.overflow_add-self
overflow_add-self c =
    let it = c.self.inside in
    let q = c.in_ok-pair.pair.now in
    let qs = c.in_ok-pair.pairs.now in
    let items : it.pairs.now ≡ q ∷ qs = search rules in
    let first = left it.ctx it.at it.heads.now it.pool.now it.pairs.now q qs items c.self.invariant (record { via = None; value = Num c.in_ok-number.number }) c.in_ok-number.width (c.in_ok-number.ensures.found (pair_of q).constant it.pool.now) in
    omega (arith, c.spelled_size-size.ensures, first.others.room)

pub invariant_of-self : goal.invariant_of-self
invariant_of-self c =
    let it = c.self.inside in
    let q = c.in_ok-pair.pair.now in
    let qs = c.in_ok-pair.pairs.now in
    let items : it.pairs.now ≡ q ∷ qs = search rules in
    let first = left it.ctx it.at it.heads.now it.pool.now it.pairs.now q qs items c.self.invariant (record { via = None; value = Num c.in_ok-number.number }) c.in_ok-number.width (c.in_ok-number.ensures.found (pair_of q).constant it.pool.now) in
    rw (c.spelled_size-size.ensures, c.behind-self-inside.ensures) first.others
