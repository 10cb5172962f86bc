use Rattle.std.proofs.Common.{◌≡◌, ◌∷◌, ◌∙◌, None, ap, arith, rules, sym}
use Rattle.std.specs.Prelude.{is_some, map, option_map}
use Rattle.dw_form.specs.Lent.{value_of}
use Rattle.dw_abbrev.specs.PairView.{pair_of}
use Rattle.dw_tree.specs.Lent.{begins_bare, lent_attributes}
use Rattle.dw_tree.specs.RowHeads.{values_at}
use Rattle.dw_tree.proofs.LentLemmas.{bare_first, left}
use Rattle.dw_tree.proofs.attrs.Attrs.next_bare.Goals as goal

pub spelled_size-size-requires-clause-spelled : goal.spelled_size-size-requires-clause-spelled
spelled_size-size-requires-clause-spelled c =
    let it = c.self.inside in
    let q = c.in_ok-pair.pair.now in
    let qs = c.in_ok-pair.pairs.now in
    let items : it.pairs.now ≡ q ∷ qs = search rules in
    let first = left it.ctx it.at it.heads.now it.pool.now it.pairs.now q qs items c.self.invariant (record { via = None; value = value_of c.in_ok-value.value }) 0 (c.in_ok-value.ensures.found it.heads.now it.pool.now) in
    first.spelled

pub spelled_size-size-requires-clause-head : goal.spelled_size-size-requires-clause-head
spelled_size-size-requires-clause-head c =
    let it = c.self.inside in
    let q = c.in_ok-pair.pair.now in
    let qs = c.in_ok-pair.pairs.now in
    let items : it.pairs.now ≡ q ∷ qs = search rules in
    let first = left it.ctx it.at it.heads.now it.pool.now it.pairs.now q qs items c.self.invariant (record { via = None; value = value_of c.in_ok-value.value }) 0 (c.in_ok-value.ensures.found it.heads.now it.pool.now) in
    first.own_head

pub overflow_add-self : goal.overflow_add-self
overflow_add-self c =
    let it = c.self.inside in
    let q = c.in_ok-pair.pair.now in
    let qs = c.in_ok-pair.pairs.now in
    let items : it.pairs.now ≡ q ∷ qs = search rules in
    let first = left it.ctx it.at it.heads.now it.pool.now it.pairs.now q qs items c.self.invariant (record { via = None; value = value_of c.in_ok-value.value }) 0 (c.in_ok-value.ensures.found it.heads.now it.pool.now) in
    omega (arith, c.spelled_size-size.ensures, first.others.room)

pub invariant_of-self : goal.invariant_of-self
invariant_of-self c =
    let it = c.self.inside in
    let q = c.in_ok-pair.pair.now in
    let qs = c.in_ok-pair.pairs.now in
    let items : it.pairs.now ≡ q ∷ qs = search rules in
    let first = left it.ctx it.at it.heads.now it.pool.now it.pairs.now q qs items c.self.invariant (record { via = None; value = value_of c.in_ok-value.value }) 0 (c.in_ok-value.ensures.found it.heads.now it.pool.now) in
    rw (c.spelled_size-size.ensures) first.others

pub returns-in_err-value-clause-only : goal.returns-in_err-value-clause-only
returns-in_err-value-clause-only c =
    let it = c.self.inside in
    let q = c.in_ok-pair.pair.now in
    let qs = c.in_ok-pair.pairs.now in
    let items : it.pairs.now ≡ q ∷ qs = search rules in
    let given : c.from_residual-in_err-value.result ≡ None = search rules in
    let none : c.lend_bare.result ≡ None = c.in_err-value.was in
    let view : c.args.self.now ≡ lent_attributes it.ctx it.at (map pair_of it.pairs.now) (values_at it.ctx (map pair_of it.pairs.now) it.heads.now it.pool.now) = search rules in
    ap (λ o. is_some o) given
    ∙ (sym (ap (λ o. is_some (option_map value_of o)) none)
    ∙ (ap (λ o. is_some o) c.lend_bare.ensures.exact
    ∙ (sym (bare_first it.ctx it.at it.heads.now it.pool.now it.pairs.now q qs items c.self.invariant) ∙ sym (ap begins_bare view))))
