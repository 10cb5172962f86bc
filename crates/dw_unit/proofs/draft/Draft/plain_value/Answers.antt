use Rattle.std.proofs.Common.{◌≡◌, ◌+◌, ℕ, length, false, sym, ap, subst, ◌∙◌, arith}
use Rattle.dw_form.specs.Form.{Attribute}
use Rattle.dw_tree.specs.Steps.{Growing, end_of, with_value, IsPlainNext, SpellsPlain}
use Rattle.dw_header.specs.Header.{context_of}
use Rattle.dw_unit.specs.Draft.{Drafted, given, drafted_size, passes_limit, value_bytes}
use Rattle.dw_unit.proofs.DraftLemmas.{either_way, on_ok, same_kept, value_place, new_is, value_kept, given_size, within, limit_near}
use Rattle.dw_unit.proofs.draft.Draft.plain_value.Goals as goal

pub plain_value-requires-clause-spelled : goal.plain_value-requires-clause-spelled
plain_value-requires-clause-spelled c =
    let a = c.self.inside in
    let d : Drafted = record { header = a.header; table = a.tree.table; place = a.tree.place; padding = a.padding.items } in
    let own = subst (λ (x : Drafted). SpellsPlain (context_of x.header) x.table x.place.unfinished c.args.spelling.now) (sym c.self.view_is) c.requires.spelled in
    subst (λ (g : Growing). SpellsPlain g.context g.table g.place.unfinished c.args.spelling.now) (sym c.self.invariant.tree_is) own

pub plain_value-requires-clause-near : goal.plain_value-requires-clause-near
plain_value-requires-clause-near c =
    let a = c.self.inside in
    let d : Drafted = record { header = a.header; table = a.tree.table; place = a.tree.place; padding = a.padding.items } in
    let bytes = c.args.spelling.now in
    let room = within d (length bytes) (ap (λ (x : Drafted). passes_limit x (length bytes)) c.self.view_is ∙ c.requires.short) in
    omega (arith, room, limit_near a.header.format, ap end_of c.self.invariant.tree_is)

pub invariant_of-self : goal.invariant_of-self
invariant_of-self c =
    let a = c.self.inside in
    let d : Drafted = record { header = a.header; table = a.tree.table; place = a.tree.place; padding = a.padding.items } in
    let new : Growing = c.plain_value.new.self in
    let v : Attribute = c.requires.spelled.0 in
    let bytes = c.args.spelling.now in
    let next : IsPlainNext (context_of d.header) d.table d.place.unfinished v bytes = subst (λ (x : Drafted). IsPlainNext (context_of x.header) x.table x.place.unfinished v bytes) (sym c.self.view_is) c.requires.spelled.1 in
    let below : IsPlainNext a.tree.context a.tree.table a.tree.place.unfinished v bytes = subst (λ (g : Growing). IsPlainNext g.context g.table g.place.unfinished v bytes) (sym c.self.invariant.tree_is) next in
    let short : passes_limit d (length (value_bytes d v)) ≡ false = ap (λ (n : ℕ). passes_limit d n) (sym (ap length next.spelled)) ∙ (ap (λ (x : Drafted). passes_limit x (length bytes)) c.self.view_is ∙ c.requires.short) in
    either_way c.plain_value.result (new ≡ with_value v a.tree) (new ≡ a.tree) _ (c.plain_value.ensures.ok v below) c.plain_value.ensures.err
    (λ e. value_kept d a.tree a.padded c.self.invariant v next.fits new e short)
    (λ e. same_kept d a.tree a.padded c.self.invariant new e)

pub returns-clause-ok : goal.returns-clause-ok
returns-clause-ok c v h =
    let a = c.self.inside in
    let d : Drafted = record { header = a.header; table = a.tree.table; place = a.tree.place; padding = a.padding.items } in
    let new : Growing = c.plain_value.new.self in
    let bytes = c.args.spelling.now in
    let next : IsPlainNext (context_of d.header) d.table d.place.unfinished v bytes = subst (λ (x : Drafted). IsPlainNext (context_of x.header) x.table x.place.unfinished v bytes) (sym c.self.view_is) h in
    let below : IsPlainNext a.tree.context a.tree.table a.tree.place.unfinished v bytes = subst (λ (g : Growing). IsPlainNext g.context g.table g.place.unfinished v bytes) (sym c.self.invariant.tree_is) next in
    on_ok c.plain_value.result (new ≡ with_value v a.tree) _ (c.plain_value.ensures.ok v below)
    (λ e. ap (λ (g : Growing). record { header = a.header; table = g.table; place = g.place; padding = a.padding.items }) (new_is d a.tree a.padded c.self.invariant (with_value v) new e ∙ value_place d v) ∙ ap (given v) c.self.view_is)

pub returns-clause-size : goal.returns-clause-size
returns-clause-size c =
    let a = c.self.inside in
    let d : Drafted = record { header = a.header; table = a.tree.table; place = a.tree.place; padding = a.padding.items } in
    let new : Growing = c.plain_value.new.self in
    let v : Attribute = c.requires.spelled.0 in
    let bytes = c.args.spelling.now in
    let next : IsPlainNext (context_of d.header) d.table d.place.unfinished v bytes = subst (λ (x : Drafted). IsPlainNext (context_of x.header) x.table x.place.unfinished v bytes) (sym c.self.view_is) c.requires.spelled.1 in
    let below : IsPlainNext a.tree.context a.tree.table a.tree.place.unfinished v bytes = subst (λ (g : Growing). IsPlainNext g.context g.table g.place.unfinished v bytes) (sym c.self.invariant.tree_is) next in
    on_ok c.plain_value.result (new ≡ with_value v a.tree) _ (c.plain_value.ensures.ok v below)
    (λ e. ap (λ (g : Growing). drafted_size (record { header = a.header; table = g.table; place = g.place; padding = a.padding.items })) (new_is d a.tree a.padded c.self.invariant (with_value v) new e ∙ value_place d v)
    ∙ (given_size d a.tree a.padded c.self.invariant v next.fits
    ∙ (ap (λ (n : ℕ). drafted_size d + n) (sym (ap length next.spelled)) ∙ ap (λ (x : Drafted). drafted_size x + length bytes) c.self.view_is)))
