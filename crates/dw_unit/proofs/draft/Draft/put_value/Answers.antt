use Rattle.std.proofs.Common.{◌≡◌, ◌+◌, length, false, sym, ap, subst, ◌∙◌}
use Rattle.dw_form.specs.Form.{Attribute}
use Rattle.dw_form.specs.Lent.{attribute_of}
use Rattle.dw_tree.specs.Steps.{Growing, with_value, NextFits}
use Rattle.dw_header.specs.Header.{context_of}
use Rattle.dw_unit.specs.Draft.{Drafted, drafted_size, passes_limit, value_bytes}
use Rattle.dw_unit.proofs.DraftLemmas.{either_way, on_ok, same_kept, value_place, new_is, value_kept, given_size}
use Rattle.dw_unit.proofs.draft.Draft.put_value.Goals as goal

pub invariant_of-self : goal.invariant_of-self
invariant_of-self c =
    let a = c.self.inside in
    let d : Drafted = record { header = a.header; table = a.tree.table; place = a.tree.place; padding = a.padding.items } in
    let new : Growing = c.value.new.self in
    let v : Attribute = attribute_of c.args.value.now in
    let fits : NextFits (context_of d.header) d.table d.place.unfinished v = subst (λ (x : Drafted). NextFits (context_of x.header) x.table x.place.unfinished v) (sym c.self.view_is) c.requires.fits in
    let short : passes_limit d (length (value_bytes d v)) ≡ false = ap (λ (x : Drafted). passes_limit x (length (value_bytes x v))) c.self.view_is ∙ c.requires.short in
    either_way c.value.result (new ≡ with_value v a.tree) (new ≡ a.tree) _ c.value.ensures.ok c.value.ensures.err
    (λ e. value_kept d a.tree a.padded c.self.invariant v fits new e short)
    (λ e. same_kept d a.tree a.padded c.self.invariant new e)

pub returns-clause-size : goal.returns-clause-size
returns-clause-size c =
    let a = c.self.inside in
    let d : Drafted = record { header = a.header; table = a.tree.table; place = a.tree.place; padding = a.padding.items } in
    let new : Growing = c.value.new.self in
    let v : Attribute = attribute_of c.args.value.now in
    let fits : NextFits (context_of d.header) d.table d.place.unfinished v = subst (λ (x : Drafted). NextFits (context_of x.header) x.table x.place.unfinished v) (sym c.self.view_is) c.requires.fits in
    on_ok c.value.result (new ≡ with_value v a.tree) _ c.value.ensures.ok
    (λ e. ap (λ (g : Growing). drafted_size (record { header = a.header; table = g.table; place = g.place; padding = a.padding.items })) (new_is d a.tree a.padded c.self.invariant (with_value v) new e ∙ value_place d v)
    ∙ (given_size d a.tree a.padded c.self.invariant v fits ∙ ap (λ (x : Drafted). drafted_size x + length (value_bytes x v)) c.self.view_is))
