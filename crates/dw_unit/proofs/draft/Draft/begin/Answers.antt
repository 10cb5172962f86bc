use Rattle.std.proofs.Common.{◌≡◌, ◌+◌, false, None, sym, ap, subst, ◌∙◌}
use Rattle.std.specs.Prelude.{IsSome}
use Rattle.dw_leb.specs.Number.{Unsigned}
use Rattle.dw_leb.specs.View.{uleb_of}
use Rattle.dw_abbrev.specs.Table.{declared}
use Rattle.dw_tree.specs.Steps.{Growing, begun_at}
use Rattle.dw_unit.specs.Draft.{Drafted, drafted_size, passes_limit, IsOnlyRoot}
use Rattle.dw_unit.proofs.DraftLemmas.{either_way, on_ok, same_kept, new_is, begin_kept, begun_size}
use Rattle.dw_unit.proofs.draft.Draft.begin.Goals as goal

pub invariant_of-self : goal.invariant_of-self
invariant_of-self c =
    let a = c.self.inside in
    let d : Drafted = record { header = a.header; table = a.tree.table; place = a.tree.place; padding = a.padding.items } in
    let new : Growing = c.begin.new.self in
    let code : Unsigned = uleb_of c.args.code in
    let known : IsSome (declared d.table code.value) = subst (λ (x : Drafted). IsSome (declared x.table code.value)) (sym c.self.view_is) c.requires.known in
    let free : d.place.unfinished ≡ None = ap (λ (x : Drafted). x.place.unfinished) c.self.view_is ∙ c.requires.free in
    let only : IsOnlyRoot d.place.spot = subst (λ (x : Drafted). IsOnlyRoot x.place.spot) (sym c.self.view_is) c.requires.only in
    let short : passes_limit d code.width ≡ false = ap (λ (x : Drafted). passes_limit x code.width) c.self.view_is ∙ c.requires.short in
    either_way c.begin.result (new ≡ begun_at code a.tree) (new ≡ a.tree) _ c.begin.ensures.ok c.begin.ensures.err
    (λ e. begin_kept d a.tree a.padded c.self.invariant code known free new e only short)
    (λ e. same_kept d a.tree a.padded c.self.invariant new e)

pub returns-clause-size : goal.returns-clause-size
returns-clause-size c =
    let a = c.self.inside in
    let d : Drafted = record { header = a.header; table = a.tree.table; place = a.tree.place; padding = a.padding.items } in
    let new : Growing = c.begin.new.self in
    let code : Unsigned = uleb_of c.args.code in
    let known : IsSome (declared d.table code.value) = subst (λ (x : Drafted). IsSome (declared x.table code.value)) (sym c.self.view_is) c.requires.known in
    let free : d.place.unfinished ≡ None = ap (λ (x : Drafted). x.place.unfinished) c.self.view_is ∙ c.requires.free in
    on_ok c.begin.result (new ≡ begun_at code a.tree) _ c.begin.ensures.ok
    (λ e. ap (λ (g : Growing). drafted_size (record { header = a.header; table = g.table; place = g.place; padding = a.padding.items })) (new_is d a.tree a.padded c.self.invariant (begun_at code) new e)
    ∙ (begun_size d a.tree a.padded c.self.invariant code known free ∙ ap (λ (x : Drafted). drafted_size x + code.width) c.self.view_is))
