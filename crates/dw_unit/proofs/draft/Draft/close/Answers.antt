use Rattle.std.proofs.Common.{◌≡◌, ◌≢◌, ◌+◌, [], ℕ, false, None, sym, ap, ◌∙◌}
use Rattle.dw_leb.specs.Number.{Unsigned}
use Rattle.dw_tree.specs.Steps.{Growing, closed_at}
use Rattle.dw_unit.specs.Draft.{Drafted, drafted_size, passes_limit}
use Rattle.dw_unit.proofs.DraftLemmas.{either_way, on_ok, same_kept, new_is, close_kept, closed_size}
use Rattle.dw_unit.proofs.draft.Draft.close.Goals as goal

pub invariant_of-self : goal.invariant_of-self
invariant_of-self c =
    let a = c.self.inside in
    let d : Drafted = record { header = a.header; table = a.tree.table; place = a.tree.place; padding = a.padding.items } in
    let new : Growing = c.close.new.self in
    let w = c.args.width in
    let width : c.null.result.width ≡ w = ap (λ (u : Unsigned). u.width) c.null.ensures in
    let inside : d.place.spot.above ≢ [] = λ e. c.requires.inside (ap (λ (x : Drafted). x.place.spot.above) (sym c.self.view_is) ∙ e) in
    let free : d.place.unfinished ≡ None = ap (λ (x : Drafted). x.place.unfinished) c.self.view_is ∙ c.requires.free in
    let short : passes_limit d w ≡ false = ap (λ (x : Drafted). passes_limit x w) c.self.view_is ∙ c.requires.short in
    either_way c.close.result (new ≡ closed_at c.null.result.width a.tree) (new ≡ a.tree) _ c.close.ensures.ok c.close.ensures.err
    (λ e. close_kept d a.tree a.padded c.self.invariant w new (e ∙ ap (λ (n : ℕ). closed_at n a.tree) width) inside free short)
    (λ e. same_kept d a.tree a.padded c.self.invariant new e)

pub returns-clause-size : goal.returns-clause-size
returns-clause-size c =
    let a = c.self.inside in
    let d : Drafted = record { header = a.header; table = a.tree.table; place = a.tree.place; padding = a.padding.items } in
    let new : Growing = c.close.new.self in
    let w = c.args.width in
    let width : c.null.result.width ≡ w = ap (λ (u : Unsigned). u.width) c.null.ensures in
    let inside : d.place.spot.above ≢ [] = λ e. c.requires.inside (ap (λ (x : Drafted). x.place.spot.above) (sym c.self.view_is) ∙ e) in
    let free : d.place.unfinished ≡ None = ap (λ (x : Drafted). x.place.unfinished) c.self.view_is ∙ c.requires.free in
    on_ok c.close.result (new ≡ closed_at c.null.result.width a.tree) _ c.close.ensures.ok
    (λ e. ap (λ (g : Growing). drafted_size (record { header = a.header; table = g.table; place = g.place; padding = a.padding.items })) (new_is d a.tree a.padded c.self.invariant (closed_at w) new (e ∙ ap (λ (n : ℕ). closed_at n a.tree) width))
    ∙ (closed_size d a.tree a.padded c.self.invariant w inside free ∙ ap (λ (x : Drafted). drafted_size x + w) c.self.view_is))
