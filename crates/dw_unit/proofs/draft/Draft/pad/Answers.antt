use Rattle.std.proofs.Common.{◌≡◌, ◌++◌, ◌∷◌, ◌+◌, [], ℕ, List, false, sym, ap, subst, ◌∙◌}
use Rattle.dw_unit.specs.Draft.{Drafted, drafted_size, passes_limit, IsDrafted}
use Rattle.dw_unit.proofs.DraftLemmas.{pad_kept, padded_size}
use Rattle.dw_unit.proofs.draft.Draft.pad.Goals as goal

pub invariant_of-self-2 : goal.invariant_of-self-2
invariant_of-self-2 c =
    let a = c.self.inside in
    let d : Drafted = record { header = a.header; table = a.tree.table; place = a.tree.place; padding = a.padding.items } in
    let w = c.args.width in
    let pushed : c.push.new.self.items ≡ a.padding.items ++ w ∷ [] = c.in_ok-push.ensures.items in
    let short : passes_limit d w ≡ false = ap (λ (x : Drafted). passes_limit x w) c.self.view_is ∙ c.requires.short in
    subst (λ (ws : List ℕ). IsDrafted (record { header = a.header; table = a.tree.table; place = a.tree.place; padding = ws }) a.tree (a.padded + w)) (sym pushed)
    (pad_kept d a.tree a.padded c.self.invariant w c.requires.width short)

pub returns-clause-size : goal.returns-clause-size
returns-clause-size c =
    let a = c.self.inside in
    let d : Drafted = record { header = a.header; table = a.tree.table; place = a.tree.place; padding = a.padding.items } in
    ap (λ (ws : List ℕ). drafted_size (record { header = a.header; table = a.tree.table; place = a.tree.place; padding = ws })) c.in_ok-push.ensures.items
    ∙ (padded_size d a.tree a.padded c.self.invariant c.args.width ∙ ap (λ (x : Drafted). drafted_size x + c.args.width) c.self.view_is)
