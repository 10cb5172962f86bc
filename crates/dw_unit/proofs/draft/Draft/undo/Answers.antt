use Rattle.dw_unit.specs.Draft.{Drafted}
use Rattle.dw_unit.proofs.DraftLemmas.{undo_kept}
use Rattle.dw_unit.proofs.draft.Draft.undo.Goals as goal

pub invariant_of-self : goal.invariant_of-self
invariant_of-self c =
    let a = c.self.inside in
    let d : Drafted = record { header = a.header; table = a.tree.table; place = a.tree.place; padding = a.padding.items } in
    undo_kept d a.tree a.padded c.self.invariant c.undo.new.self c.undo.ensures
