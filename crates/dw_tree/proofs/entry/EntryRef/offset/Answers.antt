use Rattle.std.proofs.Common.{ap, ◌∙◌}
use Rattle.dw_tree.specs.declared.row.Row.{Row}
use Rattle.dw_tree.specs.Lent.{EntryAt}
use Rattle.dw_tree.proofs.EntryRows.{entry_row}
use Rattle.dw_tree.proofs.entry.EntryRef.offset.Goals as goal

pub returns : goal.returns
returns c =
    ap (λ (r : Row). r.offset) c.index.ensures
    ∙ ((entry_row c.tree.inside c.tree.invariant c.self.inside.tree.now c.tree.view_is c.self.inside.at c.index.result.now c.self.invariant).offset
    ∙ ap (λ (e : EntryAt). e.offset) c.self.view_is)
