use Rattle.std.proofs.Common.{ap, ◌∙◌}
use Rattle.dw_tree.specs.declared.row.Row.{Row}
use Rattle.dw_tree.specs.Flat.{code_in}
use Rattle.dw_tree.specs.Lent.{EntryAt, code_of}
use Rattle.dw_tree.proofs.EntryRows.{entry_row}
use Rattle.dw_tree.proofs.entry.EntryRef.code.Goals as goal

pub returns : goal.returns
returns c =
    c.code.ensures
    ∙ (ap (λ (r : Row). code_in r) c.index.ensures
    ∙ ((entry_row c.tree.inside c.tree.invariant c.self.inside.tree.now c.tree.view_is c.self.inside.at c.index.result.now c.self.invariant).code
    ∙ ap (λ (e : EntryAt). code_of e.node) c.self.view_is))
