use Rattle.std.proofs.Common.{ap, sym, subst, ◌∙◌, add-one}
use Rattle.dw_tree.specs.Lent.{children_of, chain_from}
use Rattle.dw_tree.proofs.EntryRows.{entry_row, EntryRow, rows_end}
use Rattle.dw_tree.proofs.entry.EntryRef.children.Goals.{in-Branch, in_default}
use Rattle.dw_tree.proofs.entry.EntryRef.children.Goals as goal

pub returns : goal.returns
returns c =
    let a = c.tree.inside in
    let v = c.self.inside.tree.now in
    let at = c.self.inside.at in
    let q : EntryRow v a at c.index.result.now = subst (EntryRow v a at) (sym c.index.ensures) (entry_row a c.tree.invariant v c.tree.view_is at c.index.result.now c.self.invariant) in
    elim c.match-index.branch [
      | in-Branch w ↦ ap (chain_from v) (w.at-is ∙ add-one at) ∙ (q.later w.in-Branch.is ∙ ap children_of c.self.view_is)
      | in_default w ↦ rows_end a c.tree.invariant v c.tree.view_is c.match-index.at (w.at-is ∙ (w.len-at.ensures ∙ a.rows.ok.0)) ∙ (sym (q.leaf_end w.in_default.not-Branch) ∙ ap children_of c.self.view_is)
    ]
