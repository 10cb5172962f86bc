use Rattle.std.proofs.Common.{◌≡◌, ◌<◌, length, ap, sym, subst, ◌∙◌, arith}
use Rattle.dw_tree.specs.declared.row.Row.{Row}
use Rattle.dw_tree.specs.Lent.{end_offset_of, offset_of_row}
use Rattle.dw_tree.proofs.EntryRows.{entry_row, end_of_tree, row_offset, EntryRow}
use Rattle.dw_tree.proofs.entry.EntryRef.end_offset.Goals as goal

pub returns-then-end-len : goal.returns-then-end-len
returns-then-end-len c =
    let a = c.tree.inside in
    let v = c.self.inside.tree.now in
    let q : EntryRow v a c.self.inside.at c.index.result.now = subst (EntryRow v a c.self.inside.at) (sym c.index.ensures) (entry_row a c.tree.invariant v c.tree.view_is c.self.inside.at c.index.result.now c.self.invariant) in
    let l : c.index.result.now.end < length a.rows.items = omega (arith, c.if-end-len.true, c.len.ensures, a.rows.ok.0) in
    ap (λ (r : Row). r.offset) c.index-then-end-len.ensures ∙ (row_offset a c.tree.invariant v c.tree.view_is c.index.result.now.end c.index-then-end-len.result.now l ∙ (q.end_offset ∙ ap end_offset_of c.self.view_is))

pub returns-else-end-len : goal.returns-else-end-len
returns-else-end-len c =
    let a = c.tree.inside in
    let v = c.self.inside.tree.now in
    let q : EntryRow v a c.self.inside.at c.index.result.now = subst (EntryRow v a c.self.inside.at) (sym c.index.ensures) (entry_row a c.tree.invariant v c.tree.view_is c.self.inside.at c.index.result.now c.self.invariant) in
    let same : length a.rows.items ≡ c.index.result.now.end = omega (arith, q.end_within, c.if-end-len.false, c.len.ensures, a.rows.ok.0) in
    end_of_tree a c.tree.invariant v c.tree.view_is ∙ (ap (offset_of_row v) same ∙ (q.end_offset ∙ ap end_offset_of c.self.view_is))
