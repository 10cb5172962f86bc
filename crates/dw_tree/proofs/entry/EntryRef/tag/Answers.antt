use Rattle.std.proofs.Common.{◌≡◌, ap, sym, subst, ◌∙◌, Some, refl}
use Rattle.dw_leb.specs.Number.{Unsigned}
use Rattle.dw_abbrev.specs.Table.{Table, declared}
use Rattle.dw_tree.specs.Steps.{TreeAt}
use Rattle.dw_tree.specs.TreeView.{tree_at}
use Rattle.dw_tree.specs.Flat.{code_in}
use Rattle.dw_tree.specs.Lent.{EntryAt, code_of, tag_of}
use Rattle.dw_tree.proofs.EntryRows.{entry_row, EntryRow, Stands, node_at, not_missing}
use Rattle.dw_tree.proofs.entry.EntryRef.tag.Goals as goal

pub unreachable-requires : goal.unreachable-requires
unreachable-requires c =
    let a = c.tree.inside in
    let at = c.self.inside.at in
    let s : Stands (tree_at a) at = subst (λ (w : TreeAt). Stands w at) (sym c.tree.view_is) c.self.invariant in
    let q : EntryRow (tree_at a) a at c.index.result.now = subst (EntryRow (tree_at a) a at) (sym c.index.ensures) (entry_row a c.tree.invariant (tree_at a) refl at c.index.result.now s) in
    not_missing a.table.value (code_of (node_at (tree_at a) at)) (code_in c.index.result.now) q.code q.fits.known (ap (λ (t : Table). declared t c.index.result.now.code) (sym c.deref.ensures) ∙ sym c.in-None.ensures.value)

pub returns : goal.returns
returns c =
    let a = c.tree.inside in
    let at = c.self.inside.at in
    let s : Stands (tree_at a) at = subst (λ (w : TreeAt). Stands w at) (sym c.tree.view_is) c.self.invariant in
    let q : EntryRow (tree_at a) a at c.index.result.now = subst (EntryRow (tree_at a) a at) (sym c.index.ensures) (entry_row a c.tree.invariant (tree_at a) refl at c.index.result.now s) in
    let known : declared a.table.value c.index.result.now.code ≡ Some c.in-Some.decl.now = ap (λ (t : Table). declared t c.index.result.now.code) (sym c.deref.ensures) ∙ sym c.in-Some.ensures.value in
    ap (λ (u : Unsigned). u.value) c.tag.ensures
    ∙ (ap tag_of (sym known)
    ∙ (ap (λ (u : Unsigned). tag_of (declared a.table.value u.value)) q.code
    ∙ (ap (λ (w : TreeAt). tag_of (declared w.table (code_of (node_at w at)).value)) c.tree.view_is
    ∙ ap (λ (e : EntryAt). tag_of (declared e.table (code_of e.node).value)) c.self.view_is)))
