use Rattle.std.proofs.Common.{◌≡◌, ◌+◌, ℕ, List, length, map, drop, ap, ap₂, sym, subst, ◌∙◌, arith, Some, refl}
use Rattle.dw_abbrev.specs.Table.{Table, declared}
use Rattle.dw_abbrev.specs.PairView.{pair_of}
use Rattle.dw_tree.specs.Steps.{TreeAt}
use Rattle.dw_tree.specs.TreeView.{tree_at}
use Rattle.dw_tree.specs.RowHeads.{values_at}
use Rattle.dw_tree.specs.Flat.{code_in}
use Rattle.dw_tree.specs.Lent.{code_of, attributes_of, lent_attributes, entry_at_row}
use Rattle.dw_tree.proofs.EntryRows.{entry_row, EntryRow, Stands, node_at, not_missing, are_lent, lent_are}
use Rattle.dw_tree.proofs.entry.EntryRef.attrs.Goals as goal

pub behind-heads-requires : goal.behind-heads-requires
behind-heads-requires c =
    let a = c.tree.inside in
    let at = c.self.inside.at in
    let r = c.index-row.result.now in
    let s : Stands (tree_at a) at = subst (λ (w : TreeAt). Stands w at) (sym c.tree.view_is) c.self.invariant in
    let q : EntryRow (tree_at a) a at r = subst (EntryRow (tree_at a) a at) (sym c.index-row.ensures) (entry_row a c.tree.invariant (tree_at a) refl at r s) in
    omega (arith, q.reads.within, ap length c.deref-in-Some.ensures.value)

pub overflow_add-at : goal.overflow_add-at
overflow_add-at c =
    let a = c.tree.inside in
    let at = c.self.inside.at in
    let r = c.index-row.result.now in
    let s : Stands (tree_at a) at = subst (λ (w : TreeAt). Stands w at) (sym c.tree.view_is) c.self.invariant in
    let q : EntryRow (tree_at a) a at r = subst (EntryRow (tree_at a) a at) (sym c.index-row.ensures) (entry_row a c.tree.invariant (tree_at a) refl at r s) in
    let known : declared a.table.value r.code ≡ Some c.in-Some.decl.now = ap (λ (t : Table). declared t r.code) (sym c.deref.ensures) ∙ sym c.in-Some.ensures.value in
    let ps = c.pairs-pairs.result.now in
    let l = are_lent a c.tree.invariant at r q ps c.in-Some.decl.now known c.pairs-pairs.ensures in
    omega (arith, l.room)

pub of-requires : goal.of-requires
of-requires c =
    let a = c.tree.inside in
    let at = c.self.inside.at in
    let r = c.index-row.result.now in
    let s : Stands (tree_at a) at = subst (λ (w : TreeAt). Stands w at) (sym c.tree.view_is) c.self.invariant in
    let q : EntryRow (tree_at a) a at r = subst (EntryRow (tree_at a) a at) (sym c.index-row.ensures) (entry_row a c.tree.invariant (tree_at a) refl at r s) in
    let known : declared a.table.value r.code ≡ Some c.in-Some.decl.now = ap (λ (t : Table). declared t r.code) (sym c.deref.ensures) ∙ sym c.in-Some.ensures.value in
    let ps = c.pairs-pairs.result.now in
    rw (c.behind-heads.ensures, c.deref-in-Some.ensures.value, c.deref-in-Some-2.ensures.value) (are_lent a c.tree.invariant at r q ps c.in-Some.decl.now known c.pairs-pairs.ensures)

pub unreachable-requires : goal.unreachable-requires
unreachable-requires c =
    let a = c.tree.inside in
    let at = c.self.inside.at in
    let r = c.index-row.result.now in
    let s : Stands (tree_at a) at = subst (λ (w : TreeAt). Stands w at) (sym c.tree.view_is) c.self.invariant in
    let q : EntryRow (tree_at a) a at r = subst (EntryRow (tree_at a) a at) (sym c.index-row.ensures) (entry_row a c.tree.invariant (tree_at a) refl at r s) in
    not_missing a.table.value (code_of (node_at (tree_at a) at)) (code_in r) q.code q.fits.known (ap (λ (t : Table). declared t r.code) (sym c.deref.ensures) ∙ sym c.in-None.ensures.value)

pub returns : goal.returns
returns c =
    let a = c.tree.inside in
    let at = c.self.inside.at in
    let r = c.index-row.result.now in
    let s : Stands (tree_at a) at = subst (λ (w : TreeAt). Stands w at) (sym c.tree.view_is) c.self.invariant in
    let q : EntryRow (tree_at a) a at r = subst (EntryRow (tree_at a) a at) (sym c.index-row.ensures) (entry_row a c.tree.invariant (tree_at a) refl at r s) in
    let known : declared a.table.value r.code ≡ Some c.in-Some.decl.now = ap (λ (t : Table). declared t r.code) (sym c.deref.ensures) ∙ sym c.in-Some.ensures.value in
    let ps = c.pairs-pairs.result.now in
    c.of.ensures
    ∙ (ap₂ (λ (hs p : List ℕ). lent_attributes a.context (r.offset + r.width) (map pair_of ps) (values_at a.context (map pair_of ps) hs p)) (c.behind-heads.ensures ∙ ap (λ (hs : List ℕ). drop r.first hs) c.deref-in-Some.ensures.value) c.deref-in-Some-2.ensures.value
    ∙ (lent_are a c.tree.invariant at r q ps c.in-Some.decl.now known c.pairs-pairs.ensures
    ∙ (ap (λ (w : TreeAt). attributes_of (entry_at_row w at)) c.tree.view_is ∙ ap attributes_of c.self.view_is)))
