use Rattle.std.proofs.Common.{◌≡◌, ℕ, ◌+◌, ◌-◌, ◌<◌, ◌≤◌, List, [], ◌∷◌, length, get_or, refl, sym, ap, subst, ◌∙◌, arith, add-one}
use Rattle.dw_tree.specs.declared.row.Row.{Row}
use Rattle.dw_tree.specs.declared.tree.EntryTree.TheInside.{Inside}
use Rattle.dw_tree.specs.Flat.{IsEntry, IsNull}
use Rattle.dw_tree.specs.Steps.{TreeAt}
use Rattle.dw_tree.specs.TreeView.{tree_at, IsTree}
use Rattle.dw_tree.specs.Lent.{EntryAt, entries_from, entry_at_row}
use Rattle.dw_tree.proofs.EntryRows.{chain_row, skips_all, none_left, next_of, Stands}
use Rattle.dw_tree.proofs.preorder.EntriesIterator.next.Goals as goal

-- what the search for the next entry says
module _ (a : Inside) (i : IsTree a) (v : TreeAt) (e : tree_at a ≡ v) (from at : ℕ) (seen : List Row) (same : seen ≡ a.rows.items) (later : from ≤ at) (inside : at ≤ length seen)
    (nulls : (j : ℕ) (d : Row) → from ≤ j → j < at → IsNull (get_or seen j d).kind) (entry : (d : Row) → at < length seen → IsEntry (get_or seen at d).kind) where
  sum : from + (at - from) ≡ at
  sum = omega (arith, later)

  skipped : entries_from v from ≡ entries_from v at
  skipped =
      skips_all a i v e (at - from) from (omega (arith, sum, inside, ap length same)) (λ j d x y. subst (λ (rs : List Row). IsNull (get_or rs j d).kind) same (nulls j d x (omega (arith, y, sum))))
      ∙ ap (λ (n : ℕ). entries_from v n) sum

  module _ (lt : at < length a.rows.items) where
    is_entry : (d : Row) → IsEntry (get_or a.rows.items at d).kind
    is_entry d = subst (λ (rs : List Row). IsEntry (get_or rs at d).kind) same (entry d (omega (arith, lt, ap length same)))

    by_row : (P : Type 0) → ((d : Row) → P) → P
    by_row P f = by a.rows.items refl
      where
        by : (rs : List Row) → rs ≡ a.rows.items → P
        by [] h = absurd (omega (arith, lt, ap length h))
        by (r ∷ rs) h = f r

    stands : Stands v at
    stands = by_row (Stands v at) (λ d. (chain_row a i v e at d lt (is_entry d)).stands_here)

    goes : entries_from v from ≡ entry_at_row v at ∷ entries_from v (at + 1)
    goes = skipped ∙ (by_row _ (λ d. next_of a i v e at d lt (is_entry d) stands) ∙ ap (λ (n : ℕ). entry_at_row v at ∷ entries_from v n) (sym (add-one at)))

pub returns-then-at-len-clause-steps : goal.returns-then-at-len-clause-steps
returns-then-at-len-clause-steps c =
    let a = c.tree.inside in
    let v = c.self.inside.tree.now in
    let q = c.next_entry-at.ensures in
    let end : entries_from v c.next_entry-at.result ≡ [] = none_left a c.tree.invariant v c.tree.view_is c.next_entry-at.result (c.if-at-len.true ∙ (c.len.ensures ∙ a.rows.ok.0)) in
    (sym c.self.view_is ∙ (skipped a c.tree.invariant v c.tree.view_is c.self.inside.at c.next_entry-at.result c.deref.result.now c.deref.ensures.value q.later q.inside q.nulls q.entry ∙ end), end)

pub invariant_of-result : goal.invariant_of-result
invariant_of-result c =
    let a = c.tree.inside in
    let q = c.next_entry-at.ensures in
    let lt : c.next_entry-at.result < length a.rows.items = omega (arith, q.inside, ap length c.deref.ensures.value, c.if-at-len.false, c.len.ensures, a.rows.ok.0) in
    stands a c.tree.invariant c.self.inside.tree.now c.tree.view_is c.self.inside.at c.next_entry-at.result c.deref.result.now c.deref.ensures.value q.later q.inside q.nulls q.entry lt

pub returns-clause-steps : goal.returns-clause-steps
returns-clause-steps c =
    let a = c.tree.inside in
    let q = c.next_entry-at.ensures in
    let lt : c.next_entry-at.result < length a.rows.items = omega (arith, q.inside, ap length c.deref.ensures.value, c.if-at-len.false, c.len.ensures, a.rows.ok.0) in
    sym c.self.view_is ∙ goes a c.tree.invariant c.self.inside.tree.now c.tree.view_is c.self.inside.at c.next_entry-at.result c.deref.result.now c.deref.ensures.value q.later q.inside q.nulls q.entry lt

taken : (s t : List EntryAt) (x : EntryAt) → s ≡ x ∷ t → length t < length s
taken s t x e = omega (arith, ap length e)

pub returns-clause-goes : goal.returns-clause-goes
returns-clause-goes c =
    let k : length _ < length c.args.self.now = taken c.args.self.now _ _ (returns-clause-steps c) in
    record { on = λ _. (tt, tt, k); keeps = tt; rests = λ _. tt }
