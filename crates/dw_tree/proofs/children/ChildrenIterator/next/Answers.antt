use Rattle.std.proofs.Common.{◌≡◌, ◌<◌, List, [], ◌∷◌, length, get_or, sym, ap, subst, ◌∙◌, arith}
use Rattle.dw_tree.specs.declared.row.Row.{Row}
use Rattle.dw_tree.specs.Flat.{IsEntry}
use Rattle.dw_tree.specs.Lent.{EntryAt}
use Rattle.dw_tree.proofs.EntryRows.{chain_row, ChainRow, null_ends, as_long, some_entry}
use Rattle.dw_tree.proofs.children.ChildrenIterator.next.Goals as goal

pub returns-in-Null-clause-steps : goal.returns-in-Null-clause-steps
returns-in-Null-clause-steps c =
    let a = c.tree.inside in
    let v = c.self.inside.tree.now in
    let at = c.self.inside.at in
    let l : at < length a.rows.items = omega (arith, c.self.invariant, as_long a c.tree.invariant v c.tree.view_is, c.if-self-len.false, c.len.ensures, a.rows.ok.0) in
    let e : c.args.self.now ≡ [] = sym c.self.view_is ∙ null_ends a c.tree.invariant v c.tree.view_is at c.index-row.result.now l (ap (λ (r : Row). r.kind) (sym c.index-row.ensures) ∙ c.in-Null.is) in
    (e, e)

pub invariant_of-entry : goal.invariant_of-entry
invariant_of-entry c =
    let a = c.tree.inside in
    let v = c.self.inside.tree.now in
    let at = c.self.inside.at in
    let l : at < length a.rows.items = omega (arith, c.self.invariant, as_long a c.tree.invariant v c.tree.view_is, c.if-self-len.false, c.len.ensures, a.rows.ok.0) in
    let is : IsEntry (get_or a.rows.items at c.index-row.result.now).kind = subst (λ (r : Row). IsEntry r.kind) c.index-row.ensures (some_entry c.index-row.result.now.kind c.in_default.not-Null) in
    (chain_row a c.tree.invariant v c.tree.view_is at c.index-row.result.now l is).stands_here

taken : (s t : List EntryAt) (x : EntryAt) → s ≡ x ∷ t → length t < length s
taken s t x e = omega (arith, ap length e)

pub returns : goal.returns
returns c =
    let a = c.tree.inside in
    let v = c.self.inside.tree.now in
    let at = c.self.inside.at in
    let l : at < length a.rows.items = omega (arith, c.self.invariant, as_long a c.tree.invariant v c.tree.view_is, c.if-self-len.false, c.len.ensures, a.rows.ok.0) in
    let is : IsEntry (get_or a.rows.items at c.index-row.result.now).kind = subst (λ (r : Row). IsEntry r.kind) c.index-row.ensures (some_entry c.index-row.result.now.kind c.in_default.not-Null) in
    let q : ChainRow a c.tree.invariant v at c.index-row.result.now.end = subst (λ (r : Row). ChainRow a c.tree.invariant v at r.end) (sym c.index-row.ensures) (chain_row a c.tree.invariant v c.tree.view_is at c.index-row.result.now l is) in
    let steps = sym c.self.view_is ∙ q.goes_on in
    let k : length _ < length c.args.self.now = taken c.args.self.now _ _ steps in
    record { steps = steps; goes = record { on = λ _. (tt, tt, k); keeps = tt; rests = λ _. tt } }
