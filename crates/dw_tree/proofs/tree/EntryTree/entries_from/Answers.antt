use Rattle.std.proofs.Common.{◌≡◌, ◌≢◌, ℕ, ◌<◌, length, get_or, List, sym, ap, subst, ◌∙◌, arith}
use Rattle.dw_tree.specs.declared.row.Row.{Row}
use Rattle.dw_tree.specs.Flat.{IsEntry, IsNull}
use Rattle.dw_tree.proofs.EntryRows.{some_entry}
use Rattle.dw_tree.proofs.FindRows.{offsets_grow, none_begins, null_begins, entry_begins}
use Rattle.dw_tree.proofs.tree.EntryTree.entries_from.Goals as goal

pub row_at-requires : goal.row_at-requires
row_at-requires c = rw c.deref.ensures.value (offsets_grow c.self.inside c.self.invariant c.args.self.now c.self.view_is)

pub returns-in_default : goal.returns-in_default
returns-in_default c =
    let rows = c.self.inside.rows.items in
    let none : (j : ℕ) (d : Row) → j < length rows → (get_or rows j d).offset ≢ c.args.offset =
    subst (λ (rs : List Row). (j : ℕ) (d : Row) → j < length rs → (get_or rs j d).offset ≢ c.args.offset) c.deref.ensures.value c.in_default.ensures.none in
    c.no_entries.ensures ∙ sym (none_begins c.self.inside c.self.invariant c.args.self.now c.self.view_is c.args.offset none)

pub returns-in-Null : goal.returns-in-Null
returns-in-Null c =
    let a = c.self.inside in
    let at = c.in-Some.at in
    let r : Row = c.index.result.now in
    let l : at < length a.rows.items = omega (arith, c.in-Some.ensures.inside, ap length c.deref.ensures.value) in
    let here : (get_or a.rows.items at r).offset ≡ c.args.offset = subst (λ (rs : List Row). (get_or rs at r).offset ≡ c.args.offset) c.deref.ensures.value (c.in-Some.ensures.found r) in
    let is : IsNull (get_or a.rows.items at r).kind = subst IsNull (sym (ap (λ (x : Row). x.kind) (sym c.index.ensures) ∙ c.in-Null.is)) tt in
    c.no_entries-in-Null.ensures ∙ sym (null_begins a c.self.invariant c.args.self.now c.self.view_is c.args.offset at r l here is)

pub returns-in_default-kind : goal.returns-in_default-kind
returns-in_default-kind c =
    let a = c.self.inside in
    let at = c.in-Some.at in
    let r : Row = c.index.result.now in
    let l : at < length a.rows.items = omega (arith, c.in-Some.ensures.inside, ap length c.deref.ensures.value) in
    let here : (get_or a.rows.items at r).offset ≡ c.args.offset = subst (λ (rs : List Row). (get_or rs at r).offset ≡ c.args.offset) c.deref.ensures.value (c.in-Some.ensures.found r) in
    let is : IsEntry (get_or a.rows.items at r).kind = subst (λ (x : Row). IsEntry x.kind) c.index.ensures (some_entry r.kind c.in_default-kind.not-Null) in
    sym (entry_begins a c.self.invariant c.args.self.now c.self.view_is c.args.offset at r l here is)
