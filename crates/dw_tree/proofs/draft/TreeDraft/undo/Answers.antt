use Rattle.std.proofs.Common.{◌≤◌, [], length, sym, ap, subst, ◌∙◌, arith, length-append, Option, Some, None, option_map}
use Rattle.dw_leb.specs.View.{uleb_of}
use Rattle.dw_tree.specs.declared.row.Unfinished.{Unfinished}
use Rattle.dw_tree.specs.Place.{Spot, Place, spot_after}
use Rattle.dw_tree.specs.PoolBytes.{joined, held}
use Rattle.dw_tree.specs.Steps.{undone, Growing}
use Rattle.dw_tree.specs.DraftInvariant.{AreLists, IsUnfinished, entry_with}
use Rattle.dw_tree.specs.DraftView.{front}
use Rattle.dw_tree.specs.Counts.{undone_counted}
use Rattle.dw_tree.proofs.Lists.{lists_undone, place_is}
use Rattle.dw_tree.proofs.Begins.{counted_with, partial_within, take_front, spot_is, view_is}
use Rattle.dw_tree.proofs.draft.TreeDraft.undo.Goals as goal

pub invariant_of-self : goal.invariant_of-self
invariant_of-self c =
    let a = c.self.inside in
    let d = c.self.invariant in
    let g = d.given in
    let k = a.context in
    let t = a.table.value in
    let rows = a.rows.items in
    let hs = a.heads.items in
    let pool = a.pool.items in
    let first = front a.partial pool in
    let r = c.in-Some.unfinished in
    let l : AreLists k t a.start rows hs first a.nested.items (Some r) a.here g.tokens g.values = subst (λ (o : Option Unfinished). AreLists k t a.start rows hs first a.nested.items o a.here g.tokens g.values) c.in-Some.is g.lists in
    let u : IsUnfinished k t a.start g.tokens g.values r = l.are_given in
    let within : r.pool ≤ length first = omega (arith, u.entry.from, ap length l.account.pool_is, length-append (held g.tokens) (joined g.values)) in
    let ep = c.truncate-in-Some.ensures.items ∙ sym (take_front a.partial pool r.pool (partial_within a d) within) in
    let s = lists_undone k t a.start rows hs first a.nested.items a.here g.tokens g.values r l c.truncate.new.self.items c.truncate-in-Some.new.self.items c.truncate.ensures.items ep in
    record {
      given = record {
        context_fits = g.context_fits;
        tokens = g.tokens;
        values = [];
        lists = s;
        room = record { row = tt; place = tt };
        near = omega (arith, u.entry.offset, l.here_is, g.near);
        counted = undone_counted t (spot_after g.tokens) (uleb_of r.code) u.entry.decl u.entry.declared g.values a.entries a.asked (counted_with a first g (Some r) c.in-Some.is) r.count u.entry.count;
      };
      partial = tt;
    }

pub returns-in-Some : goal.returns-in-Some
returns-in-Some c =
    let a = c.self.inside in
    let d = c.self.invariant in
    let g = d.given in
    let k = a.context in
    let t = a.table.value in
    let rows = a.rows.items in
    let hs = a.heads.items in
    let pool = a.pool.items in
    let first = front a.partial pool in
    let r = c.in-Some.unfinished in
    let l : AreLists k t a.start rows hs first a.nested.items (Some r) a.here g.tokens g.values = subst (λ (o : Option Unfinished). AreLists k t a.start rows hs first a.nested.items o a.here g.tokens g.values) c.in-Some.is g.lists in
    let u : IsUnfinished k t a.start g.tokens g.values r = l.are_given in
    let within : r.pool ≤ length first = omega (arith, u.entry.from, ap length l.account.pool_is, length-append (held g.tokens) (joined g.values)) in
    let ep = c.truncate-in-Some.ensures.items ∙ sym (take_front a.partial pool r.pool (partial_within a d) within) in
    let s = lists_undone k t a.start rows hs first a.nested.items a.here g.tokens g.values r l c.truncate.new.self.items c.truncate-in-Some.new.self.items c.truncate.ensures.items ep in
    let build : Place → Growing = λ p. record { context = k; table = t; start = a.start; place = p } in
    ap build (place_is k t a.start rows c.truncate.new.self.items c.truncate-in-Some.new.self.items a.nested.items None r.offset g.tokens [] s)
    ∙ (ap (λ (s : Spot). build (record { spot = s; unfinished = None })) (sym (spot_is a.partial pool (record { spot = spot_after g.tokens; unfinished = option_map (entry_with g.values) a.unfinished })))
    ∙ ap undone (sym (view_is a d) ∙ c.self.view_is))
