use Rattle.std.proofs.Common.{◌≡◌, Option, Some, None, length, sym, ap, subst, ◌∙◌, arith, option_map}
use Rattle.dw_abbrev.specs.Table.{Declaration}
use Rattle.dw_tree.specs.declared.draft.TreeDraft.TheInside.{Inside}
use Rattle.dw_tree.specs.declared.row.Unfinished.{Unfinished}
use Rattle.dw_tree.specs.Tree.{declared_pairs}
use Rattle.dw_tree.specs.Place.{spot_after}
use Rattle.dw_tree.specs.Steps.{Growing}
use Rattle.dw_tree.specs.DraftInvariant.{IsUnfinished, AreGiven, entry_with}
use Rattle.dw_tree.specs.DraftView.{front, growing, IsDraft}
use Rattle.dw_tree.specs.Counts.{entries_counted, values_counted}
use Rattle.dw_tree.proofs.Begins.{counted_with, entries_given, values_given, view_is}
use Rattle.dw_tree.proofs.draft.TreeDraft.counts.Goals as goal

all_entries : (a : Inside) (d : IsDraft a) (g : Growing) → growing a ≡ g → a.entries ≡ entries_counted g.place
all_entries a d g e =
    d.given.counted.entries_are
    ∙ entries_given a.partial a.pool.items d.given.values a.unfinished (spot_after d.given.tokens)
    ∙ ap (λ (w : Growing). entries_counted w.place) (sym (view_is a d) ∙ e)

all_values : (a : Inside) (d : IsDraft a) (g : Growing) → growing a ≡ g → (o : Option Unfinished) → a.unfinished ≡ o → values_counted (record { spot = spot_after d.given.tokens; unfinished = option_map (entry_with d.given.values) o }) ≡ values_counted g.place
all_values a d g e o is =
    ap (λ (q : Option Unfinished). values_counted (record { spot = spot_after d.given.tokens; unfinished = option_map (entry_with d.given.values) q })) (sym is)
    ∙ values_given a.partial a.pool.items d.given.values a.unfinished (spot_after d.given.tokens)
    ∙ ap (λ (w : Growing). values_counted w.place) (sym (view_is a d) ∙ e)

pub returns-in-Some-clause-entries : goal.returns-in-Some-clause-entries
returns-in-Some-clause-entries c = all_entries c.self.inside c.self.invariant c.args.self.now c.self.view_is

pub returns-in-Some-clause-values : goal.returns-in-Some-clause-values
returns-in-Some-clause-values c =
    let a = c.self.inside in
    let d = c.self.invariant in
    let g = d.given in
    let r = c.in-Some.unfinished in
    let u : IsUnfinished a.context a.table.value a.start g.tokens g.values r = subst (AreGiven a.context a.table.value a.start g.tokens g.values) c.in-Some.is g.lists.are_given in
    let are = counted_with a (front a.partial a.pool.items) g (Some r) c.in-Some.is in
    let asks = ap (λ (o : Option Declaration). length (declared_pairs o)) u.entry.declared in
    omega (arith, are.asked_are, asks, u.entry.count, u.entry.given, u.short, all_values a d c.args.self.now c.self.view_is (Some r) c.in-Some.is)

pub returns-in-None-clause-entries : goal.returns-in-None-clause-entries
returns-in-None-clause-entries c = all_entries c.self.inside c.self.invariant c.args.self.now c.self.view_is

pub returns-in-None-clause-values : goal.returns-in-None-clause-values
returns-in-None-clause-values c =
    let a = c.self.inside in
    let d = c.self.invariant in
    (counted_with a (front a.partial a.pool.items) d.given None c.in-None.is).asked_are ∙ all_values a d c.args.self.now c.self.view_is None c.in-None.is
