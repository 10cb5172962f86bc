use Rattle.std.proofs.Common.{◌≡◌, ◌-◌, ℕ, List, Option, Some, length, take, drop, map, option_map, sym, ap, ap₂, subst, ◌∙◌, arith, length-drop}
use Rattle.std.specs.Prelude.{IfSome}
use Rattle.std.proofs.lemmas.List.{drop-map, take_all}
use Rattle.dw_abbrev.specs.PairView.{pair_of}
use Rattle.dw_abbrev.specs.Table.{Pair, declared}
use Rattle.dw_abbrev.specs.declared.pair.Pair.{Pair as RustPair}
use Rattle.dw_tree.specs.declared.row.Unfinished.{Unfinished}
use Rattle.dw_tree.specs.Tree.{declared_pairs}
use Rattle.dw_tree.specs.Place.{spot_after}
use Rattle.dw_tree.specs.DraftInvariant.{IsUnfinished, AreGiven, entry_with}
use Rattle.dw_tree.specs.Steps.{Growing, next_pairs}
use Rattle.dw_tree.proofs.Begins.{given_pairs, view_is}
use Rattle.dw_tree.proofs.draft.TreeDraft.next_pairs.Goals as goal

pub returns-in-Some-get-clause-some : goal.returns-in-Some-get-clause-some
returns-in-Some-get-clause-some c =
    let a = c.self.inside in
    let t = a.table.value in
    let d = c.self.invariant in
    let g = d.given in
    let r = c.in-Some.unfinished in
    let ps = c.pairs.result.now in
    let is : a.unfinished ≡ Some r = c.in-Some.is in
    let same : t ≡ c.args.table.now = ap (λ (w : Growing). w.table) (sym (view_is a d) ∙ c.self.view_is) ∙ sym c.requires in
    let known : declared t r.code.value ≡ Some c.in-Some-get.decl.now = ap (λ (u : _). declared u r.code.value) same ∙ sym c.in-Some-get.ensures.value in
    let pairs : declared_pairs (declared t r.code.value) ≡ map pair_of ps = ap declared_pairs known ∙ sym c.pairs.ensures in
    let i : IsUnfinished a.context t a.start g.tokens g.values r = subst (AreGiven a.context t a.start g.tokens g.values) is g.lists.are_given in
    let xs : List RustPair = take (length ps - r.given) (drop r.given ps) in
    let whole : xs ≡ drop r.given ps = take_all (length ps - r.given) (drop r.given ps) (omega (arith, length-drop r.given ps)) in
    let left : map pair_of xs ≡ next_pairs t (entry_with g.values r) =
    ap (λ (ys : List RustPair). map pair_of ys) whole ∙ (sym (drop-map pair_of r.given ps) ∙ ap₂ (λ (qs : List Pair) (m : ℕ). drop m qs) (sym pairs) i.entry.given) in
    subst (λ (w : Growing). IfSome w.place.unfinished (λ x. map pair_of xs ≡ next_pairs w.table x)) (sym (view_is a d) ∙ c.self.view_is)
    (given_pairs t a.partial a.pool.items g.values a.unfinished (spot_after g.tokens) (map pair_of xs) (subst (λ (o : Option Unfinished). IfSome (option_map (entry_with g.values) o) (λ x. map pair_of xs ≡ next_pairs t x)) (sym is) left))
