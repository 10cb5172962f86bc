use Rattle.std.proofs.Common.{◌≡◌, ◌<◌, ℕ, List, Option, Some, length, map, slice_get, option_map, refl, sym, ap, ap₂, subst, ◌∙◌, arith}
use Rattle.std.proofs.lemmas.List.{length-map}
use Rattle.std.proofs.lemmas.Option.{slice_get-map, slice_get_read}
use Rattle.dw_abbrev.specs.PairView.{pair_of}
use Rattle.dw_abbrev.specs.Table.{Pair, Declaration, declared}
use Rattle.dw_tree.specs.declared.row.Unfinished.{Unfinished}
use Rattle.dw_tree.specs.Tree.{declared_pairs}
use Rattle.dw_tree.specs.Place.{spot_after}
use Rattle.dw_tree.specs.DraftInvariant.{IsUnfinished, AreGiven, entry_with}
use Rattle.dw_tree.specs.Steps.{Growing, next_pair}
use Rattle.dw_tree.proofs.Begins.{next_given, view_is}
use Rattle.dw_tree.proofs.draft.TreeDraft.next_pair.Goals as goal

pub returns-clause-pair : goal.returns-clause-pair
returns-clause-pair c =
    let a = c.self.inside in
    let t = a.table.value in
    let d = c.self.invariant in
    let g = d.given in
    let r = c.in_ok-unfinished.unfinished in
    let ps = c.pairs.result.now in
    let is : a.unfinished ≡ Some r = c.in_ok-unfinished.was in
    let known : declared t r.code.value ≡ Some c.in_ok-decl.decl.now = ap (λ (u : _). declared u r.code.value) (sym c.deref.ensures) ∙ sym c.in_ok-decl.ensures.value in
    let pairs : declared_pairs (declared t r.code.value) ≡ map pair_of ps = ap declared_pairs known ∙ sym c.pairs.ensures in
    let i : IsUnfinished a.context t a.start g.tokens g.values r = subst (AreGiven a.context t a.start g.tokens g.values) is g.lists.are_given in
    let asked : length i.entry.decl.pairs ≡ length ps = ap (λ (o : Option Declaration). length (declared_pairs o)) (sym i.entry.declared) ∙ (ap length pairs ∙ length-map ps pair_of) in
    let within : r.given < length ps = omega (arith, i.short, i.entry.count, asked) in
    let read : slice_get ps r.given ≡ Some c.index-pairs-unfinished.result = slice_get_read ps (length ps) r.given c.index-pairs-unfinished.result refl within c.index-pairs-unfinished.is in
    ap (option_map pair_of) (sym read)
    ∙ (sym (slice_get-map pair_of ps r.given)
    ∙ (ap₂ (λ (qs : List Pair) (m : ℕ). slice_get qs m) (sym pairs) i.entry.given
    ∙ (ap (λ (o : Option Unfinished). next_pair t (option_map (entry_with g.values) o)) (sym is)
    ∙ (next_given t a.partial a.pool.items g.values a.unfinished (spot_after g.tokens)
    ∙ ap (λ (w : Growing). next_pair w.table w.place.unfinished) (sym (view_is a d) ∙ c.self.view_is)))))
