use Rattle.std.proofs.Common.{◌≡◌, ◌∙◌, ℕ, List, length, IfSome, IfNone, None, IsTrue, false, refl, subst, ap, eqb}
use Rattle.std.specs.Map.{lookup}
use Rattle.dw_abbrev.specs.Table.{Declaration, declared_in}
use Rattle.dw_abbrev.specs.Places.{StandsAt, places_from}
use Rattle.dw_abbrev.proofs.PlaceLemmas.{none_placed, all_placed, numbered_found, numbered_none, placed_found, placed_none}
use Rattle.dw_abbrev.proofs.decls.Decls.index_of.Goals as goal

pub returns-then-is_empty-clause-found : goal.returns-then-is_empty-clause-found
returns-then-is_empty-clause-found c =
    let ds : List Declaration = c.self.inside.list.items in
    let numbered = none_placed c.self.inside.places.entries ds c.self.invariant.places (c.if-is_empty.ensures.0 refl) in
    subst (λ (xs : List Declaration). IfSome c.numbered_index.result (λ i. StandsAt xs i c.args.code)) c.self.view_is
    (numbered_found ds c.args.code c.len.result c.numbered_index.result numbered (c.len.ensures ∙ c.self.inside.list.ok.0) c.numbered_index.ensures.found)

pub returns-then-is_empty-clause-none : goal.returns-then-is_empty-clause-none
returns-then-is_empty-clause-none c =
    let ds : List Declaration = c.self.inside.list.items in
    let numbered = none_placed c.self.inside.places.entries ds c.self.invariant.places (c.if-is_empty.ensures.0 refl) in
    subst (λ (xs : List Declaration). IfNone c.numbered_index.result (declared_in xs c.args.code ≡ None)) c.self.view_is
    (numbered_none ds c.args.code c.len.result c.numbered_index.result numbered (c.len.ensures ∙ c.self.inside.list.ok.0) c.numbered_index.ensures.none)

pub returns-clause-found : goal.returns-clause-found
returns-clause-found c =
    let ds : List Declaration = c.self.inside.list.items in
    let es = c.self.inside.places.entries in
    let placed = all_placed es ds c.self.invariant.places (λ e. let f : IsTrue false = c.if-is_empty.ensures.1 e in absurd cc) in
    let is = c.copied.ensures ∙ c.get.ensures.value ∙ ap (lookup (eqb c.args.code)) placed in
    subst (λ (xs : List Declaration). IfSome c.copied.result (λ i. StandsAt xs i c.args.code)) c.self.view_is (placed_found ds c.args.code c.copied.result is)

pub returns-clause-none : goal.returns-clause-none
returns-clause-none c =
    let ds : List Declaration = c.self.inside.list.items in
    let es = c.self.inside.places.entries in
    let placed = all_placed es ds c.self.invariant.places (λ e. let f : IsTrue false = c.if-is_empty.ensures.1 e in absurd cc) in
    let is = c.copied.ensures ∙ c.get.ensures.value ∙ ap (lookup (eqb c.args.code)) placed in
    subst (λ (xs : List Declaration). IfNone c.copied.result (declared_in xs c.args.code ≡ None)) c.self.view_is (placed_none ds c.args.code c.copied.result is)
