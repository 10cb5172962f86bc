use Rattle.std.proofs.Common.{◌≡◌, ◌∙◌, ◌+◌, ◌++◌, ◌∷◌, [], ℕ, List, None, length, sym, ap, subst, eqb, arith, append_assoc}
use Rattle.std.specs.Map.{lookup}
use Rattle.indexmap.specs.IndexMap.{insert_entry}
use Rattle.indexmap.proofs.CallerLemmas.{insert_entry-new}
use Rattle.dw_leb.specs.Number.{Unsigned}
use Rattle.dw_abbrev.specs.Table.{Declaration, declared_in}
use Rattle.dw_abbrev.specs.Places.{AreApart, places_from}
use Rattle.dw_abbrev.proofs.PlaceLemmas.{apart_before, no_place, places_length, places_push}
use Rattle.dw_abbrev.proofs.decls.places_of.Goals as goal

pub loop-decl-preserved : goal.loop-decl-preserved
loop-decl-preserved c =
    let before : List Declaration = c.loop-decl.invariant.0 in
    let d : Declaration = c.in-Some.decl.now in
    let others : List Declaration = c.in-Some.others.now in
    let es = c.loop-decl.places.entries in
    let placed : es ≡ places_from 0 before = c.loop-decl.invariant.2 in
    let whole : before ++ d ∷ others ≡ c.args.list.now = ap (λ (xs : List Declaration). before ++ xs) (sym c.in-Some.ensures.cases.0) ∙ c.loop-decl.invariant.1 in
    let apart = subst (λ (xs : List Declaration). AreApart xs []) (sym whole) c.requires in
    let none : lookup (eqb d.code.value) es ≡ None = ap (lookup (eqb d.code.value)) placed ∙ no_place 0 before d.code.value (apart_before before d others apart) in
    let code : c.code.result.value ≡ d.code.value = ap (λ (u : Unsigned). u.value) c.code.ensures in
    let count : c.len.result ≡ 0 + length before = omega (arith, c.len.ensures.len, ap length placed, places_length 0 before) in
    let new = c.in_ok-insert.ensures.entries ∙ ap (λ (k : ℕ). insert_entry eqb es k c.len.result) code ∙ insert_entry-new eqb c.loop-decl.places d.code.value c.len.result none
    ∙ ap (λ (xs : List (ℕ × ℕ)). xs ++ (d.code.value, c.len.result) ∷ []) placed ∙ ap (λ (k : ℕ). places_from 0 before ++ (d.code.value, k) ∷ []) count ∙ sym (places_push 0 before d) in
    (before ++ d ∷ [], append_assoc before (d ∷ []) others ∙ whole, new)
