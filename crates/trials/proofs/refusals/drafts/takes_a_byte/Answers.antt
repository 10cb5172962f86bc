use Rattle.std.proofs.Common.{◌≡◌, List, ◌∷◌, [], map, subst, sym, ap, ◌∙◌}
use Rattle.std.proofs.lemmas.Bool.{eqb-true}
use Rattle.dw_abbrev.specs.Table.{Pair}
use Rattle.dw_abbrev.specs.PairView.{pair_of}
use Rattle.dw_tree.specs.Steps.{SpellsFirst}
use Rattle.trials.proofs.OneByte.{first_byte}
use Rattle.trials.proofs.refusals.drafts.takes_a_byte.Goals as goal

pub returns-in-Some : goal.returns-in-Some
returns-in-Some c is k =
    let p : Pair = pair_of c.in-Some.pair.now in
    let ps : List Pair = map pair_of c.in-Some.field-0-1.now in
    let pairs : c.args.decl.now.pairs ≡ p ∷ ps = sym c.pairs.ensures ∙ ap (map pair_of) c.in-Some.ensures.cases.0 in
    subst (λ (xs : List Pair). SpellsFirst k xs 1 (7 ∷ [])) (sym pairs) (first_byte k p ps (eqb-true c.in-Some.pair.now.form.value 0x0b is))
