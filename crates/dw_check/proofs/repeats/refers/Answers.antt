use Rattle.std.proofs.Common.{◌≡◌, ◌∙◌, List, map, ap}
use Rattle.std.specs.List.{list_any}
use Rattle.dw_abbrev.specs.PairView.{pair_of}
use Rattle.dw_abbrev.specs.Table.{Pair, declared}
use Rattle.dw_tree.specs.Tree.{declared_pairs}
use Rattle.dw_check.specs.Repeats.{refers_within}
use Rattle.dw_check.proofs.Repeating.{any_refers}
use Rattle.dw_check.proofs.repeats.refers.Goals as goal

pub returns-in-Some : goal.returns-in-Some
returns-in-Some c =
    let pairs : map pair_of c.pairs.result.now ≡ declared_pairs (declared c.args.table.now c.args.code) = c.pairs.ensures ∙ ap declared_pairs c.in-Some.ensures.value in
    c.any_refers.ensures ∙ any_refers c.pairs.result.now ∙ ap (λ (ps : List Pair). list_any (λ p. refers_within p.name.value p.form.value) ps) pairs
