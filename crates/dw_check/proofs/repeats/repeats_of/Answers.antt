use Rattle.std.proofs.Common.{[], Bool, List, map, sym, subst}
use Rattle.dw_abbrev.specs.PairView.{pair_of}
use Rattle.dw_check.specs.Repeats.{AreRepeatsFor}
use Rattle.dw_check.proofs.Repeating.{all_are_repeats}
use Rattle.dw_check.proofs.repeats.repeats_of.Goals as goal

pub drop_plain-requires : goal.drop_plain-requires
drop_plain-requires c =
    let pairs = map pair_of c.pairs-pairs.result.now in
    subst (λ (ms : List Bool). AreRepeatsFor [] pairs ms) (sym c.in_ok-repeats-in-Some.ensures) (all_are_repeats [] pairs)
