use Rattle.std.proofs.Common.{[], length, map}
use Rattle.dw_abbrev.specs.PairView.{pair_of}
use Rattle.dw_check.specs.Repeats.{AreRepeatsFor}
use Rattle.dw_check.proofs.repeats.drop_plain.Given as goal

-- the repeats that are left are repeats for the pairs
abbrev pub invariant-loop-repeated : goal.invariant-loop-repeated
invariant-loop-repeated l = AreRepeatsFor [] (map pair_of l.fn.pairs) l.repeats.items

abbrev pub decreases-loop-repeated : goal.decreases-loop-repeated
decreases-loop-repeated l = length l.repeats.items
