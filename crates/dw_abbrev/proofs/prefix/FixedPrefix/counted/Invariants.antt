use Rattle.std.proofs.Common.{◌≡◌, List, length, ◌++◌, map}
use Rattle.dw_abbrev.specs.Table.{Pair as ThePair}
use Rattle.dw_abbrev.specs.PairView.{pair_of}
use Rattle.dw_abbrev.specs.Build.{ArePairs}
use Rattle.dw_abbrev.specs.Prefix.{IsPrefix}
use Rattle.dw_abbrev.proofs.prefix.FixedPrefix.counted.Given as goal

-- all pairs before these are counted
abbrev pub invariant-loop-pair : goal.invariant-loop-pair
invariant-loop-pair l = (front : List ThePair) × (map pair_of l.pairs ≡ front ++ map pair_of l.left) × (length front ≡ l.prefix.count) × IsPrefix front l.prefix × ArePairs (map pair_of l.left)

abbrev pub decreases-loop-pair : goal.decreases-loop-pair
decreases-loop-pair l = length l.left
