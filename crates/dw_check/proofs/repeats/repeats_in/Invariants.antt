use Rattle.std.proofs.Common.{nat_eq, map, drop}
use Rattle.indexmap.specs.IndexSet.{contains}
use Rattle.dw_abbrev.specs.PairView.{pair_of}
use Rattle.dw_check.proofs.Repeating.{RepeatsSoFar}
use Rattle.dw_check.proofs.repeats.repeats_in.Given as goal

-- the pairs before these have their repeats, and their names are kept
abbrev pub invariant-loop-pair : goal.invariant-loop-pair
invariant-loop-pair l = RepeatsSoFar (contains nat_eq l.names) l.repeats.items (map pair_of (drop l.pair-index l.pairs)) (map pair_of l.pairs)
