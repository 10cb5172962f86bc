use Rattle.std.proofs.Common.{◌≡◌, ◌≤◌, ◌++◌, length, map, take, drop}
use Rattle.dw_abbrev.specs.PairView.{pair_of}
use Rattle.dw_tree.specs.RowHeads.{Here, run_bytes}
use Rattle.dw_tree.proofs.gather.whole_values.Given as goal

-- the values before the end stand in the run as they are spelled
abbrev pub invariant-loop-pair : goal.invariant-loop-pair
invariant-loop-pair l =
    record {
      joined : take l.size l.run ++ run_bytes l.ctx (map pair_of l.pairs) (drop l.size l.run) l._pool ≡ take l.end l.run ++ run_bytes l.ctx (map pair_of l.left) (drop l.end l.run) l._pool;
      here : Here l.ctx (map pair_of l.left) (drop l.end l.run) l._pool;
      within : l.end ≤ length l.near;
      fewer : length l.left ≤ length l.pairs;
    }

abbrev pub decreases-loop-pair : goal.decreases-loop-pair
decreases-loop-pair l = length l.left
