use Rattle.std.proofs.Common.{◌≡◌, ◌≤◌, ◌++◌, length, map, take, drop}
use Rattle.dw_abbrev.specs.PairView.{pair_of}
use Rattle.dw_tree.specs.RowHeads.{Here, run_bytes}
use Rattle.dw_tree.specs.Grown.{Grown}
use Rattle.dw_tree.proofs.gather.put_values.Given as goal

-- the values before the run are put
abbrev pub invariant-loop-pair : goal.invariant-loop-pair
invariant-loop-pair l =
    record {
      put : l.fn.gathered.items ++ run_bytes l.ctx l.decl.pairs l.heads l.pool ≡ l.gathered.items ++ (take l.size l.run ++ run_bytes l.ctx (map pair_of l.left) (drop l.size l.run) l.pool);
      kept : Grown l.fn.gathered.items l.gathered.items;
      here : Here l.ctx (map pair_of l.left) (drop l.size l.run) l.pool;
      within : l.size ≤ length l.run;
    }

abbrev pub decreases-loop-pair : goal.decreases-loop-pair
decreases-loop-pair l = length l.left
