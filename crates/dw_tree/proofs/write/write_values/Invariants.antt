use Rattle.std.proofs.Common.{◌≡◌, ◌≤◌, ◌++◌, None, length, map, take, drop}
use Rattle.dw_leb.specs.Watch.{inner_of, fault_of}
use Rattle.dw_leb.specs.PartlyWritten.{PartlyWritten}
use Rattle.dw_abbrev.specs.PairView.{pair_of}
use Rattle.dw_tree.specs.RowHeads.{Here, run_bytes}
use Rattle.dw_tree.proofs.write.write_values.Given as goal

-- the values before the run are written
abbrev pub invariant-loop-pair : goal.invariant-loop-pair
invariant-loop-pair g l =
    record {
      written : PartlyWritten (g.W.Write.contents (inner_of l.fn.writer)) (g.W.Write.contents (inner_of l.writer)) (take l.size l.run ++ run_bytes l.ctx (map pair_of l.left) (drop l.size l.run) l.pool) (run_bytes l.ctx (map pair_of l.pairs) l.heads l.pool);
      here : Here l.ctx (map pair_of l.left) (drop l.size l.run) l.pool;
      within : l.size ≤ length l.run;
      clear : fault_of l.writer ≡ None;
    }

abbrev pub decreases-loop-pair : goal.decreases-loop-pair
decreases-loop-pair g l = length l.left
