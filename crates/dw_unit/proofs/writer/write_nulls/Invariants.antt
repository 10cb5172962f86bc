use Rattle.std.proofs.Common.{◌≡◌, None, length}
use Rattle.dw_leb.specs.Watch.{inner_of, fault_of}
use Rattle.dw_leb.specs.PartlyWritten.{PartlyWritten}
use Rattle.dw_tree.specs.Tree.{nulls, AreNulls}
use Rattle.dw_unit.proofs.writer.write_nulls.Given as goal

-- the nulls before these are written
abbrev pub invariant-loop-width : goal.invariant-loop-width
invariant-loop-width g l =
    record {
      written : PartlyWritten (g.W.Write.contents (inner_of l.fn.writer)) (g.W.Write.contents (inner_of l.writer)) (nulls l.left) (nulls l.widths);
      fits : AreNulls l.left;
      clear : fault_of l.writer ≡ None;
    }

abbrev pub decreases-loop-width : goal.decreases-loop-width
decreases-loop-width g l = length l.left
