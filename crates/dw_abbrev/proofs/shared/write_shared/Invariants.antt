use Rattle.std.proofs.Common.{◌≡◌, None, length}
use Rattle.dw_leb.specs.Watch.{inner_of, fault_of}
use Rattle.dw_leb.specs.PartlyWritten.{PartlyWritten}
use Rattle.dw_abbrev.specs.TableView.{joined}
use Rattle.dw_abbrev.specs.Spelling.{declarations_bytes}
use Rattle.dw_abbrev.proofs.shared.write_shared.Given as goal

-- the runs before these are written
abbrev pub invariant-loop-part : goal.invariant-loop-part
invariant-loop-part g l =
    record {
      written : PartlyWritten (g.W.Write.contents (inner_of l.fn.writer)) (g.W.Write.contents (inner_of l.writer)) (declarations_bytes (joined l.left)) (declarations_bytes (joined l.runs));
      clear : fault_of l.writer ≡ None;
    }

abbrev pub decreases-loop-part : goal.decreases-loop-part
decreases-loop-part g l = length l.left
