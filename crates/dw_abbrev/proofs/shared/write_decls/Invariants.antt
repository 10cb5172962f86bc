use Rattle.std.proofs.Common.{◌≡◌, None, length}
use Rattle.dw_leb.specs.Watch.{inner_of, fault_of}
use Rattle.dw_abbrev.specs.Spelling.{declarations_bytes}
use Rattle.dw_leb.specs.PartlyWritten.{PartlyWritten}
use Rattle.dw_abbrev.proofs.shared.write_decls.Given as goal

-- the declarations before these are written
abbrev pub invariant-loop-decl : goal.invariant-loop-decl
invariant-loop-decl g l =
    record {
      written : PartlyWritten (g.W.Write.contents (inner_of l.fn.writer)) (g.W.Write.contents (inner_of l.writer)) (declarations_bytes l.left) (declarations_bytes l.decls);
      clear : fault_of l.writer ≡ None;
    }

abbrev pub decreases-loop-decl : goal.decreases-loop-decl
decreases-loop-decl g l = length l.left
