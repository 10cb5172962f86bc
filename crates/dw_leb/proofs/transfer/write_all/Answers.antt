use Rattle.std.proofs.Common.{◌∙◌, arith}
use Rattle.std.proofs.lemmas.Grind.{common_steps}
use Rattle.dw_leb.specs.Transfers.{appends_part, write_fault_none}
use Rattle.dw_leb.proofs.transfer.write_all.Goals as goal

pub loop-at-preserved : goal.loop-at-preserved
loop-at-preserved g c =
    record {
      written = appends_part _ _ _ _ _ _ c.loop-at.invariant.within c.loop-at.invariant.written c.in-Ok.ensures.bytes;
      within = grind (arith, common_steps);
      clear = c.in-Ok.ensures.fault ∙ write_fault_none _ _ c.in-Ok.n-test.1;
    }
