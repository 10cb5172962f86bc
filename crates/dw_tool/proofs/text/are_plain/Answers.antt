use Rattle.std.proofs.Common.{arith}
use Rattle.dw_tool.specs.Text.{escaped}
use Rattle.dw_tool.proofs.Appending.{both_true, each_same}
use Rattle.dw_tool.proofs.text.are_plain.Goals as goal

pub loop-byte-preserved : goal.loop-byte-preserved
loop-byte-preserved c = λ h.
    let plain = both_true c.loop-byte.plain c.is_plain-plain.result h in
    each_same escaped c.args.bytes.now c.loop-byte.byte-index (omega arith) (c.loop-byte.invariant plain.0) (c.is_plain-plain.ensures plain.1)
