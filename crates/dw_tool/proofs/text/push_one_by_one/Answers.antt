use Rattle.std.proofs.Common.{arith}
use Rattle.dw_tool.specs.Text.{escaped}
use Rattle.dw_tool.proofs.Appending.{each_stopped, each_whole}
use Rattle.dw_tool.proofs.text.push_one_by_one.Goals as goal

pub returns-in_err-push_escaped : goal.returns-in_err-push_escaped
returns-in_err-push_escaped g c =
    each_stopped g.W.Write.contents c.from_residual.result escaped c.args.bytes.now c.loop-byte.byte-index _ _ _ c.from_residual.ensures.1 (omega arith) c.loop-byte.invariant c.in_err-push_escaped.ensures

pub loop-byte-preserved : goal.loop-byte-preserved
loop-byte-preserved g c =
    each_whole g.W.Write.contents escaped c.args.bytes.now c.loop-byte.byte-index _ _ _ (omega arith) c.loop-byte.invariant c.in_ok-push_escaped.ensures
