use Rattle.std.proofs.Common.{arith}
use Rattle.dw_tool.specs.Text.{two_digits}
use Rattle.dw_tool.proofs.Appending.{each_stopped, each_whole}
use Rattle.dw_tool.proofs.text.push_each_digits.Goals as goal

pub returns-in_err-push_two_digits : goal.returns-in_err-push_two_digits
returns-in_err-push_two_digits g c =
    each_stopped g.W.Write.contents c.from_residual.result two_digits _ _ _ _ _ c.from_residual.ensures.1 (omega arith) c.loop-byte.invariant c.in_err-push_two_digits.ensures

pub loop-byte-preserved : goal.loop-byte-preserved
loop-byte-preserved g c = each_whole g.W.Write.contents two_digits _ _ _ _ _ (omega arith) c.loop-byte.invariant c.in_ok-push_two_digits.ensures
