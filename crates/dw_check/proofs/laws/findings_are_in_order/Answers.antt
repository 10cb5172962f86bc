use Rattle.dw_check.proofs.Ordered.{findings_ascend}
use Rattle.dw_check.proofs.laws.findings_are_in_order.Goals as goal

pub returns : goal.returns
returns c = findings_ascend
