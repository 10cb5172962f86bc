use Rattle.dw_check.proofs.Listed.{findings_are_those}
use Rattle.dw_check.proofs.laws.findings_are_all_there_are.Goals as goal

pub returns : goal.returns
returns c = findings_are_those
