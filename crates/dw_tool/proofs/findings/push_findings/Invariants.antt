use Rattle.std.proofs.Common.{length}
use Rattle.dw_tool.specs.Findings.{findings_text}
use Rattle.dw_tool.proofs.Appending.{Reaches}
use Rattle.dw_tool.proofs.findings.push_findings.Given as goal

-- the lines of the findings before these are there
abbrev pub invariant-loop-finding : goal.invariant-loop-finding
invariant-loop-finding g l = Reaches g.W.Write.contents l.fn.out l.out (findings_text l.left) (findings_text l.fn.findings)

abbrev pub decreases-loop-finding : goal.decreases-loop-finding
decreases-loop-finding g l = length l.left
