use Rattle.std.proofs.Common.{List, subst}
use Rattle.dw_check.specs.declared.finding.Finding.{Finding}
use Rattle.dw_tool.specs.Findings.{findings_text}
use Rattle.dw_tool.proofs.Appending.{Reaches, reaches_more, reaches_stopped}
use Rattle.dw_tool.proofs.findings.push_findings.Goals as goal

pub returns-in_err-push_finding : goal.returns-in_err-push_finding
returns-in_err-push_finding g c =
    let text = findings_text c.args.findings.now in
    let h = subst (λ (fs : List Finding). Reaches g.W.Write.contents c.args.out.now c.loop-finding.out (findings_text fs) text) c.in-Some.ensures.cases.0 c.loop-finding.invariant in
    reaches_stopped _ c.from_residual.ensures.1 h c.in_err-push_finding.ensures

pub loop-finding-preserved : goal.loop-finding-preserved
loop-finding-preserved g c =
    let text = findings_text c.args.findings.now in
    let h = subst (λ (fs : List Finding). Reaches g.W.Write.contents c.args.out.now c.loop-finding.out (findings_text fs) text) c.in-Some.ensures.cases.0 c.loop-finding.invariant in
    reaches_more h c.in_ok-push_finding.ensures
