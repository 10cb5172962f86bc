use Rattle.std.proofs.Common.{rules}
use Rattle.dw_leb.specs.Watch.{inner_of}
use Rattle.dw_tool.specs.Output.{writer_of}
use Rattle.dw_tool.specs.Findings.{findings_text}
use Rattle.dw_tool.proofs.Appending.{wrote_flushed, wrote_stopped}
use Rattle.dw_tool.proofs.run.write_findings.Goals as goal

pub returns-clause-written : goal.returns-clause-written
returns-clause-written g c =
    let wrote =
    wrote_flushed g.W.Write.contents c.flush.result c.args.writer.now _ _ (findings_text c.args.findings.now) (g.W.Write.contents (inner_of (writer_of c.flush.new.self)))
    c.new-out.ensures.writer c.new-out.ensures.buffer c.in_ok-push_findings.ensures c.flush.ensures.written
    in
    search rules

pub returns-in_err-push_findings-clause-written : goal.returns-in_err-push_findings-clause-written
returns-in_err-push_findings-clause-written g c =
    let wrote =
    wrote_stopped g.W.Write.contents c.from_residual.result c.args.writer.now _ _ (findings_text c.args.findings.now)
    c.new-out.ensures.writer c.new-out.ensures.buffer c.from_residual.ensures.1 c.in_err-push_findings.ensures
    in
    search rules
