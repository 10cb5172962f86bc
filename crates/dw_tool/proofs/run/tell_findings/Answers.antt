use Rattle.std.proofs.Common.{refl}
use Rattle.std.proofs.lemmas.Result.{err_from_is_err_and}
use Rattle.dw_leb.specs.Watch.{inner_of}
use Rattle.dw_check.specs.Findings.{findings}
use Rattle.dw_strings.specs.TextView.{sections_of}
use Rattle.dw_tool.specs.Findings.{findings_text}
use Rattle.dw_tool.proofs.Writing.{keeps_same}
use Rattle.dw_tool.proofs.run.tell_findings.Goals as goal

pub returns-in_err-found-clause-written : goal.returns-in_err-found-clause-written
returns-in_err-found-clause-written g c =
    let r = c.from_residual in
    let p = err_from_is_err_and r.result r.ensures.1 in
    let text = findings_text (findings (sections_of c.args.strings.now) c.args.section.now) in
    rw (p.1, p.2) (text, refl, c.in_err-found.ensures.memory, keeps_same (g.W.Write.contents (inner_of c.args.writer.now)))
