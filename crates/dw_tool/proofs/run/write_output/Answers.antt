use Rattle.std.proofs.lemmas.Result.{err_from_is_err_and}
use Rattle.dw_leb.specs.Watch.{inner_of}
use Rattle.dw_strings.specs.TextView.{sections_of}
use Rattle.dw_tool.proofs.Writing.{unwritten}
use Rattle.dw_tool.proofs.run.write_output.Goals as goal

pub returns-in_err-line-in-TypeOf-clause-written : goal.returns-in_err-line-in-TypeOf-clause-written
returns-in_err-line-in-TypeOf-clause-written g c =
    let r = c.from_residual-in_err-line-in-TypeOf in
    let p = err_from_is_err_and r.result r.ensures.1 in
    rw (p.1, p.2) (unwritten (sections_of c.args.strings.now) c.args.section.now (g.W.Write.contents (inner_of c.args.writer.now)) c.args.command c.in-TypeOf.offset c.in_err-line-in-TypeOf.field-0.0 c.in-TypeOf.is c.in_err-line-in-TypeOf.ensures.refused)
