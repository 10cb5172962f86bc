use Rattle.std.proofs.lemmas.Result.{err_from_is_err_and}
use Rattle.dw_leb.specs.Watch.{inner_of}
use Rattle.dw_strings.specs.TextView.{sections_of}
use Rattle.dw_tool.proofs.Writing.{nothing_read, took}
use Rattle.dw_tool.proofs.run.run.Goals as goal

pub returns-clause-memory : goal.returns-clause-memory
returns-clause-memory g c =
    took c.args.command (sections_of c.args.inputs.strings) c.args.inputs.versions c.args.inputs.order c.args.inputs.abbrev.now
    (g.R.Read.remaining (inner_of c.args.inputs.info.now)) (g.R.Read.remaining (inner_of c.read_section_as.new.reader)) _ _ c.in_ok-section.section c.in_ok-section.ensures.found c.write_output.result c.write_output.ensures.written

pub returns-in_err-section-clause-runs : goal.returns-in_err-section-clause-runs
returns-in_err-section-clause-runs g c =
    let p = err_from_is_err_and c.from_residual.result c.from_residual.ensures.1 in
    rw (p.1, p.2)
    (nothing_read c.args.command (sections_of c.args.inputs.strings) c.args.inputs.versions c.args.inputs.order c.args.inputs.abbrev.now
    (g.R.Read.remaining (inner_of c.args.inputs.info.now)) (g.R.Read.remaining (inner_of c.read_section_as.new.reader)) (g.W.Write.contents (inner_of c.args.writer.now)) c.in_err-section.field-0.0 c.in_err-section.ensures.broken)
