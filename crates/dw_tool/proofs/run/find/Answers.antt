use Rattle.std.proofs.Common.{rules, Err}
use Rattle.dw_leb.specs.Watch.{inner_of}
use Rattle.dw_strings.specs.TextView.{sections_of}
use Rattle.dw_tool.specs.Output.{writer_of}
use Rattle.dw_tool.specs.Find.{found_text}
use Rattle.dw_tool.proofs.Appending.{wrote_flushed, wrote_passed, wrote_stopped}
use Rattle.dw_tool.proofs.run.find.Goals as goal

pub returns-in_err-found-clause-written : goal.returns-in_err-found-clause-written
returns-in_err-found-clause-written g c =
    let text = found_text (sections_of c.args.strings.now) c.args.name.now c.args.section.now in
    let wrote = wrote_stopped g.W.Write.contents c.from_residual.result c.args.writer.now _ _ text c.new-out.ensures.writer c.new-out.ensures.buffer c.from_residual.ensures.1 c.in_err-found.ensures.puts in
    search rules

pub returns-in_err-flush-clause-written : goal.returns-in_err-flush-clause-written
returns-in_err-flush-clause-written g c =
    let text = found_text (sections_of c.args.strings.now) c.args.name.now c.args.section.now in
    let new = g.W.Write.contents (inner_of (writer_of c.flush.new.self)) in
    let failed = wrote_flushed {X = Unit {0}} g.W.Write.contents (Err c.in_err-flush.field-0.0) c.args.writer.now _ _ text new c.new-out.ensures.writer c.new-out.ensures.buffer c.in_ok-found.ensures.puts c.in_err-flush.ensures.written in
    let wrote = wrote_passed _ c.from_residual-in_err-flush.result (g.W.Write.contents (inner_of c.args.writer.now)) new text c.from_residual-in_err-flush.ensures.1 failed in
    search rules
