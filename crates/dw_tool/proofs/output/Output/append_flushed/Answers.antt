use Rattle.std.proofs.Common.{rules}
use Rattle.dw_tool.proofs.Appending.{passes_flushed}
use Rattle.dw_tool.proofs.output.Output.append_flushed.Goals as goal

pub returns-then-not-put_front : goal.returns-then-not-put_front
returns-then-not-put_front g c = record {
  passes = passes_flushed c.write_all.result _ _ _ _ c.args.bytes.now _ c.in_ok-flush.ensures.written (search rules) c.write_all.ensures.written;
  fault = c.write_all.ensures.fault;
  same = c.flush.ensures.same_writer;
}
