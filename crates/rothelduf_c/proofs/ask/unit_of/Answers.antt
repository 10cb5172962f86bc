use Rattle.std.proofs.Common.{ap, sym, ◌∙◌}
use Rattle.dw_section.specs.Lookup.{known_of}
use Rattle.rothelduf_c.proofs.Starts.{no_start_no_item}
use Rattle.rothelduf_c.proofs.ask.unit_of.Goals as goal

pub returns-in_err-start-clause-none : goal.returns-in_err-start-clause-none
returns-in_err-start-clause-none c =
    rw c.from_residual-in_err-start.ensures (ap known_of (no_start_no_item c.args.section.now.items 0 c.args.item (sym c.start.ensures ∙ c.in_err-start.was)))
