use Rattle.dw_leb.specs.declared.errors.Reason.TheVariants.{Truncated}
use Rattle.dw_header.specs.Laws.{no_header_and_break, one_header_break}
use Rattle.dw_feed.proofs.head.cut_off.Goals as goal

pub unreachable-requires : goal.unreachable-requires
unreachable-requires c = no_header_and_break c.args.versions c.args.order c.args.taken.now c.in-Ok.field-0.0 c.in-Ok.field-0.1 c.requires.0 Truncated c.in-Ok.ensures.found c.requires.1

pub returns-clause-cut : goal.returns-clause-cut
returns-clause-cut c = (one_header_break c.args.versions c.args.order c.args.taken.now c.in-Err.fault.offset c.requires.0 c.in-Err.fault.reason Truncated c.in-Err.ensures.broken.1 c.requires.1).1
