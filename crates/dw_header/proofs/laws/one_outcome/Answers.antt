use Rattle.dw_header.specs.declared.versions.Versions.TheVariants.{Five}
use Rattle.dw_header.specs.Laws.{one_header_break, no_header_and_break, header_or_break}
use Rattle.dw_header.proofs.laws.one_outcome.Goals as goal

pub returns-clause-one_break : goal.returns-clause-one_break
returns-clause-one_break c = one_header_break Five

pub returns-clause-not_both : goal.returns-clause-not_both
returns-clause-not_both c = no_header_and_break Five

pub returns-clause-some : goal.returns-clause-some
returns-clause-some c = header_or_break Five

pub returns-clause-one_break_under : goal.returns-clause-one_break_under
returns-clause-one_break_under c = one_header_break

pub returns-clause-not_both_under : goal.returns-clause-not_both_under
returns-clause-not_both_under c = no_header_and_break

pub returns-clause-some_under : goal.returns-clause-some_under
returns-clause-some_under c = header_or_break
