use Rattle.dw_header.specs.declared.versions.Versions.TheVariants.{Five}
use Rattle.dw_unit.specs.UnitLaws.{one_break, not_unit_and_break, unit_or_break, one_fault, not_both, some_answer}
use Rattle.dw_unit.proofs.laws.one_outcome.Goals as goal

pub returns-clause-one_break : goal.returns-clause-one_break
returns-clause-one_break c = one_break Five

pub returns-clause-not_unit_and_break : goal.returns-clause-not_unit_and_break
returns-clause-not_unit_and_break c = not_unit_and_break Five

pub returns-clause-unit_or_break : goal.returns-clause-unit_or_break
returns-clause-unit_or_break c = unit_or_break Five

pub returns-clause-fault : goal.returns-clause-fault
returns-clause-fault c = one_fault Five

pub returns-clause-not_both : goal.returns-clause-not_both
returns-clause-not_both c = not_both Five

pub returns-clause-some : goal.returns-clause-some
returns-clause-some c = some_answer Five

pub returns-clause-one_break_under : goal.returns-clause-one_break_under
returns-clause-one_break_under c = one_break

pub returns-clause-not_unit_and_break_under : goal.returns-clause-not_unit_and_break_under
returns-clause-not_unit_and_break_under c = not_unit_and_break

pub returns-clause-unit_or_break_under : goal.returns-clause-unit_or_break_under
returns-clause-unit_or_break_under c = unit_or_break

pub returns-clause-fault_under : goal.returns-clause-fault_under
returns-clause-fault_under c = one_fault

pub returns-clause-not_both_under : goal.returns-clause-not_both_under
returns-clause-not_both_under c = not_both

pub returns-clause-some_under : goal.returns-clause-some_under
returns-clause-some_under c = some_answer
