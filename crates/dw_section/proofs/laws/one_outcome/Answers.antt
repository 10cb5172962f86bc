use Rattle.dw_section.specs.SectionLaws.{one_section, one_fault, not_both, some_answer}
use Rattle.dw_section.proofs.laws.one_outcome.Goals as goal

pub returns-clause-section : goal.returns-clause-section
returns-clause-section c = one_section

pub returns-clause-fault : goal.returns-clause-fault
returns-clause-fault c = one_fault

pub returns-clause-not_both : goal.returns-clause-not_both
returns-clause-not_both c = not_both

pub returns-clause-some : goal.returns-clause-some
returns-clause-some c = some_answer
