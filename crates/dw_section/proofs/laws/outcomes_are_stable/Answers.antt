use Rattle.dw_section.specs.SectionLaws.{faults_stay}
use Rattle.dw_section.proofs.laws.outcomes_are_stable.Goals as goal

pub returns : goal.returns
returns c = record { faults = faults_stay }
