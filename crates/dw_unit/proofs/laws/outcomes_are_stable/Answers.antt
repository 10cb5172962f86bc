use Rattle.dw_header.specs.declared.versions.Versions.TheVariants.{Five}
use Rattle.dw_unit.specs.DecideUnit.{front_stays, break_stays, unit_stays, fault_stays}
use Rattle.dw_unit.specs.UnitLaws.{fronts_are_cut, fronts_are_truncated}
use Rattle.dw_unit.proofs.laws.outcomes_are_stable.Goals as goal

pub returns-clause-fronts_stay : goal.returns-clause-fronts_stay
returns-clause-fronts_stay c = front_stays Five

pub returns-clause-breaks : goal.returns-clause-breaks
returns-clause-breaks c = break_stays Five

pub returns-clause-fronts : goal.returns-clause-fronts
returns-clause-fronts c = fronts_are_cut Five

pub returns-clause-units : goal.returns-clause-units
returns-clause-units c = unit_stays Five

pub returns-clause-faults : goal.returns-clause-faults
returns-clause-faults c = fault_stays Five

pub returns-clause-truncated : goal.returns-clause-truncated
returns-clause-truncated c = fronts_are_truncated Five

pub returns-clause-fronts_stay_under : goal.returns-clause-fronts_stay_under
returns-clause-fronts_stay_under c = front_stays

pub returns-clause-breaks_under : goal.returns-clause-breaks_under
returns-clause-breaks_under c = break_stays

pub returns-clause-fronts_under : goal.returns-clause-fronts_under
returns-clause-fronts_under c = fronts_are_cut

pub returns-clause-units_under : goal.returns-clause-units_under
returns-clause-units_under c = unit_stays

pub returns-clause-faults_under : goal.returns-clause-faults_under
returns-clause-faults_under c = fault_stays

pub returns-clause-truncated_under : goal.returns-clause-truncated_under
returns-clause-truncated_under c = fronts_are_truncated
