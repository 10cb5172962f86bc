use Rattle.dw_unit.specs.UnitLaws.{units_are_accepted, units_stand_where_accepted, units_break_where_accepted, units_fail_where_accepted}
use Rattle.dw_unit.proofs.laws.versions_judge_versions_alone.Goals as goal

pub returns-clause-accepted : goal.returns-clause-accepted
returns-clause-accepted c = units_are_accepted

pub returns-clause-stand : goal.returns-clause-stand
returns-clause-stand c = units_stand_where_accepted

pub returns-clause-breaks : goal.returns-clause-breaks
returns-clause-breaks c = units_break_where_accepted

pub returns-clause-faults : goal.returns-clause-faults
returns-clause-faults c = units_fail_where_accepted
