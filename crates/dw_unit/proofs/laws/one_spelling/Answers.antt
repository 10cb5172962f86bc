use Rattle.dw_header.specs.declared.versions.Versions.TheVariants.{Five}
use Rattle.dw_unit.specs.UnitLaws.{one_unit_over, one_unit}
use Rattle.dw_unit.proofs.laws.one_spelling.Goals as goal

pub returns-clause-over_a_table : goal.returns-clause-over_a_table
returns-clause-over_a_table c = one_unit_over Five

pub returns-clause-units : goal.returns-clause-units
returns-clause-units c = one_unit Five

pub returns-clause-over_a_table_under : goal.returns-clause-over_a_table_under
returns-clause-over_a_table_under c = one_unit_over

pub returns-clause-units_under : goal.returns-clause-units_under
returns-clause-units_under c = one_unit
