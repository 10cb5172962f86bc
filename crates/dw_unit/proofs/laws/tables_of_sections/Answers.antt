use Rattle.dw_header.specs.declared.versions.Versions.TheVariants.{Five}
use Rattle.dw_unit.specs.DecideUnit.{unit_at, break_fails, fails_break}
use Rattle.dw_unit.proofs.laws.tables_of_sections.Goals as goal

pub returns-clause-units_under : goal.returns-clause-units_under
returns-clause-units_under c = λ versions order abbreviations bytes h n t stands place. unit_at versions order abbreviations bytes h n stands t place

pub returns-clause-breaks_under : goal.returns-clause-breaks_under
returns-clause-breaks_under c = λ versions order abbreviations bytes h n t stands place offset reason. (break_fails versions order abbreviations bytes h n stands t place offset reason, fails_break versions order abbreviations bytes h n stands t place offset reason)

pub returns-clause-units : goal.returns-clause-units
returns-clause-units c = returns-clause-units_under c Five

pub returns-clause-breaks : goal.returns-clause-breaks
returns-clause-breaks c = returns-clause-breaks_under c Five
