use Rattle.dw_header.specs.declared.versions.Versions.TheVariants.{Five}
use Rattle.dw_header.specs.DecideHeader.{fields_stays}
use Rattle.dw_header.specs.Laws.{header_breaks_stay, headers_stay}
use Rattle.dw_header.proofs.laws.outcomes_are_stable.Goals as goal

pub returns-clause-fields : goal.returns-clause-fields
returns-clause-fields c = fields_stays Five

pub returns-clause-breaks : goal.returns-clause-breaks
returns-clause-breaks c = header_breaks_stay Five

pub returns-clause-headers : goal.returns-clause-headers
returns-clause-headers c = headers_stay Five

pub returns-clause-fields_under : goal.returns-clause-fields_under
returns-clause-fields_under c = fields_stays

pub returns-clause-breaks_under : goal.returns-clause-breaks_under
returns-clause-breaks_under c = header_breaks_stay

pub returns-clause-headers_under : goal.returns-clause-headers_under
returns-clause-headers_under c = headers_stay
