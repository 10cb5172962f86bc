use Rattle.dw_leb.specs.PartLaws.{one_front}
use Rattle.dw_header.specs.declared.versions.Versions.TheVariants.{Five}
use Rattle.dw_header.specs.DecideHeader.{fields_decides}
use Rattle.dw_header.specs.Laws.{no_header_begins, headers_are_accepted, headers_stand_where_accepted, headers_are_spelled, spelled_headers_stand}
use Rattle.dw_header.proofs.laws.one_spelling.Goals as goal

pub returns-clause-fields : goal.returns-clause-fields
returns-clause-fields c = λ order format. one_front _ _ (fields_decides Five order format)

pub returns-clause-none_begins : goal.returns-clause-none_begins
returns-clause-none_begins c = no_header_begins

pub returns-clause-spelled : goal.returns-clause-spelled
returns-clause-spelled c = headers_are_spelled Five

pub returns-clause-stand : goal.returns-clause-stand
returns-clause-stand c = spelled_headers_stand Five

pub returns-clause-fields_under : goal.returns-clause-fields_under
returns-clause-fields_under c = λ versions order format. one_front _ _ (fields_decides versions order format)

pub returns-clause-accepted : goal.returns-clause-accepted
returns-clause-accepted c = headers_are_accepted

pub returns-clause-stand_where_accepted : goal.returns-clause-stand_where_accepted
returns-clause-stand_where_accepted c = headers_stand_where_accepted

pub returns-clause-spelled_under : goal.returns-clause-spelled_under
returns-clause-spelled_under c = headers_are_spelled

pub returns-clause-stand_under : goal.returns-clause-stand_under
returns-clause-stand_under c = spelled_headers_stand
