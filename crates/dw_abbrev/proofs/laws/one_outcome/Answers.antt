use Rattle.dw_leb.specs.Laws.{one_answer}
use Rattle.dw_abbrev.specs.DecideTable.{table_decides}
use Rattle.dw_abbrev.proofs.laws.one_outcome.Goals as goal

pub returns : goal.returns
returns c = one_answer _ _ table_decides
