use Rattle.dw_leb.specs.PartLaws.{one_front}
use Rattle.dw_abbrev.specs.DecideTable.{table_decides}
use Rattle.dw_abbrev.proofs.laws.one_spelling.Goals as goal

pub returns : goal.returns
returns c = one_front _ _ table_decides
