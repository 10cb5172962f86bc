use Rattle.dw_abbrev.specs.Laws.{one_table}
use Rattle.dw_abbrev.proofs.laws.one_table.Goals as goal

pub returns : goal.returns
returns c = one_table
