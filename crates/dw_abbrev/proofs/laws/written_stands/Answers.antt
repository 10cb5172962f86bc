use Rattle.dw_abbrev.specs.Laws.{written_stands}
use Rattle.dw_abbrev.proofs.laws.written_stands.Goals as goal

pub returns : goal.returns
returns c = written_stands
