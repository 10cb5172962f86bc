use Rattle.dw_leb.specs.Number.{sleb}
use Rattle.dw_leb.specs.View.{sleb_of}
use Rattle.dw_leb.specs.ReadNumber.{read_sleb}
use Rattle.dw_leb.specs.DecideNumber.{sleb_decides}
use Rattle.dw_leb.specs.Field.{outcome_by}
use Rattle.dw_feed.proofs.value.signed.Goals as goal

pub returns-clause-exact : goal.returns-clause-exact
returns-clause-exact c = outcome_by sleb read_sleb sleb_decides c.args.b.now c.args.lim sleb_of (λ x. x.width) c.read.result c.read.ensures.found c.read.ensures.broken
