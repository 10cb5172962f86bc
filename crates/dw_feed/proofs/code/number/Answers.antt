use Rattle.dw_leb.specs.Number.{uleb}
use Rattle.dw_leb.specs.View.{uleb_of}
use Rattle.dw_leb.specs.ReadNumber.{read_uleb}
use Rattle.dw_leb.specs.DecideNumber.{uleb_decides}
use Rattle.dw_leb.specs.Field.{outcome_by}
use Rattle.dw_feed.proofs.code.number.Goals as goal

pub returns-clause-exact : goal.returns-clause-exact
returns-clause-exact c = outcome_by uleb read_uleb uleb_decides c.args.b.now c.args.lim uleb_of (λ x. x.width) c.read.result c.read.ensures.found c.read.ensures.broken
