use Rattle.dw_leb.specs.Number.{initial_length, length_limit, length_size}
use Rattle.dw_leb.specs.ReadNumber.{read_length as length_reader}
use Rattle.dw_leb.specs.DecideNumber.{initial_length_decides}
use Rattle.dw_leb.specs.Field.{outcome_by}
use Rattle.dw_header.proofs.head.length_at.Goals as goal

pub returns-clause-exact : goal.returns-clause-exact
returns-clause-exact c =
    outcome_by (initial_length c.args.order 0) (length_reader c.args.order 0) (initial_length_decides c.args.order 0) c.args.b.now length_limit (λ x. x) (λ x. length_size x.0) c.read_length.result c.read_length.ensures.found c.read_length.ensures.broken
