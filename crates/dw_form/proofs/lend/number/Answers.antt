use Rattle.dw_leb.specs.Number.{fixed}
use Rattle.dw_leb.specs.ReadNumber.{read_fixed as fixed_reader}
use Rattle.dw_leb.specs.Digits.{fixed_decides}
use Rattle.dw_leb.specs.Field.{outcome_by}
use Rattle.dw_form.proofs.lend.number.Goals as goal

pub returns-clause-exact : goal.returns-clause-exact
returns-clause-exact c =
    outcome_by (fixed c.args.order c.args.n) (fixed_reader c.args.order c.args.n) (fixed_decides c.args.order c.args.n) c.args.b.now c.args.lim (λ x. x) (λ _. c.args.n) c.read_fixed.result c.read_fixed.ensures.found c.read_fixed.ensures.broken
