use Rattle.std.specs.Prelude.{Ok}
use Rattle.dw_leb.specs.Number.{fixed}
use Rattle.dw_leb.specs.ReadNumber.{read_fixed as fixed_reader}
use Rattle.dw_leb.specs.Digits.{fixed_decides}
use Rattle.dw_leb.specs.Field.{outcome_by}
use Rattle.dw_section.proofs.kind.number.Goals as goal

pub returns-in-Ok-clause-exact : goal.returns-in-Ok-clause-exact
returns-in-Ok-clause-exact c =
    outcome_by (fixed c.args.order c.args.n) (fixed_reader c.args.order c.args.n) (fixed_decides c.args.order c.args.n) c.args.b.now c.args.lim (λ x. x) (λ _. c.args.n) (Ok c.in-Ok.x) c.in-Ok.ensures.found tt

pub returns-in-Err-clause-exact : goal.returns-in-Err-clause-exact
returns-in-Err-clause-exact c =
    rw c.here.ensures ((fixed_decides c.args.order c.args.n).faults c.args.b.now c.args.lim 0 c.in-Err.reason c.in-Err.ensures.broken)
