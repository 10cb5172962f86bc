use Rattle.dw_leb.specs.declared.order.Order.TheVariants.{Little}
use Rattle.dw_leb.specs.Number.{fixed}
use Rattle.dw_leb.specs.ReadNumber.{read_fixed as fixed_reader}
use Rattle.dw_leb.specs.Digits.{fixed_decides}
use Rattle.dw_leb.specs.Field.{outcome_by}
use Rattle.dw_abbrev.proofs.fields.byte.Goals as goal

pub returns-clause-exact : goal.returns-clause-exact
returns-clause-exact c =
    outcome_by (fixed Little 1) (fixed_reader Little 1) (fixed_decides Little 1) c.args.b.now c.args.lim (λ x. x) (λ _. 1) c.read_fixed.result c.read_fixed.ensures.found c.read_fixed.ensures.broken
