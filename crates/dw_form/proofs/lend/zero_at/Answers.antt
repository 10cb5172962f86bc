use Rattle.dw_form.proofs.Zero.{first_zero}
use Rattle.dw_form.proofs.lend.zero_at.Goals as goal

pub returns-clause-exact : goal.returns-clause-exact
returns-clause-exact c = first_zero c.args.b.now c.find_byte.result c.find_byte.ensures
