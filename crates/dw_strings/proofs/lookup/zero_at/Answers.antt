use Rattle.dw_strings.proofs.Zero.{first_zero}
use Rattle.dw_strings.proofs.lookup.zero_at.Goals as goal

pub returns-clause-exact : goal.returns-clause-exact
returns-clause-exact c = first_zero c.args.bytes.now c.find_byte.result c.find_byte.ensures
