use Rattle.std.proofs.Common.{arith}
use Rattle.dw_leb.proofs.GroupLemmas.{place_shifted, place_small}
use Rattle.dw_leb.proofs.groups.place.Goals as goal

pub returns-clause-value : goal.returns-clause-value
returns-clause-value c = place_shifted c.args.width c.requires

pub returns-clause-small : goal.returns-clause-small
returns-clause-small c = omega (arith, place_shifted c.args.width c.requires, place_small c.args.width c.requires)
