use Rattle.dw_feed.proofs.Zero.{first_zero}
use Rattle.dw_feed.proofs.content.zero_at.Goals as goal

pub returns-clause-zero : goal.returns-clause-zero
returns-clause-zero c = first_zero c.args.b.now c.find_byte.result c.find_byte.ensures
