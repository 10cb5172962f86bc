use Rattle.std.proofs.Common.{◌∙◌}
use Rattle.dw_leb.proofs.FixedLemmas.{cells_spell}
use Rattle.dw_leb.proofs.fixed.write_fixed.Goals as goal

pub returns-clause-spelling : goal.returns-clause-spelling
returns-clause-spelling c = c.spell.ensures.spelling ∙ cells_spell c.args.order c.args.n c.args.x
