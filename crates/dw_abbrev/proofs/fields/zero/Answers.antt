use Rattle.std.proofs.Common.{refl}
use Rattle.dw_abbrev.proofs.BuildLemmas.{no_zero}
use Rattle.dw_abbrev.proofs.fields.zero.Goals as goal

pub returns-in-None-clause-refused : goal.returns-in-None-clause-refused
returns-in-None-clause-refused c = rw (no_zero c.args.width c.in-None.ensures.some.1) refl
