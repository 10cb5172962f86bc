use Rattle.std.proofs.Common.{ap}
use Rattle.dw_leb.specs.Number.{Unsigned}
use Rattle.dw_abbrev.proofs.BuildLemmas.{table_ended}
use Rattle.dw_abbrev.proofs.builder.TableBuilder.finish.Goals as goal

pub of-requires-clause-fits : goal.of-requires-clause-fits
of-requires-clause-fits c = table_ended c.self.inside.decls c.in-Ok.last_zero (ap (λ (u : Unsigned). u.value) c.in-Ok.ensures.zero) c.self.invariant
