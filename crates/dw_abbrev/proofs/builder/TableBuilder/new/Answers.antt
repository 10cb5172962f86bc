use Rattle.dw_abbrev.proofs.BuildLemmas.{no_declarations}
use Rattle.dw_abbrev.proofs.builder.TableBuilder.new.Goals as goal

pub invariant_of-result : goal.invariant_of-result
invariant_of-result c = rw c.new.ensures no_declarations
