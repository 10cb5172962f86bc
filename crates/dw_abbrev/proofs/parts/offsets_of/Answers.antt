use Rattle.dw_abbrev.proofs.LowForms.{offsets_there}
use Rattle.dw_abbrev.proofs.parts.offsets_of.Goals as goal

pub returns-clause-offsets : goal.returns-clause-offsets
returns-clause-offsets c = offsets_there c.args.form c.requires
