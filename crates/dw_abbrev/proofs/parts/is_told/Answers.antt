use Rattle.dw_abbrev.proofs.LowForms.{told_there}
use Rattle.dw_abbrev.proofs.parts.is_told.Goals as goal

pub returns : goal.returns
returns c = told_there c.args.form c.requires
