use Rattle.dw_abbrev.proofs.LowForms.{addresses_there}
use Rattle.dw_abbrev.proofs.parts.addresses_of.Goals as goal

pub returns-clause-addresses : goal.returns-clause-addresses
returns-clause-addresses c = addresses_there c.args.form c.requires
