use Rattle.dw_abbrev.proofs.LowForms.{bytes_there, bytes_few}
use Rattle.dw_abbrev.proofs.parts.bytes_of.Goals as goal

pub returns-clause-bytes : goal.returns-clause-bytes
returns-clause-bytes c = bytes_there c.args.form c.requires

pub returns-clause-few : goal.returns-clause-few
returns-clause-few c = bytes_few c.args.form c.requires
