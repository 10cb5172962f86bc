use Rattle.dw_tool.proofs.Named.{attribute_long, attribute_short}
use Rattle.dw_tool.proofs.names.attribute_label.Goals as goal

pub returns-clause-long : goal.returns-clause-long
returns-clause-long c = attribute_long c.padded_attribute.result c.args.attribute c.padded_attribute.ensures

pub returns-clause-short : goal.returns-clause-short
returns-clause-short c = attribute_short c.padded_attribute.result c.args.attribute c.padded_attribute.ensures
