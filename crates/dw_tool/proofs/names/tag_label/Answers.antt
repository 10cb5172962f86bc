use Rattle.dw_tool.proofs.Named.{tag_long, tag_short}
use Rattle.dw_tool.proofs.names.tag_label.Goals as goal

pub returns-clause-long : goal.returns-clause-long
returns-clause-long c = tag_long c.padded_tag.result c.args.tag c.padded_tag.ensures

pub returns-clause-short : goal.returns-clause-short
returns-clause-short c = tag_short c.padded_tag.result c.args.tag c.padded_tag.ensures
