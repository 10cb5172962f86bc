use Rattle.std.proofs.Common.{◌∙◌, sym}
use Rattle.dw_tool.proofs.Writing.{some_wrong}
use Rattle.dw_tool.proofs.run.status_by.Goals as goal

pub returns-else-is_empty : goal.returns-else-is_empty
returns-else-is_empty c = some_wrong c.args.found.now (sym c.is_empty.ensures ∙ c.if-is_empty.false)
