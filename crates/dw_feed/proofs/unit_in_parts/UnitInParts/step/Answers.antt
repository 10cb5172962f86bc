use Rattle.dw_feed.specs.FieldSteps.{waits_fronts}
use Rattle.dw_feed.proofs.unit_in_parts.UnitInParts.step.Goals as goal

pub code-requires-clause-waits : goal.code-requires-clause-waits
code-requires-clause-waits c = waits_fronts c.args.self.now c.requires.waits
