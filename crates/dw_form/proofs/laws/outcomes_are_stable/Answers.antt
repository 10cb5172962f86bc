use Rattle.dw_form.specs.DecideForm.{attribute_stays}
use Rattle.dw_form.proofs.laws.outcomes_are_stable.Goals as goal

pub returns : goal.returns
returns c = attribute_stays
