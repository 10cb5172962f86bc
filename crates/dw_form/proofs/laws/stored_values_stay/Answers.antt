use Rattle.dw_form.specs.StoredView.{content_stays, stored_fits}
use Rattle.dw_form.proofs.laws.stored_values_stay.Goals as goal

pub returns-clause-fits : goal.returns-clause-fits
returns-clause-fits c = stored_fits

pub returns-clause-content : goal.returns-clause-content
returns-clause-content c = content_stays
