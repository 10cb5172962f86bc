use Rattle.dw_leb.specs.Laws.{one_answer}
use Rattle.dw_form.specs.DecideForm.{attribute_decides}
use Rattle.dw_form.proofs.laws.one_outcome.Goals as goal

pub returns : goal.returns
returns c = λ ctx form implicit. one_answer _ _ (attribute_decides ctx form implicit)
