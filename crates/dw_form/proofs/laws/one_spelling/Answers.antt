use Rattle.dw_leb.specs.PartLaws.{one_front}
use Rattle.dw_form.specs.DecideForm.{attribute_decides}
use Rattle.dw_form.proofs.laws.one_spelling.Goals as goal

pub returns : goal.returns
returns c = λ ctx form implicit. one_front _ _ (attribute_decides ctx form implicit)
