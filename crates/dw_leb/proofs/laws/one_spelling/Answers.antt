use Rattle.dw_leb.specs.PartLaws.{one_front}
use Rattle.dw_leb.specs.Digits.{fixed_decides}
use Rattle.dw_leb.specs.DecideNumber.{uleb_decides, sleb_decides, length_field_decides}
use Rattle.dw_leb.proofs.laws.one_spelling.Goals as goal

pub returns-clause-fixed_numbers : goal.returns-clause-fixed_numbers
returns-clause-fixed_numbers c = λ order n. one_front _ _ (fixed_decides order n)

pub returns-clause-unsigned_numbers : goal.returns-clause-unsigned_numbers
returns-clause-unsigned_numbers c = one_front _ _ uleb_decides

pub returns-clause-signed_numbers : goal.returns-clause-signed_numbers
returns-clause-signed_numbers c = one_front _ _ sleb_decides

pub returns-clause-lengths : goal.returns-clause-lengths
returns-clause-lengths c = λ order. one_front _ _ (length_field_decides order)
