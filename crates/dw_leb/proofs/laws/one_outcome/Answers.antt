use Rattle.dw_leb.specs.Laws.{one_answer}
use Rattle.dw_leb.specs.Digits.{fixed_decides}
use Rattle.dw_leb.specs.DecideNumber.{uleb_decides, sleb_decides, initial_length_decides}
use Rattle.dw_leb.proofs.laws.one_outcome.Goals as goal

pub returns-clause-fixed_numbers : goal.returns-clause-fixed_numbers
returns-clause-fixed_numbers c = λ order n. one_answer _ _ (fixed_decides order n)

pub returns-clause-unsigned_numbers : goal.returns-clause-unsigned_numbers
returns-clause-unsigned_numbers c = one_answer _ _ uleb_decides

pub returns-clause-signed_numbers : goal.returns-clause-signed_numbers
returns-clause-signed_numbers c = one_answer _ _ sleb_decides

pub returns-clause-lengths : goal.returns-clause-lengths
returns-clause-lengths c = λ order start. one_answer _ _ (initial_length_decides order start)
