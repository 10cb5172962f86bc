use Rattle.dw_leb.specs.Digits.{Short_stays}
use Rattle.dw_leb.specs.DecideNumber.{uleb_stays, sleb_stays, initial_length_stays}
use Rattle.dw_leb.proofs.laws.outcomes_are_stable.Goals as goal

pub returns-clause-fixed_numbers : goal.returns-clause-fixed_numbers
returns-clause-fixed_numbers c = λ order n. Short_stays n

pub returns-clause-unsigned_numbers : goal.returns-clause-unsigned_numbers
returns-clause-unsigned_numbers c = uleb_stays

pub returns-clause-signed_numbers : goal.returns-clause-signed_numbers
returns-clause-signed_numbers c = sleb_stays

pub returns-clause-lengths : goal.returns-clause-lengths
returns-clause-lengths c = initial_length_stays
