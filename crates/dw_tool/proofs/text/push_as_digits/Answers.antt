use Rattle.dw_tool.proofs.Appending.{puts_after, puts_stopped}
use Rattle.dw_tool.proofs.text.push_as_digits.Goals as goal

pub returns-in_err-append : goal.returns-in_err-append
returns-in_err-append g c = puts_stopped _ c.from_residual.ensures.1 c.in_err-append.ensures

pub returns : goal.returns
returns g c = puts_after c.in_ok-append.ensures c.push_two_digits.ensures
