use Rattle.dw_tool.proofs.Appending.{puts_after, puts_stopped}
use Rattle.dw_tool.proofs.show.push_other.Goals as goal

pub returns-in_err-push_labelled : goal.returns-in_err-push_labelled
returns-in_err-push_labelled g c =
    puts_stopped _ c.from_residual.ensures.1 c.in_err-push_labelled.ensures

pub returns-in_err-push_labelled_decimal : goal.returns-in_err-push_labelled_decimal
returns-in_err-push_labelled_decimal g c =
    puts_after c.in_ok-push_labelled.ensures
    (puts_stopped _ c.from_residual-in_err-push_labelled_decimal.ensures.1 c.in_err-push_labelled_decimal.ensures)

pub returns : goal.returns
returns g c =
    puts_after c.in_ok-push_labelled.ensures
    (puts_after c.in_ok-push_labelled_decimal.ensures c.append.ensures)
