use Rattle.dw_tool.proofs.Appending.{puts_after, puts_stopped}
use Rattle.dw_tool.proofs.text.push_great_depth.Goals as goal

pub returns-in_err-push_labelled_decimal : goal.returns-in_err-push_labelled_decimal
returns-in_err-push_labelled_decimal g c =
    puts_stopped _ c.from_residual.ensures.1 c.in_err-push_labelled_decimal.ensures

pub returns : goal.returns
returns g c =
    puts_after c.in_ok-push_labelled_decimal.ensures c.append.ensures
