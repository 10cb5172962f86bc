use Rattle.dw_tool.proofs.Appending.{puts_after, puts_stopped}
use Rattle.dw_tool.proofs.show.push_type.Goals as goal

pub returns-in_err-push_labelled : goal.returns-in_err-push_labelled
returns-in_err-push_labelled g c =
    puts_stopped _ c.from_residual.ensures.1 c.in_err-push_labelled.ensures

pub returns : goal.returns
returns g c =
    puts_after c.in_ok-push_labelled.ensures c.push_labelled-2.ensures
