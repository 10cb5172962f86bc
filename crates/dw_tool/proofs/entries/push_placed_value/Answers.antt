use Rattle.dw_tool.proofs.Appending.{puts_after, puts_stopped}
use Rattle.dw_tool.proofs.entries.push_placed_value.Goals as goal

pub returns-in_err-push_value : goal.returns-in_err-push_value
returns-in_err-push_value g c =
    puts_stopped _ c.from_residual.ensures.1 c.in_err-push_value.ensures

pub returns : goal.returns
returns g c =
    puts_after c.in_ok-push_value.ensures c.push_named.ensures
