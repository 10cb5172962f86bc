use Rattle.std.proofs.Common.{codes, List, ℕ}
use Rattle.dw_tool.proofs.Appending.{puts_after, puts_stopped, stopped_after}
use Rattle.dw_tool.proofs.text.push_quoted.Goals as goal

abbrev quote : List ℕ
quote = codes "\""

pub returns-in_err-append : goal.returns-in_err-append
returns-in_err-append g c =
    puts_stopped _ c.from_residual.ensures.1 c.in_err-append.ensures

pub returns-in_err-push_each_escaped : goal.returns-in_err-push_each_escaped
returns-in_err-push_each_escaped g c =
    let r = c.from_residual-in_err-push_each_escaped in
    stopped_after _ r.ensures.1 c.in_ok-append.ensures c.in_err-push_each_escaped.ensures

pub returns : goal.returns
returns g c =
    puts_after c.in_ok-append.ensures
    (puts_after c.in_ok-push_each_escaped.ensures c.append-2.ensures)
