use Rattle.std.proofs.Common.{codes, List, ℕ}
use Rattle.dw_tool.proofs.Appending.{puts_after, puts_stopped, stopped_after}
use Rattle.dw_tool.proofs.text.push_block.Goals as goal

abbrev close : List ℕ
close = codes "]"

pub returns-in_err-append : goal.returns-in_err-append
returns-in_err-append g c =
    puts_stopped _ c.from_residual.ensures.1 c.in_err-append.ensures

pub returns-in_err-push_decimal : goal.returns-in_err-push_decimal
returns-in_err-push_decimal g c =
    let r = c.from_residual-in_err-push_decimal in
    stopped_after _ r.ensures.1 c.in_ok-append.ensures c.in_err-push_decimal.ensures

pub returns-in_err-append-2 : goal.returns-in_err-append-2
returns-in_err-append-2 g c =
    puts_after c.in_ok-append.ensures
    (stopped_after _ c.from_residual-in_err-append-2.ensures.1 c.in_ok-push_decimal.ensures c.in_err-append-2.ensures)

pub returns : goal.returns
returns g c =
    puts_after c.in_ok-append.ensures
    (puts_after c.in_ok-push_decimal.ensures
    (puts_after c.in_ok-append-2.ensures c.push_spaced_digits.ensures))
