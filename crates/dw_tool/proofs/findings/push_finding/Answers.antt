use Rattle.dw_tool.proofs.Appending.{puts_after, puts_stopped}
use Rattle.dw_tool.proofs.findings.push_finding.Goals as goal

pub returns-in_err-push_hexadecimal : goal.returns-in_err-push_hexadecimal
returns-in_err-push_hexadecimal g c =
    puts_stopped _ c.from_residual.ensures.1 c.in_err-push_hexadecimal.ensures

pub returns-in_err-push_labelled_decimal : goal.returns-in_err-push_labelled_decimal
returns-in_err-push_labelled_decimal g c =
    puts_after c.in_ok-push_hexadecimal.ensures
    (puts_stopped _ c.from_residual-in_err-push_labelled_decimal.ensures.1 c.in_err-push_labelled_decimal.ensures)

pub returns-in_err-push_labelled_decimal-2 : goal.returns-in_err-push_labelled_decimal-2
returns-in_err-push_labelled_decimal-2 g c =
    puts_after c.in_ok-push_hexadecimal.ensures
    (puts_after c.in_ok-push_labelled_decimal.ensures
    (puts_stopped _ c.from_residual-in_err-push_labelled_decimal-2.ensures.1 (rw c.number.ensures at c.in_err-push_labelled_decimal-2.ensures)))

pub returns-in_err-append : goal.returns-in_err-append
returns-in_err-append g c =
    puts_after c.in_ok-push_hexadecimal.ensures
    (puts_after c.in_ok-push_labelled_decimal.ensures
    (puts_after (rw c.number.ensures at c.in_ok-push_labelled_decimal-2.ensures)
    (puts_stopped _ c.from_residual-in_err-append.ensures.1 c.in_err-append.ensures)))

pub returns-in_err-append-2 : goal.returns-in_err-append-2
returns-in_err-append-2 g c =
    puts_after c.in_ok-push_hexadecimal.ensures
    (puts_after c.in_ok-push_labelled_decimal.ensures
    (puts_after (rw c.number.ensures at c.in_ok-push_labelled_decimal-2.ensures)
    (puts_after c.in_ok-append.ensures
    (puts_stopped _ c.from_residual-in_err-append-2.ensures.1 (rw (c.as_bytes.ensures.value, c.name.ensures) at c.in_err-append-2.ensures)))))

pub returns : goal.returns
returns g c =
    puts_after c.in_ok-push_hexadecimal.ensures
    (puts_after c.in_ok-push_labelled_decimal.ensures
    (puts_after (rw c.number.ensures at c.in_ok-push_labelled_decimal-2.ensures)
    (puts_after c.in_ok-append.ensures
    (puts_after (rw (c.as_bytes.ensures.value, c.name.ensures) at c.in_ok-append-2.ensures) c.append-3.ensures))))
