use Rattle.dw_tool.proofs.Appending.{puts_after, puts_stopped}
use Rattle.dw_tool.proofs.find.push_found_line.Goals as goal

pub returns-in_err-push_hexadecimal : goal.returns-in_err-push_hexadecimal
returns-in_err-push_hexadecimal g c =
    puts_stopped _ c.from_residual.ensures.1 (rw c.offset.ensures at c.in_err-push_hexadecimal.ensures)

pub returns-in_err-push_tag : goal.returns-in_err-push_tag
returns-in_err-push_tag g c =
    puts_after (rw c.offset.ensures at c.in_ok-push_hexadecimal.ensures)
    (puts_stopped _ c.from_residual-in_err-push_tag.ensures.1 (rw c.tag.ensures at c.in_err-push_tag.ensures))

pub returns : goal.returns
returns g c =
    puts_after (rw c.offset.ensures at c.in_ok-push_hexadecimal.ensures)
    (puts_after (rw c.tag.ensures at c.in_ok-push_tag.ensures) c.append.ensures)
