use Rattle.dw_tool.proofs.Appending.{puts_after, puts_stopped}
use Rattle.dw_tool.proofs.show.push_unit.Goals as goal

pub returns-in_err-push_header : goal.returns-in_err-push_header
returns-in_err-push_header g c =
    puts_stopped _ c.from_residual.ensures.1
    (rw (c.requires.place.start_is, c.header.ensures, c.size.ensures.size) at c.in_err-push_header.ensures)

pub returns : goal.returns
returns g c =
    puts_after
    (rw (c.requires.place.start_is, c.header.ensures, c.size.ensures.size) at c.in_ok-push_header.ensures) (rw c.entries.ensures at c.push_entries.ensures)
