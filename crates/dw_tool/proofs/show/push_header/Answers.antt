use Rattle.dw_tool.proofs.Appending.{puts_after, puts_stopped}
use Rattle.dw_tool.proofs.show.push_header.Goals as goal

pub returns-in_err-push_labelled : goal.returns-in_err-push_labelled
returns-in_err-push_labelled g c =
    puts_stopped _ c.from_residual.ensures.1 c.in_err-push_labelled.ensures

pub returns-in_err-append : goal.returns-in_err-append
returns-in_err-append g c =
    puts_after c.in_ok-push_labelled.ensures
    (puts_stopped _ c.from_residual-in_err-append.ensures.1 c.in_err-append.ensures)

pub returns-in_err-push_kind : goal.returns-in_err-push_kind
returns-in_err-push_kind g c =
    puts_after c.in_ok-push_labelled.ensures
    (puts_after c.in_ok-append.ensures
    (puts_stopped _ c.from_residual-in_err-push_kind.ensures.1 (rw c.kind.ensures at c.in_err-push_kind.ensures)))

pub returns-in_err-push_format : goal.returns-in_err-push_format
returns-in_err-push_format g c =
    puts_after c.in_ok-push_labelled.ensures
    (puts_after c.in_ok-append.ensures
    (puts_after (rw c.kind.ensures at c.in_ok-push_kind.ensures)
    (puts_stopped _ c.from_residual-in_err-push_format.ensures.1 (rw c.format.ensures at c.in_err-push_format.ensures))))

pub returns-in_err-push_sizes : goal.returns-in_err-push_sizes
returns-in_err-push_sizes g c =
    puts_after c.in_ok-push_labelled.ensures
    (puts_after c.in_ok-append.ensures
    (puts_after (rw c.kind.ensures at c.in_ok-push_kind.ensures)
    (puts_after (rw c.format.ensures at c.in_ok-push_format.ensures)
    (puts_stopped _ c.from_residual-in_err-push_sizes.ensures.1 c.in_err-push_sizes.ensures))))

pub returns-in_err-push_added : goal.returns-in_err-push_added
returns-in_err-push_added g c =
    puts_after c.in_ok-push_labelled.ensures
    (puts_after c.in_ok-append.ensures
    (puts_after (rw c.kind.ensures at c.in_ok-push_kind.ensures)
    (puts_after (rw c.format.ensures at c.in_ok-push_format.ensures)
    (puts_after c.in_ok-push_sizes.ensures
    (puts_stopped _ c.from_residual-in_err-push_added.ensures.1 (rw c.kind-2.ensures at c.in_err-push_added.ensures))))))

pub returns : goal.returns
returns g c =
    puts_after c.in_ok-push_labelled.ensures
    (puts_after c.in_ok-append.ensures
    (puts_after (rw c.kind.ensures at c.in_ok-push_kind.ensures)
    (puts_after (rw c.format.ensures at c.in_ok-push_format.ensures)
    (puts_after c.in_ok-push_sizes.ensures
    (puts_after (rw c.kind-2.ensures at c.in_ok-push_added.ensures) c.append-2.ensures)))))
