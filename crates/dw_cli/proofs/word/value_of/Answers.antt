use Rattle.std.proofs.Common.{ap, Some}
use Rattle.dw_cli.specs.Words.{number_of}
use Rattle.dw_cli.proofs.Numbers.{back, negated, signed}
use Rattle.dw_cli.proofs.word.value_of.Goals as goal

pub returns-then-minus : goal.returns-then-minus
returns-then-minus c =
    let n = c.in_ok-number.field-0 in
    let is = signed n c.in_ok-value.value (number_of c.args.word.now) c.try_from.result c.in_ok-number.ensures c.try_from.ensures c.in_ok-value.ensures.value in
    record { exact = rw (c.if-minus.true, is.2, is.0) (ap Some (negated n is.1)) }

pub returns-else-minus : goal.returns-else-minus
returns-else-minus c =
    let n = c.in_ok-number.field-0 in
    let is = signed n c.in_ok-value.value (number_of c.args.word.now) c.try_from.result c.in_ok-number.ensures c.try_from.ensures c.in_ok-value.ensures.value in
    record { exact = rw (c.if-minus.false, is.2, is.0) (ap Some (back n is.1)) }
