use Rattle.std.proofs.Common.{drop, arith, length-drop}
use Rattle.dw_leb.proofs.GroupLemmas.{number_small}
use Rattle.dw_leb.proofs.groups.number.Goals as goal

pub overflow_mul-value : goal.overflow_mul-value
overflow_mul-value c =
    let small = number_small (drop c.loop-i.i c.args.b.now) (omega (arith, length-drop c.loop-i.i c.args.b.now)) in
    omega (arith, small)

pub overflow_add-value : goal.overflow_add-value
overflow_add-value c =
    let small = number_small (drop c.loop-i.i c.args.b.now) (omega (arith, length-drop c.loop-i.i c.args.b.now)) in
    omega (arith, small)
