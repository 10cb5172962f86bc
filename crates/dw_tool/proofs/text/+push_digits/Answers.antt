use Rattle.std.proofs.Common.{◌∷◌, List, ℕ, subst, sym, arith}
use Rattle.dw_tool.specs.Output.{Puts}
use Rattle.dw_tool.proofs.Appending.{puts_after, puts_stopped}
use Rattle.dw_tool.proofs.Digits.{hexadecimal_behind}
use Rattle.dw_tool.proofs.text.+push_digits.Goals as goal

pub returns-in_err-push_digits : goal.returns-in_err-push_digits
returns-in_err-push_digits g t c =
    let r = c.from_residual.result in
    let n = c.args.number in
    subst (λ (text : List ℕ). Puts g.W.Write.contents c.args.out.now c.push_digits.new.out (48 ∷ 120 ∷ text) r) (sym (hexadecimal_behind n (omega (arith, c.if-number-lt4294967296.false)) (omega (arith, c.ranges.number.fits))))
    (puts_stopped _ c.from_residual.ensures.1 c.in_err-push_digits.ensures)

pub returns : goal.returns
returns g t c =
    let r = c.push_four_digits.result in
    let n = c.args.number in
    subst (λ (text : List ℕ). Puts g.W.Write.contents c.args.out.now c.push_four_digits.new.out (48 ∷ 120 ∷ text) r) (sym (hexadecimal_behind n (omega (arith, c.if-number-lt4294967296.false)) (omega (arith, c.ranges.number.fits))))
    (puts_after c.in_ok-push_digits.ensures c.push_four_digits.ensures)
