use Rattle.std.proofs.Common.{◌≡◌, ◌/◌, ◌%◌, ◌^◌, ◌++◌, List, ℕ, arith, refl, subst}
use Rattle.dw_tool.specs.Output.{Puts}
use Rattle.dw_tool.specs.Text.{four_digits, two_digits}
use Rattle.dw_tool.proofs.text.push_four_digits.Goals as goal

pub returns : goal.returns
returns g c =
    let n = c.args.number in
    let d1 : n / 256 / 16 ≡ n / 16 ^ 3 % 16 = omega (arith, c.ranges.number.fits) in
    let d2 : n / 256 % 16 ≡ n / 16 ^ 2 % 16 = omega (arith, c.ranges.number.fits) in
    let d3 : n % 256 / 16 ≡ n / 16 % 16 = omega (arith, c.ranges.number.fits) in
    let d4 : n % 256 % 16 ≡ n % 16 = omega (arith, c.ranges.number.fits) in
    let same : two_digits (n / 256) ++ two_digits (n % 256) ≡ four_digits n = rw (d1, d2, d3, d4) refl in
    subst (λ (t : List ℕ). Puts g.W.Write.contents c.args.out.now c.append.new.self t c.append.result) same
    (rw (c.digits_of-first.ensures, c.digits_of-second.ensures) at c.append.ensures)
