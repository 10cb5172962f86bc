use Rattle.std.proofs.Common.{◌≤◌, ◌^◌, arith, sym, ◌∙◌}
use Rattle.std.proofs.lemmas.Bool.{ltb-true}
use Rattle.std.proofs.Math.Nat.{pow-le-pow_right}
use Rattle.dw_form.proofs.renumber.in_bytes.Goals as goal

pub overflow_cast-result : goal.overflow_cast-result
overflow_cast-result c =
    let large : 9 ≤ c.args.n → ⊥ = λ h. c.if-n-eq16.false (c.requires.2 h) in
    let few : c.args.n ≤ 8 = omega (arith, large) in
    let most : 256 ^ c.args.n ≤ 256 ^ 8 = pow-le-pow_right {n = 256} (omega arith) few in
    let below = ltb-true _ _ (sym c.is_below.ensures ∙ c.if-not-is_below.false) in
    omega (arith, below, most)
