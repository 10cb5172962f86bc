use Rattle.std.proofs.Common.{◌<◌, ◌≤◌, ◌*◌, ◌^◌, ℕ, subst}
use Rattle.dw_tool.proofs.Digits.{all_digits, within_digits}
use Rattle.dw_tool.proofs.text.digit_count.Goals as goal

pub returns-clause-within : goal.returns-clause-within
returns-clause-within c =
    within_digits c.args.number c.ilog2.result (subst (λ (m : ℕ). m < 2 * 2 ^ c.ilog2.result) c.max.ensures c.ilog2.ensures.next_power_gt)

pub returns-clause-all : goal.returns-clause-all
returns-clause-all c =
    all_digits c.args.number c.ilog2.result (subst (λ (m : ℕ). 2 ^ c.ilog2.result ≤ m) c.max.ensures c.ilog2.ensures.power_le)
