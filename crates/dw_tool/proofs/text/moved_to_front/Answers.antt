use Rattle.dw_tool.proofs.Digits.{shifted_digits}
use Rattle.dw_tool.proofs.text.moved_to_front.Goals as goal

pub returns-clause-digits : goal.returns-clause-digits
returns-clause-digits c =
    let count = c.digit_count-count.ensures in
    shifted_digits c.digit_count-count.result c.args.number count.some count.few count.within count.all
