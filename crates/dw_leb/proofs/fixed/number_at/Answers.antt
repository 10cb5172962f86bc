use Rattle.std.proofs.Common.{◌∙◌, sym, arith}
use Rattle.dw_leb.specs.Number.{fixed}
use Rattle.dw_leb.specs.ReadNumber.{read_fixed as fixed_reader}
use Rattle.dw_leb.specs.Digits.{fixed_decides, length-fixed}
use Rattle.dw_leb.specs.Field.{are_bytes, found_by, small_by, word_by}
use Rattle.dw_leb.proofs.FixedLemmas.{fixed_read}
use Rattle.dw_leb.proofs.fixed.number_at.Goals as goal

pub returns-clause-exact : goal.returns-clause-exact
returns-clause-exact c = c.scan.ensures.exact ∙ sym (fixed_read c.args.order c.args.n c.args.b.now c.args.lim)

pub returns-clause-small : goal.returns-clause-small
returns-clause-small c =
    let fit = are_bytes c.args.b.now (λ k. omega (arith, c.type_inv.b k)) in
    small_by c.args.order c.args.n c.args.b.now c.args.lim c.scan.result
    (found_by (fixed c.args.order c.args.n) (fixed_reader c.args.order c.args.n) (fixed_decides c.args.order c.args.n) c.args.b.now c.args.lim (λ _. c.args.n) (λ x fits. length-fixed c.args.order c.args.n x) fit c.scan.result (returns-clause-exact c))

pub returns-clause-word : goal.returns-clause-word
returns-clause-word c = λ short. word_by c.args.n c.scan.result short (returns-clause-small c)
