use Rattle.std.proofs.Common.{arith}
use Rattle.dw_leb.specs.Number.{fixed}
use Rattle.dw_leb.specs.ReadNumber.{read_fixed as fixed_reader}
use Rattle.dw_leb.specs.Digits.{fixed_decides, length-fixed}
use Rattle.dw_leb.specs.DecideNumber.{fixed_field}
use Rattle.dw_leb.specs.Field.{are_bytes, found_by, broken_by, only_by}
use Rattle.dw_leb.proofs.fixed.read_fixed.Goals as goal

pub returns-clause-found : goal.returns-clause-found
returns-clause-found c = found_by (fixed c.args.order c.args.n) (fixed_reader c.args.order c.args.n) (fixed_decides c.args.order c.args.n) c.args.b.now c.args.lim (λ _. c.args.n) (λ x fits. length-fixed c.args.order c.args.n x) (are_bytes c.args.b.now (λ k. omega (arith, c.type_inv.b k))) c.number_at.result c.number_at.ensures.exact

pub returns-clause-only : goal.returns-clause-only
returns-clause-only c x h = only_by (fixed c.args.order c.args.n) (fixed_reader c.args.order c.args.n) (fixed_decides c.args.order c.args.n) c.args.b.now c.args.lim c.number_at.result c.number_at.ensures.exact x c.args.n h

pub returns-clause-broken : goal.returns-clause-broken
returns-clause-broken c = broken_by (fixed c.args.order c.args.n) (fixed_reader c.args.order c.args.n) (fixed_decides c.args.order c.args.n) c.args.b.now c.args.lim (fixed_field c.args.order c.args.n) (are_bytes c.args.b.now (λ k. omega (arith, c.type_inv.b k))) c.number_at.result c.number_at.ensures.exact
