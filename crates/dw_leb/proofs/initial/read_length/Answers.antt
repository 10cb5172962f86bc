use Rattle.std.proofs.Common.{◌∙◌, sym, arith}
use Rattle.dw_leb.specs.Number.{initial_length, length_limit, length_size}
use Rattle.dw_leb.specs.ReadNumber.{read_length as length_reader}
use Rattle.dw_leb.specs.DecideNumber.{initial_length_decides, initial-size, initial_length_field}
use Rattle.dw_leb.specs.Field.{are_bytes, found_by, broken_by, only_by}
use Rattle.dw_leb.proofs.FixedLemmas.{length_read}
use Rattle.dw_leb.proofs.initial.read_length.Goals as goal

pub returns-clause-found : goal.returns-clause-found
returns-clause-found c =
    let fit = are_bytes c.args.b.now (λ k. omega (arith, c.type_inv.b k)) in
    let same = c.scan.ensures.exact ∙ sym (length_read c.args.order c.args.start c.args.b.now fit) in
    found_by (initial_length c.args.order c.args.start) (length_reader c.args.order c.args.start) (initial_length_decides c.args.order c.args.start) c.args.b.now length_limit (λ x. length_size x.0) (λ x fits. initial-size c.args.order c.args.start x.0 x.1) fit c.scan.result same

pub returns-clause-only : goal.returns-clause-only
returns-clause-only c format n h =
    let fit = are_bytes c.args.b.now (λ k. omega (arith, c.type_inv.b k)) in
    let same = c.scan.ensures.exact ∙ sym (length_read c.args.order c.args.start c.args.b.now fit) in
    only_by (initial_length c.args.order c.args.start) (length_reader c.args.order c.args.start) (initial_length_decides c.args.order c.args.start) c.args.b.now length_limit c.scan.result same (format, n) (length_size format) h

pub returns-clause-broken : goal.returns-clause-broken
returns-clause-broken c =
    let fit = are_bytes c.args.b.now (λ k. omega (arith, c.type_inv.b k)) in
    let same = c.scan.ensures.exact ∙ sym (length_read c.args.order c.args.start c.args.b.now fit) in
    broken_by (initial_length c.args.order c.args.start) (length_reader c.args.order c.args.start) (initial_length_decides c.args.order c.args.start) c.args.b.now length_limit (initial_length_field c.args.order c.args.start) fit c.scan.result same
