use Rattle.std.proofs.Common.{arith}
use Rattle.dw_leb.specs.Field.{are_bytes}
use Rattle.dw_section.proofs.KindLemmas.{kind_found, kind_broken}
use Rattle.dw_section.proofs.kind.shows_known.Goals as goal

pub returns-in-Ok-clause-found : goal.returns-in-Ok-clause-found
returns-in-Ok-clause-found c =
    kind_found c.args.versions c.args.order c.args.n c.args.b.now (are_bytes c.args.b.now (λ k. omega (arith, c.type_inv.b k))) c.in-Ok.known c.in-Ok.field-0-1 c.in-Ok.ensures.exact

pub returns-in-Err-clause-broken : goal.returns-in-Err-clause-broken
returns-in-Err-clause-broken c =
    kind_broken c.args.versions c.args.order c.args.n c.args.b.now (are_bytes c.args.b.now (λ k. omega (arith, c.type_inv.b k))) c.in-Err.e.offset c.in-Err.e.reason c.in-Err.ensures.exact
