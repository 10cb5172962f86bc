use Rattle.std.proofs.Common.{ap, ◌∙◌, arith, List, ℕ}
use Rattle.std.specs.Prelude.{option_map}
use Rattle.dw_leb.specs.View.{sleb_of}
use Rattle.dw_form.specs.Head.{head_at}
use Rattle.dw_form.specs.HeadLent.{head_there}
use Rattle.dw_form.proofs.Found.{lent_is}
use Rattle.dw_form.proofs.head.lend_head.Goals as goal

pub returns-clause-put : goal.returns-clause-put
returns-clause-put c a start rest fits lies e =
    let constant = option_map sleb_of c.args.implicit in
    lent_is c.at_front.result a _
    (c.at_front.ensures.exact
    ∙ (ap (λ (b : List ℕ). head_at c.args.ctx c.args.form constant b c.args.pool.now) e
    ∙ head_there c.args.ctx c.args.form constant a start rest c.args.pool.now lies (omega (arith, c.size-bounded.ensures.small)) fits))
