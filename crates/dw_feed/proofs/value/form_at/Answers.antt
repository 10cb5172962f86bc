use Rattle.std.proofs.Common.{subst, arith}
use Rattle.std.specs.Prelude.{Result, Ok, Err, IfOk}
use Rattle.dw_leb.specs.declared.errors.Reason.{Reason}
use Rattle.dw_leb.specs.declared.unsigned.Uleb.{Uleb}
use Rattle.dw_leb.specs.Part.{Taken, judged}
use Rattle.dw_leb.specs.Number.{uleb}
use Rattle.dw_leb.specs.Reader.{outcome_of}
use Rattle.dw_leb.specs.ReadNumber.{read_uleb}
use Rattle.dw_leb.specs.View.{uleb_of}
use Rattle.dw_leb.specs.Field.{are_bytes}
use Rattle.dw_leb.specs.Decide.{Says, judged_decides}
use Rattle.dw_leb.specs.DecideNumber.{uleb_decides}
use Rattle.dw_form.specs.Form.{bad_inner}
use Rattle.dw_feed.proofs.value.form_at.Goals as goal

pub returns-clause-found : goal.returns-clause-found
returns-clause-found c =
    by c.inner_form.result
    (subst (Says (judged uleb bad_inner) c.args.b.now c.args.lim) c.inner_form.ensures.exact
    ((judged_decides uleb read_uleb bad_inner uleb_decides).says c.args.b.now c.args.lim (are_bytes c.args.b.now (λ k. omega (arith, c.type_inv.b k)))))
  where
    by : (r : Result Uleb Reason) → Says (judged uleb bad_inner) c.args.b.now c.args.lim (outcome_of uleb_of (λ x. x.width) r) → IfOk r (λ x. Taken (judged uleb bad_inner) c.args.b.now c.args.lim (uleb_of x) x.width)
    by (Ok x) h = h
    by (Err reason) h = tt
