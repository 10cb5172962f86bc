use Rattle.dw_leb.specs.View.{uleb_of}
use Rattle.std.proofs.Common.{◌∙◌, sym}
use Rattle.std.proofs.lemmas.Result.{err_from_is_err_and}
use Rattle.dw_abbrev.proofs.PairLemmas.{form_fails, names_refused, names_pass}
use Rattle.dw_abbrev.proofs.pair.names_at.Goals as goal

pub returns-in_err-form-clause-err : goal.returns-in_err-form-clause-err
returns-in_err-form-clause-err c =
    let p = err_from_is_err_and c.from_residual-in_err-form.result c.from_residual-in_err-form.ensures.1 in
    rw (p.1, p.2) (form_fails c.args.abbreviations.now c.args.at c.args.before (uleb_of c.in_ok-name.name) c.in_ok-name.form_at c.in_ok-name.ensures.ok _ c.in_err-form.ensures.err)

pub returns-in-Some-clause-err : goal.returns-in-Some-clause-err
returns-in-Some-clause-err c =
    rw c.fault.ensures (names_refused c.args.abbreviations.now c.args.at c.args.before (uleb_of c.in_ok-name.name) (uleb_of c.in_ok-form.form) c.in_ok-name.form_at c.in_ok-form.next c.in_ok-name.ensures.ok c.in_ok-form.ensures.ok c.in-Some.reason (sym c.refusal.ensures ∙ c.in-Some.is))

pub returns-in-None-clause-ok : goal.returns-in-None-clause-ok
returns-in-None-clause-ok c =
    names_pass c.args.abbreviations.now c.args.at c.args.before (uleb_of c.in_ok-name.name) (uleb_of c.in_ok-form.form) c.in_ok-name.form_at c.in_ok-form.next c.in_ok-name.ensures.ok c.in_ok-form.ensures.ok (sym c.refusal.ensures ∙ c.in-None.is)
