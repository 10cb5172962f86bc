use Rattle.std.proofs.Common.{◌∙◌}
use Rattle.dw_form.specs.Lent.{attribute_of}
use Rattle.dw_form.specs.NamedForms.{spelled_names}
use Rattle.dw_form.proofs.read.read_value.Goals as goal

pub keep-requires : goal.keep-requires
keep-requires c = spelled_names c.args.ctx c.args.form (attribute_of c.in_ok-value.value) c.in_ok-value.ensures.spelled

pub returns-in_err-value-clause-only : goal.returns-in_err-value-clause-only
returns-in_err-value-clause-only c x size h = absurd (c.in_err-value.ensures.only x size h)

pub returns-clause-only : goal.returns-clause-only
returns-clause-only c x size h =
    let same = c.in_ok-value.ensures.only x size h in
    (c.in_ok-stored.ensures.content ∙ same.0, same.1)
