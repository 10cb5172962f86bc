use Rattle.std.proofs.Common.{subst, arith}
use Rattle.std.specs.Prelude.{option_map}
use Rattle.dw_leb.specs.View.{sleb_of}
use Rattle.dw_leb.specs.Field.{are_bytes}
use Rattle.dw_leb.specs.Reader.{Outcome}
use Rattle.dw_leb.specs.Decide.{Says}
use Rattle.dw_form.specs.Form.{attribute, Attribute}
use Rattle.dw_form.specs.ReadForm.{read_attribute}
use Rattle.dw_form.specs.DecideForm.{attribute_decides}
use Rattle.dw_form.proofs.Spelled.{lent_spelled, lent_bytes}
use Rattle.dw_form.specs.Lent.{attribute_of, lent_found, lent_broken, lent_only}
use Rattle.dw_form.proofs.lend.lend_value.Goals as goal

pub returns-clause-found : goal.returns-clause-found
returns-clause-found c =
    let constant = option_map sleb_of c.args.implicit in
    let fit = are_bytes c.args.b.now (λ k. omega (arith, c.type_inv.b k)) in
    lent_found attribute_of (attribute c.args.ctx c.args.form constant) c.args.b.now c.args.lim c.value_at.result
    (subst (λ (o : Outcome Attribute). Says (attribute c.args.ctx c.args.form constant) c.args.b.now c.args.lim o) c.value_at.ensures.exact ((attribute_decides c.args.ctx c.args.form constant).says c.args.b.now c.args.lim fit))

pub returns-clause-broken : goal.returns-clause-broken
returns-clause-broken c =
    let constant = option_map sleb_of c.args.implicit in
    let fit = are_bytes c.args.b.now (λ k. omega (arith, c.type_inv.b k)) in
    lent_broken attribute_of (attribute c.args.ctx c.args.form constant) c.args.b.now c.args.lim c.value_at.result
    (subst (λ (o : Outcome Attribute). Says (attribute c.args.ctx c.args.form constant) c.args.b.now c.args.lim o) c.value_at.ensures.exact ((attribute_decides c.args.ctx c.args.form constant).says c.args.b.now c.args.lim fit))

pub returns-clause-only : goal.returns-clause-only
returns-clause-only c x size h =
    let constant = option_map sleb_of c.args.implicit in
    lent_only attribute_of (attribute c.args.ctx c.args.form constant) (read_attribute c.args.ctx c.args.form constant) (attribute_decides c.args.ctx c.args.form constant) c.args.b.now c.args.lim c.value_at.result c.value_at.ensures.exact x size h

pub returns-clause-spelled : goal.returns-clause-spelled
returns-clause-spelled c = lent_spelled c.args.ctx c.args.form (option_map sleb_of c.args.implicit) c.args.b.now c.args.lim c.value_at.result (returns-clause-found c)

pub returns-clause-bytes : goal.returns-clause-bytes
returns-clause-bytes c = lent_bytes c.args.ctx c.args.form (option_map sleb_of c.args.implicit) c.args.b.now c.args.lim c.value_at.result (returns-clause-found c)
