use Rattle.std.proofs.Common.{◌≡◌, false}
use Rattle.std.proofs.lemmas.Bool.{ne_eqb}
use Rattle.std.specs.Prelude.{option_map, ◌==◌}
use Rattle.dw_leb.specs.View.{sleb_of}
use Rattle.dw_form.specs.ReadForm.{read_formed, direct_from}
use Rattle.dw_form.specs.Lent.{value_of, attribute_of, lends_err}
use Rattle.dw_form.proofs.lend.by_form.Goals as goal

pub returns-in-Err-clause-exact : goal.returns-in-Err-clause-exact
returns-in-Err-clause-exact c =
    let direct : (c.args.form == 0x16) ≡ false = ne_eqb c.args.form 0x16 c.if-form-eq-DW_FORM_INDIRECT.false in
    rw direct (lends_err value_of attribute_of direct_from c.in-Err.reason (read_formed c.args.ctx (option_map sleb_of c.args.implicit) c.args.form c.args.b.now c.args.lim) c.in-Err.ensures.exact)
