use Rattle.std.specs.Prelude.{option_map, ◌==◌}
use Rattle.dw_leb.specs.View.{sleb_of}
use Rattle.dw_form.specs.ReadForm.{read_attribute, read_by_indirection}
use Rattle.dw_form.specs.Lent.{attribute_of, lends_front}
use Rattle.dw_form.proofs.lend.value_at.Goals as goal

pub returns-clause-exact : goal.returns-clause-exact
unfolding read_attribute
returns-clause-exact c = lends_front attribute_of c.by_form.result (read_by_indirection c.args.ctx (option_map sleb_of c.args.implicit) c.args.form (c.args.form == 0x16) c.args.b.now c.args.lim) c.by_form.ensures.exact
