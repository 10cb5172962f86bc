use Rattle.dw_form.specs.Form.{attribute}
use Rattle.dw_form.specs.ReadForm.{read_attribute}
use Rattle.dw_form.specs.DecideForm.{attribute_decides}
use Rattle.dw_form.specs.Lent.{attribute_of}
use Rattle.dw_abbrev.specs.PairView.{pair_of}
use Rattle.dw_abbrev.specs.Table.{Pair}
use Rattle.dw_feed.proofs.ValueRoom.{lent_by}
use Rattle.dw_feed.proofs.value.value_at.Goals as goal

pub returns-clause-exact : goal.returns-clause-exact
returns-clause-exact c =
    let p : Pair = pair_of c.args.pair.now in
    lent_by (attribute c.args.context p.form.value p.constant) (read_attribute c.args.context p.form.value p.constant) (attribute_decides c.args.context p.form.value p.constant) c.args.b.now c.args.lim attribute_of c.lend_value.result
    c.lend_value.ensures.found c.lend_value.ensures.broken
