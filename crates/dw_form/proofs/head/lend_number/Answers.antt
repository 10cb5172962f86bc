use Rattle.dw_form.proofs.PlainHead.{number_put}
use Rattle.dw_form.proofs.head.lend_number.Goals as goal

pub returns-clause-put : goal.returns-clause-put
returns-clause-put c = number_put c.number_by_form.result c.args.ctx c.args.form c.args.heads.now c.number_by_form.ensures.found
