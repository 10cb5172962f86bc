use Rattle.std.proofs.Common.{◌≡◌, Some, drop, sym, ◌∙◌}
use Rattle.dw_form.specs.Form.{shape}
use Rattle.dw_tree.specs.WholeHeads.{sized_ends}
use Rattle.dw_tree.proofs.write.sized_end.Goals as goal

pub returns-clause-whole : goal.returns-clause-whole
returns-clause-whole c =
    let a = c.args in
    let known : shape a.form a.ctx.address_size a.ctx.format ≡ Some c.in_ok-shape.shape = sym c.of.ensures.shape ∙ c.in_ok-shape.was in
    sized_ends a.ctx a.form (drop a.size a.run.now) a.size c.told_end.result (rw known c.told_end.ensures.sized)
