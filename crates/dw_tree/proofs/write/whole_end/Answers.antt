use Rattle.std.proofs.Common.{◌≡◌, Some, true, drop, ap, sym, ◌∙◌}
use Rattle.dw_form.specs.declared.shape.Shape.{Shape}
use Rattle.dw_form.specs.Form.{shape}
use Rattle.dw_tree.specs.WholeHeads.{is_leb, number_ends, number_ends_still, sized_ends, sized_ends_still}
use Rattle.dw_tree.proofs.write.whole_end.Goals as goal

pub returns-in-Uleb-clause-whole : goal.returns-in-Uleb-clause-whole
returns-in-Uleb-clause-whole c =
    let a = c.args in
    let known : shape a.form a.ctx.address_size a.ctx.format ≡ Some c.in_ok-shape.shape = sym c.of.ensures.shape ∙ c.in_ok-shape.was in
    let leb : is_leb (shape a.form a.ctx.address_size a.ctx.format) ≡ true = ap is_leb known ∙ ap (λ (s : Shape). is_leb (Some s)) c.in-Uleb.is in
    number_ends a.ctx a.form (drop a.size a.run.now) a.size c.number_end.result leb c.number_end.ensures.behind c.number_end.ensures.found

pub returns-in-Sleb-clause-whole : goal.returns-in-Sleb-clause-whole
returns-in-Sleb-clause-whole c =
    let a = c.args in
    let known : shape a.form a.ctx.address_size a.ctx.format ≡ Some c.in_ok-shape.shape = sym c.of.ensures.shape ∙ c.in_ok-shape.was in
    let leb : is_leb (shape a.form a.ctx.address_size a.ctx.format) ≡ true = ap is_leb known ∙ ap (λ (s : Shape). is_leb (Some s)) c.in-Sleb.is in
    number_ends a.ctx a.form (drop a.size a.run.now) a.size c.number_end-in-Sleb.result leb c.number_end-in-Sleb.ensures.behind c.number_end-in-Sleb.ensures.found

pub returns-in-Uleb-clause-beyond : goal.returns-in-Uleb-clause-beyond
returns-in-Uleb-clause-beyond c =
    let a = c.args in
    let known : shape a.form a.ctx.address_size a.ctx.format ≡ Some c.in_ok-shape.shape = sym c.of.ensures.shape ∙ c.in_ok-shape.was in
    let leb : is_leb (shape a.form a.ctx.address_size a.ctx.format) ≡ true = ap is_leb known ∙ ap (λ (s : Shape). is_leb (Some s)) c.in-Uleb.is in
    number_ends_still a.ctx a.form (drop a.size a.run.now) a.size c.number_end.result leb c.number_end.ensures.behind c.number_end.ensures.found

pub returns-in-Sleb-clause-beyond : goal.returns-in-Sleb-clause-beyond
returns-in-Sleb-clause-beyond c =
    let a = c.args in
    let known : shape a.form a.ctx.address_size a.ctx.format ≡ Some c.in_ok-shape.shape = sym c.of.ensures.shape ∙ c.in_ok-shape.was in
    let leb : is_leb (shape a.form a.ctx.address_size a.ctx.format) ≡ true = ap is_leb known ∙ ap (λ (s : Shape). is_leb (Some s)) c.in-Sleb.is in
    number_ends_still a.ctx a.form (drop a.size a.run.now) a.size c.number_end-in-Sleb.result leb c.number_end-in-Sleb.ensures.behind c.number_end-in-Sleb.ensures.found

pub returns-in_default : goal.returns-in_default
returns-in_default c =
    let a = c.args in
    let known : shape a.form a.ctx.address_size a.ctx.format ≡ Some c.in_ok-shape.shape = sym c.of.ensures.shape ∙ c.in_ok-shape.was in
    record {
      whole = sized_ends a.ctx a.form (drop a.size a.run.now) a.size c.told_end.result (rw known c.told_end.ensures.sized);
      beyond = sized_ends_still a.ctx a.form (drop a.size a.run.now) a.size c.told_end.result (rw known c.told_end.ensures.sized);
      behind = c.told_end.ensures.behind;
      room = c.told_end.ensures.room;
    }
