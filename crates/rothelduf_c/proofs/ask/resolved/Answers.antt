use Rattle.std.proofs.Common.{ℕ, ap, ◌∙◌}
use Rattle.dw_form.specs.Form.{Value}
use Rattle.dw_form.specs.Lent.{attribute_of}
use Rattle.dw_section.specs.Reference.{named}
use Rattle.rothelduf_c.proofs.ask.resolved.Goals as goal

pub returns : goal.returns
returns c = λ u known.
    let items = c.args.section.now.items in let item = c.args.item in
    c.resolve.ensures.named u known
    ∙ (ap (λ (form : ℕ). named items item u form (attribute_of c.number_of.result.attr).value) c.number_of.ensures.form
    ∙ ap (λ (value : Value). named items item u c.args.form value) c.number_of.ensures.value)
