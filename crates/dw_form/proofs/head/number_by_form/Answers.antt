use Rattle.std.proofs.Common.{◌≡◌, ◌∙◌, Some, None, ap, refl, rules, subst, sym}
use Rattle.dw_form.specs.declared.shape.Shape.{Shape}
use Rattle.dw_form.specs.declared.shape.Shape.TheVariants as shapes
use Rattle.dw_form.specs.Form.{IsFixedSize, Num, ShapeFits, shape}
use Rattle.dw_form.specs.Head.{number_by_head}
use Rattle.dw_form.proofs.PlainHead.{plain_there, fixed_spelled}
use Rattle.dw_form.proofs.NumberHead.{no_number, not_fixed, broken_no}
use Rattle.dw_form.proofs.head.number_by_form.Goals as goal

pub returns-in_err-n-clause-exact : goal.returns-in_err-n-clause-exact
returns-in_err-n-clause-exact h = λ c pool.
    let none : h.of.result ≡ None = h.in_err-n.was in
    let given : h.from_residual.result ≡ None = search rules in
    given ∙ no_number h.args.ctx h.args.form c h.args.heads.now pool None (sym h.of.ensures.shape ∙ none) tt

pub returns-then-n-gt8-clause-exact : goal.returns-then-n-gt8-clause-exact
returns-then-n-gt8-clause-exact h = λ c pool.
    let k = h.args.ctx in
    let is : shape h.args.form k.address_size k.format ≡ Some (shapes.Fixed h.in-Fixed.n) = sym h.of.ensures.shape ∙ (h.in_ok-n.was ∙ ap (λ (s : Shape). Some s) h.in-Fixed.is) in
    let sizes : IsFixedSize h.in-Fixed.n = subst (λ (s : Shape). ShapeFits s) h.in-Fixed.is h.in_ok-n.ensures.sizes in
    no_number k h.args.form c h.args.heads.now pool (Some (shapes.Fixed h.in-Fixed.n)) is (sizes.2 h.if-n-gt8.true)

pub returns-in-Ok-clause-found : goal.returns-in-Ok-clause-found
returns-in-Ok-clause-found h = λ c pool.
    let k = h.args.ctx in
    let is : shape h.args.form k.address_size k.format ≡ Some (shapes.Fixed h.in-Fixed.n) = sym h.of.ensures.shape ∙ (h.in_ok-n.was ∙ ap (λ (s : Shape). Some s) h.in-Fixed.is) in
    plain_there k h.args.form c h.args.heads.now pool (shapes.Fixed h.in-Fixed.n) (Num h.in-Ok.x) h.in-Fixed.n is (λ e. cc) refl
    (fixed_spelled k c h.args.heads.now h.in-Fixed.n h.in-Ok.x h.if-n-gt8.false h.in-Ok.ensures.exact)

pub returns-in-Ok-clause-exact : goal.returns-in-Ok-clause-exact
returns-in-Ok-clause-exact h = λ c pool.
    let k = h.args.ctx in
    let is : shape h.args.form k.address_size k.format ≡ Some (shapes.Fixed h.in-Fixed.n) = sym h.of.ensures.shape ∙ (h.in_ok-n.was ∙ ap (λ (s : Shape). Some s) h.in-Fixed.is) in
    ap number_by_head (sym (plain_there k h.args.form c h.args.heads.now pool (shapes.Fixed h.in-Fixed.n) (Num h.in-Ok.x) h.in-Fixed.n is (λ e. cc) refl
    (fixed_spelled k c h.args.heads.now h.in-Fixed.n h.in-Ok.x h.if-n-gt8.false h.in-Ok.ensures.exact)))

pub returns-in-Err-clause-exact : goal.returns-in-Err-clause-exact
returns-in-Err-clause-exact h = λ c pool.
    let k = h.args.ctx in
    let is : shape h.args.form k.address_size k.format ≡ Some (shapes.Fixed h.in-Fixed.n) = sym h.of.ensures.shape ∙ (h.in_ok-n.was ∙ ap (λ (s : Shape). Some s) h.in-Fixed.is) in
    broken_no k h.args.form c h.args.heads.now pool h.in-Fixed.n 0 h.in-Err.field-0 is h.in-Err.ensures.exact

pub returns-in_default : goal.returns-in_default
returns-in_default h = record {
  exact = λ c pool.
      let k = h.args.ctx in
      no_number k h.args.form c h.args.heads.now pool (Some h.in_ok-n.field-0) (sym h.of.ensures.shape ∙ h.in_ok-n.was) (not_fixed h.in_ok-n.field-0 h.in_default.not-Fixed);
  found = tt;
  room = tt;
}
