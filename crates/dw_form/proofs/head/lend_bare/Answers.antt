use Rattle.std.proofs.Common.{◌≡◌, ◌∙◌, Some, ap, option_map, refl, sym}
use Rattle.dw_leb.specs.View.{sleb_of}
use Rattle.dw_form.specs.declared.shape.Shape.{Shape}
use Rattle.dw_form.specs.declared.shape.Shape.TheVariants as shapes
use Rattle.dw_form.specs.Form.{Present, Implicit, shape}
use Rattle.dw_form.specs.Head.{spelled_at}
use Rattle.dw_form.proofs.PlainHead.{plain_there}
use Rattle.dw_form.proofs.head.lend_bare.Goals as goal

pub returns-in-Present-clause-found : goal.returns-in-Present-clause-found
returns-in-Present-clause-found c = λ heads pool.
    let k = c.args.ctx in
    let is : shape c.args.form k.address_size k.format ≡ Some shapes.Present = sym c.of.ensures.shape ∙ (c.in_ok-of.was ∙ ap (λ (s : Shape). Some s) c.in-Present.is) in
    plain_there k c.args.form (option_map sleb_of c.args.implicit) heads pool shapes.Present Present 0 is (λ e. cc) refl refl

pub returns-in-Some-clause-found : goal.returns-in-Some-clause-found
returns-in-Some-clause-found c = λ heads pool.
    let k = c.args.ctx in
    let is : shape c.args.form k.address_size k.format ≡ Some shapes.Implicit = sym c.of.ensures.shape ∙ (c.in_ok-of.was ∙ ap (λ (s : Shape). Some s) c.in-Implicit.is) in
    plain_there k c.args.form (option_map sleb_of c.args.implicit) heads pool shapes.Implicit (Implicit (sleb_of c.in-Some.constant)) 0 is (λ e. cc) refl
    (ap (λ o. spelled_at k (option_map sleb_of o) shapes.Implicit heads) c.in-Some.is)
