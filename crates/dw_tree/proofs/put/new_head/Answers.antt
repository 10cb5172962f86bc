use mir.Syntax.{w128}
use Rattle.std.proofs.Common.{◌≡◌, ℤ, to_z, of_z, List, ℕ, Option, Some, option_map, sym, ap, ◌∙◌}
use Rattle.dw_form.specs.Lent.{attribute_of, value_of}
use Rattle.dw_form.specs.Pieces.{constant_in, form_in, spelling, has_spelling}
use Rattle.dw_form.specs.Renumber.{renumbered, with_value}
use Rattle.dw_form.specs.Renumbered.{number_kept}
use Rattle.dw_form.specs.Form.{Value}
use Rattle.std.proofs.lemmas.Int.{to_z-of_z}
use Rattle.dw_tree.specs.Patch.{new_head}
use Rattle.dw_tree.proofs.Patches.{plain_front}
use Rattle.dw_tree.proofs.put.new_head.Goals as goal

pub value_front-requires-clause-spelled : goal.value_front-requires-clause-spelled
value_front-requires-clause-spelled c =
    let k = c.args.ctx in
    let x : ℤ = to_z w128 (of_z w128 c.args.number) in
    let form = c.args.pair.now.form.value in
    let a = attribute_of c.args.value.now in
    let w = value_of c.in_ok-new.new in
    let e : renumbered k (form_in form a.via) x a.value ≡ Some w = ap (λ (f : ℕ). renumbered k f x a.value) (sym c.form_of-form.ensures) ∙ sym c.in_ok-new.ensures in
    let h = number_kept k form (constant_in a.value) a x w c.requires.spelled e in
    (has_spelling k form (constant_in a.value) (with_value a w) h.fits).0

pub returns : goal.returns
returns c =
    let k = c.args.ctx in
    let x : ℤ = to_z w128 (of_z w128 c.args.number) in
    let form = c.args.pair.now.form.value in
    let a = attribute_of c.args.value.now in
    let w = value_of c.in_ok-new.new in
    let e : renumbered k (form_in form a.via) x a.value ≡ Some w = ap (λ (f : ℕ). renumbered k f x a.value) (sym c.form_of-form.ensures) ∙ sym c.in_ok-new.ensures in
    let h = number_kept k form (constant_in a.value) a x w c.requires.spelled e in
    let all = c.value_front.ensures ∙ plain_front (with_value a w) (spelling k form (with_value a w)) h.new_plain in
    ap (λ (b : List ℕ). Some b) all ∙ ap (λ (o : Option Value). option_map (spelling k form) (option_map (with_value a) o)) (sym e)
    ∙ ap (λ (n : ℤ). new_head k form n a) (to_z-of_z w128 c.args.number c.ranges.number)
