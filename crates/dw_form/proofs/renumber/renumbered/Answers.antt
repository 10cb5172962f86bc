use mir.Syntax.{w128}
use Rattle.std.proofs.Common.{◌≡◌, ◌∙◌, ℕ, ap, sym, option_map, of_z, to_z}
use Rattle.std.proofs.lemmas.Int.{to_z-of_z}
use Rattle.dw_leb.specs.Number.{Signed, Unsigned}
use Rattle.dw_form.specs.declared.value.Value.{Value as TheValue}
use Rattle.dw_form.specs.Form.{Num, Uleb, Sleb, shape}
use Rattle.dw_form.specs.Lent.{value_of}
use Rattle.dw_form.specs.Renumber.{fixed_number, renumbered, signed_number, unsigned_number}
use Rattle.dw_form.proofs.renumber.renumbered.Goals as goal

pub returns-in_ok-fixed_number-in-Num : goal.returns-in_ok-fixed_number-in-Num
returns-in_ok-fixed_number-in-Num c =
    let same : to_z w128 (of_z w128 c.args.number) ≡ c.args.number = to_z-of_z w128 c.args.number c.ranges.number in
    let made = c.in_ok-fixed_number-in-Num.ensures ∙ ap (fixed_number (shape c.args.form c.args.ctx.address_size c.args.ctx.format)) same in
    ap (option_map (λ (n : ℕ). Num n)) made ∙ ap (λ (v : TheValue). renumbered c.args.ctx c.args.form c.args.number (value_of v)) (sym c.in-Num.is)

pub returns-in_ok-unsigned_number-in-Uleb : goal.returns-in_ok-unsigned_number-in-Uleb
returns-in_ok-unsigned_number-in-Uleb c =
    let same : to_z w128 (of_z w128 c.args.number) ≡ c.args.number = to_z-of_z w128 c.args.number c.ranges.number in
    let made = c.in_ok-unsigned_number-in-Uleb.ensures ∙ ap (unsigned_number c.in-Uleb.old.width) same in
    ap (option_map (λ (n : Unsigned). Uleb n)) made ∙ ap (λ (v : TheValue). renumbered c.args.ctx c.args.form c.args.number (value_of v)) (sym c.in-Uleb.is)

pub returns-in_ok-signed_number-in-Sleb : goal.returns-in_ok-signed_number-in-Sleb
returns-in_ok-signed_number-in-Sleb c =
    let same : to_z w128 (of_z w128 c.args.number) ≡ c.args.number = to_z-of_z w128 c.args.number c.ranges.number in
    let made = c.in_ok-signed_number-in-Sleb.ensures ∙ ap (signed_number c.in-Sleb.old.width) same in
    ap (option_map (λ (n : Signed). Sleb n)) made ∙ ap (λ (v : TheValue). renumbered c.args.ctx c.args.form c.args.number (value_of v)) (sym c.in-Sleb.is)
