use Rattle.std.proofs.Common.{◌++◌, List, ℕ, subst}
use Rattle.dw_tree.specs.Lent.{number_of}
use Rattle.dw_strings.specs.TextView.{sections_of}
use Rattle.dw_tool.specs.Output.{Puts}
use Rattle.dw_tool.specs.Show.{named_behind, placed_value}
use Rattle.dw_tool.specs.Text.{hexadecimal}
use Rattle.dw_tool.proofs.Appending.{puts_after, puts_stopped}
use Rattle.dw_tool.proofs.Pieces.{name_before}
use Rattle.dw_tool.proofs.entries.push_next_number.Goals as goal

pub returns-in_err-push_attribute : goal.returns-in_err-push_attribute
returns-in_err-push_attribute g c =
    let n = c.args.number.now in
    let value = placed_value (sections_of c.args.origin.now.strings.now) c.args.origin.now.section.now.items c.args.origin.now.from.item (number_of n) in
    let r = c.from_residual.result in
    subst (λ (t : List ℕ). Puts g.W.Write.contents c.args.out.now c.push_attribute.new.out t r) (name_before n.name value)
    (puts_stopped _ c.from_residual.ensures.1 c.in_err-push_attribute.ensures)

pub returns-in_err-push_hexadecimal : goal.returns-in_err-push_hexadecimal
returns-in_err-push_hexadecimal g c =
    let n = c.args.number.now in
    let named = named_behind (sections_of c.args.origin.now.strings.now) c.args.origin.now.section.now.items c.args.origin.now.from.item (number_of n) in
    let r = c.from_residual-in_err-push_hexadecimal.result in
    subst (λ (t : List ℕ). Puts g.W.Write.contents c.args.out.now c.push_hexadecimal.new.out t r) (name_before n.name (hexadecimal n.number ++ named))
    (puts_after c.in_ok-push_attribute.ensures
    (puts_stopped _ c.from_residual-in_err-push_hexadecimal.ensures.1 c.in_err-push_hexadecimal.ensures))

pub returns : goal.returns
returns g c =
    let n = c.args.number.now in
    let named = named_behind (sections_of c.args.origin.now.strings.now) c.args.origin.now.section.now.items c.args.origin.now.from.item (number_of n) in
    let r = c.push_named_by_number.result in
    subst (λ (t : List ℕ). Puts g.W.Write.contents c.args.out.now c.push_named_by_number.new.out t r) (name_before n.name (hexadecimal n.number ++ named))
    (puts_after c.in_ok-push_attribute.ensures
    (puts_after c.in_ok-push_hexadecimal.ensures c.push_named_by_number.ensures))
