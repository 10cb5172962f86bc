use Rattle.std.proofs.Common.{List, ℕ, subst}
use Rattle.dw_tree.specs.Lent.{attr_of}
use Rattle.dw_strings.specs.TextView.{sections_of}
use Rattle.dw_tool.specs.Output.{Puts}
use Rattle.dw_tool.specs.Show.{placed_value}
use Rattle.dw_tool.proofs.Appending.{puts_after, puts_stopped}
use Rattle.dw_tool.proofs.Pieces.{name_before}
use Rattle.dw_tool.proofs.entries.push_next_attribute.Goals as goal

pub returns-in_err-push_attribute : goal.returns-in_err-push_attribute
returns-in_err-push_attribute g c =
    let a = c.args.attribute.now in
    let value = placed_value (sections_of c.args.origin.now.strings.now) c.args.origin.now.section.now.items c.args.origin.now.from.item (attr_of a) in
    let r = c.from_residual.result in
    subst (λ (t : List ℕ). Puts g.W.Write.contents c.args.out.now c.push_attribute.new.out t r) (name_before a.name value)
    (puts_stopped _ c.from_residual.ensures.1 c.in_err-push_attribute.ensures)

pub returns : goal.returns
returns g c =
    let a = c.args.attribute.now in
    let value = placed_value (sections_of c.args.origin.now.strings.now) c.args.origin.now.section.now.items c.args.origin.now.from.item (attr_of a) in
    let r = c.push_placed_value.result in
    subst (λ (t : List ℕ). Puts g.W.Write.contents c.args.out.now c.push_placed_value.new.out t r) (name_before a.name value)
    (puts_after c.in_ok-push_attribute.ensures c.push_placed_value.ensures)
