use Rattle.std.proofs.Common.{◌++◌, List, ℕ, subst}
use Rattle.dw_tool.specs.Names.{attribute_names, name_in}
use Rattle.dw_tool.specs.Output.{Puts}
use Rattle.dw_tool.specs.Pieces.{attribute_label, padding}
use Rattle.dw_tool.specs.Text.{hexadecimal}
use Rattle.dw_tool.proofs.Pieces.{no_label, unpadded}
use Rattle.dw_tool.proofs.text.push_attribute.Goals as goal

pub returns-in-Some : goal.returns-in-Some
returns-in-Some g c =
    let n = c.args.attribute in
    subst (λ (t : List ℕ). Puts g.W.Write.contents c.args.out.now c.push_label.new.out t c.push_label.result) (unpadded attribute_label (name_in attribute_names n) (hexadecimal n) c.in-Some.label.now (rw c.in-Some.is at c.attribute_label.ensures.label)) c.push_label.ensures

pub returns-in-None : goal.returns-in-None
returns-in-None g c =
    let n = c.args.attribute in
    subst (λ (t : List ℕ). Puts g.W.Write.contents c.args.out.now c.push_unnamed.new.out t c.push_unnamed.result) (no_label (λ name. attribute_label name ++ padding) attribute_label (name_in attribute_names n) (hexadecimal n) (rw c.in-None.is at c.attribute_label.ensures.label)) c.push_unnamed.ensures
