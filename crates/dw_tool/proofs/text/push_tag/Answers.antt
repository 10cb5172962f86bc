use Rattle.std.proofs.Common.{◌++◌, List, ℕ, subst}
use Rattle.dw_tool.specs.Names.{name_in, tag_names}
use Rattle.dw_tool.specs.Output.{Puts}
use Rattle.dw_tool.specs.Pieces.{tag_label, padding}
use Rattle.dw_tool.specs.Text.{hexadecimal}
use Rattle.dw_tool.proofs.Pieces.{no_label, unpadded}
use Rattle.dw_tool.proofs.text.push_tag.Goals as goal

pub returns-in-Some : goal.returns-in-Some
returns-in-Some g c =
    let n = c.args.tag in
    subst (λ (t : List ℕ). Puts g.W.Write.contents c.args.out.now c.push_label.new.out t c.push_label.result) (unpadded tag_label (name_in tag_names n) (hexadecimal n) c.in-Some.label.now (rw c.in-Some.is at c.tag_label.ensures.label)) c.push_label.ensures

pub returns-in-None : goal.returns-in-None
returns-in-None g c =
    let n = c.args.tag in
    subst (λ (t : List ℕ). Puts g.W.Write.contents c.args.out.now c.push_labelled.new.out t c.push_labelled.result) (no_label (λ name. tag_label name ++ padding) tag_label (name_in tag_names n) (hexadecimal n) (rw c.in-None.is at c.tag_label.ensures.label)) c.push_labelled.ensures
