use Rattle.std.proofs.Common.{List, refl, subst, sym}
use Rattle.dw_tree.specs.Lent.{LentAttribute}
use Rattle.dw_strings.specs.TextView.{sections_of}
use Rattle.dw_tool.specs.Pieces.{next_attributes}
use Rattle.dw_tool.proofs.Appending.{Reaches, reaches_more, reaches_stopped}
use Rattle.dw_tool.proofs.entries.push_attributes.Goals as goal

pub returns-in_err-push_next_number : goal.returns-in_err-push_next_number
returns-in_err-push_next_number g c =
    let text = next_attributes (sections_of c.args.origin.now.strings.now) c.args.origin.now.section.now.items c.args.origin.now.from.item in
    let all = text c.args.attributes in
    let h = subst (λ (left : List LentAttribute). Reaches g.W.Write.contents c.args.out.now c.loop-number.out (text left) all) c.in-Some.ensures.some c.loop-number.invariant in
    reaches_stopped _ c.from_residual.ensures.1 h c.in_err-push_next_number.ensures

pub loop-number-preserved-in-Some : goal.loop-number-preserved-in-Some
loop-number-preserved-in-Some g c =
    let text = next_attributes (sections_of c.args.origin.now.strings.now) c.args.origin.now.section.now.items c.args.origin.now.from.item in
    let all = text c.args.attributes in
    let h = subst (λ (left : List LentAttribute). Reaches g.W.Write.contents c.args.out.now c.loop-number.out (text left) all) c.in-Some.ensures.some c.loop-number.invariant in
    reaches_more h c.in_ok-push_next_number.ensures

pub loop-number-preserved : goal.loop-number-preserved
loop-number-preserved g c =
    let text = next_attributes (sections_of c.args.origin.now.strings.now) c.args.origin.now.section.now.items c.args.origin.now.from.item in
    let all = text c.args.attributes in
    let first = subst (λ (left : List LentAttribute). Reaches g.W.Write.contents c.args.out.now c.loop-number.out (text left) all) (sym (c.in_default.ensures.none refl)) c.loop-number.invariant in
    let same = subst (λ (left : List LentAttribute). Reaches g.W.Write.contents c.args.out.now c.loop-number.out (text left) all) (sym (c.in_default-next_bare.ensures.none refl)) first in
    let h = subst (λ (left : List LentAttribute). Reaches g.W.Write.contents c.args.out.now c.loop-number.out (text left) all) c.in-Some-next.ensures.steps same in
    reaches_more h c.in_ok-push_next_attribute-in-Some-next.ensures

pub returns-in_err-push_next_attribute-in-Some-next : goal.returns-in_err-push_next_attribute-in-Some-next
returns-in_err-push_next_attribute-in-Some-next g c =
    let text = next_attributes (sections_of c.args.origin.now.strings.now) c.args.origin.now.section.now.items c.args.origin.now.from.item in
    let all = text c.args.attributes in
    let first = subst (λ (left : List LentAttribute). Reaches g.W.Write.contents c.args.out.now c.loop-number.out (text left) all) (sym (c.in_default.ensures.none refl)) c.loop-number.invariant in
    let same = subst (λ (left : List LentAttribute). Reaches g.W.Write.contents c.args.out.now c.loop-number.out (text left) all) (sym (c.in_default-next_bare.ensures.none refl)) first in
    let h = subst (λ (left : List LentAttribute). Reaches g.W.Write.contents c.args.out.now c.loop-number.out (text left) all) c.in-Some-next.ensures.steps same in
    reaches_stopped _ c.from_residual-in_err-push_next_attribute-in-Some-next.ensures.1 h c.in_err-push_next_attribute-in-Some-next.ensures

pub returns-in_err-push_next_attribute : goal.returns-in_err-push_next_attribute
returns-in_err-push_next_attribute g c =
    let text = next_attributes (sections_of c.args.origin.now.strings.now) c.args.origin.now.section.now.items c.args.origin.now.from.item in
    let all = text c.args.attributes in
    let same = subst (λ (left : List LentAttribute). Reaches g.W.Write.contents c.args.out.now c.loop-number.out (text left) all) (sym (c.in_default.ensures.none refl)) c.loop-number.invariant in
    let h = subst (λ (left : List LentAttribute). Reaches g.W.Write.contents c.args.out.now c.loop-number.out (text left) all) c.in-Some-next_bare.ensures.some same in
    reaches_stopped _ c.from_residual-in_err-push_next_attribute.ensures.1 h c.in_err-push_next_attribute.ensures

pub loop-number-preserved-in-Some-next_bare : goal.loop-number-preserved-in-Some-next_bare
loop-number-preserved-in-Some-next_bare g c =
    let text = next_attributes (sections_of c.args.origin.now.strings.now) c.args.origin.now.section.now.items c.args.origin.now.from.item in
    let all = text c.args.attributes in
    let same = subst (λ (left : List LentAttribute). Reaches g.W.Write.contents c.args.out.now c.loop-number.out (text left) all) (sym (c.in_default.ensures.none refl)) c.loop-number.invariant in
    let h = subst (λ (left : List LentAttribute). Reaches g.W.Write.contents c.args.out.now c.loop-number.out (text left) all) c.in-Some-next_bare.ensures.some same in
    reaches_more h c.in_ok-push_next_attribute.ensures
