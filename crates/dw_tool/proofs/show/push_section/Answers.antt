use Rattle.std.proofs.Common.{◌≡◌, ◌∙◌, ℕ, suc, ◌+◌, List, map, drop, ap, subst, arith}
use Rattle.dw_section.specs.declared.item.Item.{Item as TheItem}
use Rattle.dw_section.specs.ItemView.{item_of}
use Rattle.dw_strings.specs.TextView.{sections_of}
use Rattle.dw_tool.specs.Show.{items_text, section_text}
use Rattle.dw_tool.proofs.Appending.{Reaches, reaches_more, reaches_stopped}
use Rattle.dw_tool.proofs.Placed.{first_left, others_left}
use Rattle.dw_tool.proofs.show.push_section.Goals as goal

pub push_item-requires-clause-there : goal.push_item-requires-clause-there
push_item-requires-clause-there g c =
    first_left c.args.section.now.items (map item_of c.in-Some.others.now) c.loop-item.number (item_of c.in-Some.item.now) (c.loop-item.invariant.left ∙ ap (λ (xs : List TheItem). map item_of xs) c.in-Some.ensures.cases.0)

pub returns-in_err-push_item : goal.returns-in_err-push_item
returns-in_err-push_item g c =
    let items = c.args.section.now.items in
    let text = section_text (sections_of c.args.strings.now) c.args.section.now in
    let h = subst (λ (xs : List TheItem). Reaches g.W.Write.contents c.args.out.now c.loop-item.out (items_text (sections_of c.args.strings.now) items c.loop-item.number (map item_of xs)) text) c.in-Some.ensures.cases.0 c.loop-item.invariant.reaches in
    reaches_stopped _ c.from_residual.ensures.1 h c.in_err-push_item.ensures

pub loop-item-preserved : goal.loop-item-preserved
loop-item-preserved g c =
    let items = c.args.section.now.items in
    let text = section_text (sections_of c.args.strings.now) c.args.section.now in
    let others = map item_of c.in-Some.others.now in
    let h = subst (λ (xs : List TheItem). Reaches g.W.Write.contents c.args.out.now c.loop-item.out (items_text (sections_of c.args.strings.now) items c.loop-item.number (map item_of xs)) text) c.in-Some.ensures.cases.0 c.loop-item.invariant.reaches in
    let one : suc c.loop-item.number ≡ c.loop-item.number + 1 = omega arith in
    record {
      reaches = subst (λ (n : ℕ). Reaches g.W.Write.contents c.args.out.now c.push_item.new.out (items_text (sections_of c.args.strings.now) items n others) text) one
          (reaches_more h c.in_ok-push_item.ensures);
      left = subst (λ (n : ℕ). drop n items ≡ others) one
          (others_left items others c.loop-item.number (item_of c.in-Some.item.now) (c.loop-item.invariant.left ∙ ap (λ (xs : List TheItem). map item_of xs) c.in-Some.ensures.cases.0));
    }
