use Rattle.std.proofs.Common.{◌≡◌, ◌∙◌, ℕ, suc, ◌+◌, ◌||◌, List, map, drop, ap, subst, arith}
use Rattle.dw_section.specs.declared.item.Item.{Item as TheItem}
use Rattle.dw_section.specs.Item.{Item}
use Rattle.dw_section.specs.ItemView.{item_of}
use Rattle.dw_strings.specs.TextView.{sections_of}
use Rattle.dw_tool.specs.Find.{found_item, found_items, found_text}
use Rattle.dw_tool.proofs.Appending.{reaches_stopped}
use Rattle.dw_tool.proofs.Finding.{Finds, finds_any, finds_more, finds_puts, none_left}
use Rattle.dw_tool.proofs.Placed.{first_left, others_left}
use Rattle.dw_tool.proofs.find.push_found.Goals as goal

pub push_found_item-requires-clause-clear : goal.push_found_item-requires-clause-clear
push_found_item-requires-clause-clear g c = c.loop-item.invariant.finds.reaches.puts.fault

pub push_found_item-requires-clause-there : goal.push_found_item-requires-clause-there
push_found_item-requires-clause-there g c =
    first_left c.args.section.now.items (map item_of c.in-Some.others.now) c.loop-item.number (item_of c.in-Some.item.now) (c.loop-item.invariant.left ∙ ap (λ (xs : List TheItem). map item_of xs) c.in-Some.ensures.cases.0)

pub returns-in_err-found-clause-puts : goal.returns-in_err-found-clause-puts
returns-in_err-found-clause-puts g c =
    let texts = sections_of c.args.strings.now in
    let items = c.args.section.now.items in
    let name = c.args.name.now in
    let text = found_text texts name c.args.section.now in
    let h = subst (λ (xs : List TheItem). Finds g.W.Write.contents c.args.out.now c.loop-item.out c.loop-item.found (found_items texts items c.loop-item.number name (map item_of xs)) text) c.in-Some.ensures.cases.0 c.loop-item.invariant.finds in
    reaches_stopped _ c.from_residual.ensures.1 h.reaches c.in_err-found.ensures.puts

pub loop-item-preserved : goal.loop-item-preserved
loop-item-preserved g c =
    let texts = sections_of c.args.strings.now in
    let items = c.args.section.now.items in
    let name = c.args.name.now in
    let text = found_text texts name c.args.section.now in
    let others = map item_of c.in-Some.others.now in
    let h = subst (λ (xs : List TheItem). Finds g.W.Write.contents c.args.out.now c.loop-item.out c.loop-item.found (found_items texts items c.loop-item.number name (map item_of xs)) text) c.in-Some.ensures.cases.0 c.loop-item.invariant.finds in
    let one : suc c.loop-item.number ≡ c.loop-item.number + 1 = omega arith in
    record {
      finds = subst (λ (n : ℕ). Finds g.W.Write.contents c.args.out.now c.push_found_item.new.out (c.loop-item.found || c.in_ok-found.field-0) (found_items texts items n name others) text) one
          (finds_more g.W.Write.contents _ _ _ _ (found_item texts items c.loop-item.number name (item_of c.in-Some.item.now)) _ text h c.in_ok-found.ensures.puts c.in_ok-found.ensures.any);
      left = subst (λ (n : ℕ). drop n items ≡ others) one
          (others_left items others c.loop-item.number (item_of c.in-Some.item.now) (c.loop-item.invariant.left ∙ ap (λ (xs : List TheItem). map item_of xs) c.in-Some.ensures.cases.0));
    }

pub returns-clause-puts : goal.returns-clause-puts
returns-clause-puts g c =
    let texts = sections_of c.args.strings.now in
    let items = c.args.section.now.items in
    let name = c.args.name.now in
    let text = found_text texts name c.args.section.now in
    let h = subst (λ (xs : List Item). Finds g.W.Write.contents c.args.out.now c.loop-item.out c.loop-item.found (found_items texts items c.loop-item.number name xs) text) (none_left c.loop-item.left.now c.in_default.ensures.cases) c.loop-item.invariant.finds in
    finds_puts g.W.Write.contents _ _ _ text h

pub returns-clause-any : goal.returns-clause-any
returns-clause-any g c =
    let texts = sections_of c.args.strings.now in
    let items = c.args.section.now.items in
    let name = c.args.name.now in
    let text = found_text texts name c.args.section.now in
    let h = subst (λ (xs : List Item). Finds g.W.Write.contents c.args.out.now c.loop-item.out c.loop-item.found (found_items texts items c.loop-item.number name xs) text) (none_left c.loop-item.left.now c.in_default.ensures.cases) c.loop-item.invariant.finds in
    finds_any g.W.Write.contents _ _ _ text h
