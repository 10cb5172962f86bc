use Rattle.std.proofs.Common.{List, ℕ, subst}
use Rattle.dw_tree.specs.Lent.{attributes_of}
use Rattle.dw_strings.specs.TextView.{sections_of}
use Rattle.dw_tool.specs.Output.{Puts}
use Rattle.dw_tool.specs.Show.{start_at}
use Rattle.dw_tool.proofs.Appending.{puts_after, puts_stopped}
use Rattle.dw_tool.proofs.Pieces.{pieces_are}
use Rattle.dw_tool.proofs.entries.push_entry.Goals as goal

pub returns-in_err-push_entry_head : goal.returns-in_err-push_entry_head
returns-in_err-push_entry_head g c =
    let place = c.args.place.now in
    let strings = sections_of place.strings.now in
    let items = place.section.now.items in
    let entry = c.args.entry.now in
    let start = start_at items place.item in
    let r = c.from_residual.result in
    subst (λ (t : List ℕ). Puts g.W.Write.contents c.args.out.now c.push_entry_head.new.out t r) (pieces_are strings items place.item start entry (attributes_of entry))
    (puts_stopped _ c.from_residual.ensures.1 (rw c.requires.place.start_is at c.in_err-push_entry_head.ensures))

pub returns-in_err-push_attributes : goal.returns-in_err-push_attributes
returns-in_err-push_attributes g c =
    let place = c.args.place.now in
    let strings = sections_of place.strings.now in
    let items = place.section.now.items in
    let entry = c.args.entry.now in
    let start = start_at items place.item in
    let r = c.from_residual-in_err-push_attributes.result in
    subst (λ (t : List ℕ). Puts g.W.Write.contents c.args.out.now c.push_attributes.new.out t r) (pieces_are strings items place.item start entry (attributes_of entry))
    (puts_after (rw c.requires.place.start_is at c.in_ok-push_entry_head.ensures)
    (puts_stopped _ c.from_residual-in_err-push_attributes.ensures.1 (rw c.attrs.ensures at c.in_err-push_attributes.ensures)))

pub returns : goal.returns
returns g c =
    let place = c.args.place.now in
    let strings = sections_of place.strings.now in
    let items = place.section.now.items in
    let entry = c.args.entry.now in
    let start = start_at items place.item in
    let r = c.append.result in
    subst (λ (t : List ℕ). Puts g.W.Write.contents c.args.out.now c.append.new.self t r) (pieces_are strings items place.item start entry (attributes_of entry))
    (puts_after (rw c.requires.place.start_is at c.in_ok-push_entry_head.ensures)
    (puts_after (rw c.attrs.ensures at c.in_ok-push_attributes.ensures) c.append.ensures))
