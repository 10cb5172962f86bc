use Rattle.std.proofs.Common.{codes, ◌++◌, ◌+◌, List, ℕ, subst}
use Rattle.dw_tool.specs.Output.{Puts}
use Rattle.dw_tool.specs.Show.{tag_at}
use Rattle.dw_tool.specs.Text.{hexadecimal, tag_text}
use Rattle.dw_tool.proofs.Appending.{puts_after, puts_stopped}
use Rattle.dw_tool.proofs.Pieces.{depth_before}
use Rattle.dw_tool.proofs.entries.push_entry_head.Goals as goal

pub returns-in_err-push_depth : goal.returns-in_err-push_depth
returns-in_err-push_depth g c =
    let e = c.args.entry.now in
    let behind = hexadecimal (c.args.start + e.offset) ++ (codes " " ++ tag_text (tag_at e)) in
    let r = c.from_residual.result in
    subst (λ (t : List ℕ). Puts g.W.Write.contents c.args.out.now c.push_depth.new.out t r) (depth_before e.depth behind)
    (puts_stopped _ c.from_residual.ensures.1 (rw c.depth.ensures at c.in_err-push_depth.ensures))

pub returns-in_err-push_hexadecimal : goal.returns-in_err-push_hexadecimal
returns-in_err-push_hexadecimal g c =
    let e = c.args.entry.now in
    let tag = codes " " ++ tag_text (tag_at e) in
    let number = hexadecimal (c.args.start + e.offset) in
    let r = c.from_residual-in_err-push_hexadecimal.result in
    subst (λ (t : List ℕ). Puts g.W.Write.contents c.args.out.now c.push_hexadecimal.new.out t r) (depth_before e.depth (number ++ tag))
    (puts_after (rw c.depth.ensures at c.in_ok-push_depth.ensures)
    (puts_stopped _ c.from_residual-in_err-push_hexadecimal.ensures.1 (rw c.offset.ensures at c.in_err-push_hexadecimal.ensures)))

pub returns : goal.returns
returns g c =
    let e = c.args.entry.now in
    let tag = codes " " ++ tag_text (tag_at e) in
    let number = hexadecimal (c.args.start + e.offset) in
    let r = c.push_tag.result in
    subst (λ (t : List ℕ). Puts g.W.Write.contents c.args.out.now c.push_tag.new.out t r) (depth_before e.depth (number ++ tag))
    (puts_after (rw c.depth.ensures at c.in_ok-push_depth.ensures)
    (puts_after (rw c.offset.ensures at c.in_ok-push_hexadecimal.ensures) (rw c.tag.ensures at c.push_tag.ensures)))
