use Rattle.std.proofs.Common.{List, subst}
use Rattle.dw_tree.specs.Lent.{EntryAt}
use Rattle.dw_strings.specs.TextView.{sections_of}
use Rattle.dw_tool.specs.Show.{entries_text}
use Rattle.dw_tool.proofs.Appending.{Reaches, reaches_more, reaches_stopped}
use Rattle.dw_tool.proofs.entries.push_entries.Goals as goal

pub returns-in_err-push_entry : goal.returns-in_err-push_entry
returns-in_err-push_entry g c =
    let place = c.args.place.now in
    let text = entries_text (sections_of place.strings.now) place.section.now.items place.item in
    let all = text c.args.entries in
    let h = subst (λ (left : List EntryAt). Reaches g.W.Write.contents c.args.out.now c.loop-entry.out (text left) all) c.in-Some.ensures.steps c.loop-entry.invariant in
    reaches_stopped _ c.from_residual.ensures.1 h c.in_err-push_entry.ensures

pub loop-entry-preserved : goal.loop-entry-preserved
loop-entry-preserved g c =
    let place = c.args.place.now in
    let text = entries_text (sections_of place.strings.now) place.section.now.items place.item in
    let all = text c.args.entries in
    let h = subst (λ (left : List EntryAt). Reaches g.W.Write.contents c.args.out.now c.loop-entry.out (text left) all) c.in-Some.ensures.steps c.loop-entry.invariant in
    reaches_more h c.in_ok-push_entry.ensures
