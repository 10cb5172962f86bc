use Rattle.std.proofs.Common.{List, subst}
use Rattle.dw_tree.specs.Lent.{EntryAt}
use Rattle.dw_strings.specs.TextView.{sections_of}
use Rattle.dw_tool.specs.Find.{found_entries, found_entry}
use Rattle.dw_tool.proofs.Appending.{reaches_stopped}
use Rattle.dw_tool.proofs.Finding.{Finds, finds_any, finds_more, finds_puts}
use Rattle.dw_tool.proofs.find.push_found_entries.Goals as goal

pub push_if_named-requires-clause-clear : goal.push_if_named-requires-clause-clear
push_if_named-requires-clause-clear g c = c.loop-entry.invariant.reaches.puts.fault

pub returns-in_err-found-clause-puts : goal.returns-in_err-found-clause-puts
returns-in_err-found-clause-puts g c =
    let place = c.args.place.now in
    let texts = sections_of place.strings.now in
    let items = place.section.now.items in
    let text = found_entries texts items place.item c.args.name.now in
    let all = text c.args.entries in
    let h = subst (λ (left : List EntryAt). Finds g.W.Write.contents c.args.out.now c.loop-entry.out c.loop-entry.found (text left) all) c.in-Some.ensures.steps c.loop-entry.invariant in
    reaches_stopped _ c.from_residual.ensures.1 h.reaches c.in_err-found.ensures.puts

pub loop-entry-preserved : goal.loop-entry-preserved
loop-entry-preserved g c =
    let place = c.args.place.now in
    let texts = sections_of place.strings.now in
    let items = place.section.now.items in
    let text = found_entries texts items place.item c.args.name.now in
    let all = text c.args.entries in
    let h = subst (λ (left : List EntryAt). Finds g.W.Write.contents c.args.out.now c.loop-entry.out c.loop-entry.found (text left) all) c.in-Some.ensures.steps c.loop-entry.invariant in
    finds_more g.W.Write.contents _ _ _ _ (found_entry texts items place.item c.args.name.now c.in-Some.entry) _ all h c.in_ok-found.ensures.puts c.in_ok-found.ensures.any

pub returns-clause-puts : goal.returns-clause-puts
returns-clause-puts g c =
    let place = c.args.place.now in
    let text = found_entries (sections_of place.strings.now) place.section.now.items place.item c.args.name.now in
    let all = text c.args.entries in
    let h = subst (λ (left : List EntryAt). Finds g.W.Write.contents c.args.out.now c.loop-entry.out c.loop-entry.found (text left) all) c.in-None.ensures.steps.0 c.loop-entry.invariant in
    finds_puts g.W.Write.contents _ _ _ all h

pub returns-clause-any : goal.returns-clause-any
returns-clause-any g c =
    let place = c.args.place.now in
    let text = found_entries (sections_of place.strings.now) place.section.now.items place.item c.args.name.now in
    let all = text c.args.entries in
    let h = subst (λ (left : List EntryAt). Finds g.W.Write.contents c.args.out.now c.loop-entry.out c.loop-entry.found (text left) all) c.in-None.ensures.steps.0 c.loop-entry.invariant in
    finds_any g.W.Write.contents _ _ _ all h
