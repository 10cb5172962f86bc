use Rattle.std.proofs.Common.{◌≡◌, ◌∙◌, ◌<◌, ◌+◌, ◌++◌, ◌||◌, Bool, List, [], ℕ, Some, drop, sym, ap, arith}
use Rattle.dw_tree.specs.Lent.{EntryAt}
use Rattle.dw_section.specs.Lookup.{entry}
use Rattle.dw_ctype.specs.InOrder.{cut, is_parameter, parameter_text, right, to_come, unless_cut}
use Rattle.dw_ctype.specs.Parts.{ArePartsOf}
use Rattle.dw_ctype.specs.Types.{Source, first, is_prototyped, joined, parameter_texts, say, type_of}
use Rattle.dw_ctype.specs.View.{source_of}
use Rattle.dw_ctype.proofs.Appending.{reaches_last, reaches_more, reaches_stopped, puts_after, puts_as, puts_stopped, puts_text}
use Rattle.dw_ctype.proofs.Chains.{said_chain}
use Rattle.dw_ctype.proofs.Gathered.{come_split, kept_texts, none_left, one_left}
use Rattle.dw_ctype.proofs.Levels.{right_of, said, said_cut, said_whole}
use Rattle.dw_ctype.proofs.right.+say.Goals as goal

pub right-returns-in-Some : goal.right-returns-in-Some
right-returns-in-Some t c =
    let deep : 0 < c.args.depth = omega (arith, c.if-depth-eq0.false) in
    let there : entry c.args.section.now.items c.in-Entry.id ≡ Some c.in-Some.entry = sym c.entry.ensures ∙ c.in-Some.is in
    puts_text (right_of (source_of c.args.section.now c.args.strings.now) c.args.depth c.args.typed c.in-Entry.id c.in-Some.entry deep c.in-Entry.is there) c.right_of_entry.ensures

pub say-returns-in_err-before : goal.say-returns-in_err-before
say-returns-in_err-before t c =
    let s : Source = source_of c.args.section.now c.args.strings.now in
    let x : List ℕ = c.args.declarator.now in
    let behind : List ℕ = unless_cut (cut s.items c.args.depth c.args.typed) (x ++ right s c.args.depth c.args.typed) in
    puts_text (said s c.args.depth c.args.typed x c.is_empty.result c.is_empty.ensures) (puts_stopped c.from_residual.result behind c.from_residual.ensures.1 c.in_err-before.ensures.text)

pub say-returns-then-before : goal.say-returns-then-before
say-returns-then-before t c =
    let s : Source = source_of c.args.section.now c.args.strings.now in
    puts_text (said_cut s c.args.depth c.args.typed c.args.declarator.now c.is_empty.result c.is_empty.ensures (sym c.if-before.true ∙ c.in_ok-before.ensures.cut)) (puts_as c.in_ok-before.ensures.text)

pub say-returns-in_err-push : goal.say-returns-in_err-push
say-returns-in_err-push t c =
    let s : Source = source_of c.args.section.now c.args.strings.now in
    let r = c.from_residual-in_err-push in
    puts_text (said_whole s c.args.depth c.args.typed c.args.declarator.now c.is_empty.result c.is_empty.ensures (sym c.if-before.false ∙ c.in_ok-before.ensures.cut))
    (puts_after c.in_ok-before.ensures.text (puts_stopped r.result (right s c.args.depth c.args.typed) r.ensures.1 c.in_err-push.ensures))

pub say-returns-then-before-2 : goal.say-returns-then-before-2
say-returns-then-before-2 t c =
    let s : Source = source_of c.args.section.now c.args.strings.now in
    puts_text (said_chain s c.args.depth c.args.typed c.args.declarator.now c.is_empty.result c.is_empty.ensures (c.in_ok-before.ensures.chain c.if-before-2.true))
    (puts_after c.in_ok-before.ensures.text c.in_ok-push.ensures)

pub say-returns : goal.say-returns
say-returns t c =
    let s : Source = source_of c.args.section.now c.args.strings.now in
    puts_text (said_whole s c.args.depth c.args.typed c.args.declarator.now c.is_empty.result c.is_empty.ensures (sym c.if-before.false ∙ c.in_ok-before.ensures.cut))
    (puts_after c.in_ok-before.ensures.text (puts_after c.in_ok-push.ensures c.right.ensures))

pub push_each_parameter-returns-in-Some : goal.push_each_parameter-returns-in-Some
push_each_parameter-returns-in-Some t c =
    let items = c.args.section.now.items in
    let id = c.args.id in
    let e : EntryAt = c.args.function.now in
    let parts = c.in-Some.parts.now in
    let text : EntryAt → List ℕ = λ p. say (source_of c.args.section.now c.args.strings.now) c.args.depth (type_of items id.item p) [] in
    let are : ArePartsOf items id.item (entry items id) parts = rw (← c.requires.kept) c.in-Some.ensures in
    puts_text (ap (λ (b : Bool). joined b (parameter_texts text c.deref.result.now)) c.is_prototyped-prototyped.ensures
    ∙ ap (joined (is_prototyped (first 0x27 e))) (ap (parameter_texts text) c.deref.ensures.value ∙ kept_texts items id e parts c.requires.there are text c.requires.kind)) c.push_parameters_of.ensures

pub push_parameters_of-returns-in_err-some : goal.push_parameters_of-returns-in_err-some
push_parameters_of-returns-in_err-some t c =
    let text : EntryAt → List ℕ = λ p. say (source_of c.args.section.now c.args.strings.now) c.args.depth (type_of c.args.section.now.items c.args.item p) [] in
    let xs = c.args.shown.now in
    let i = c.loop-entry.entry-index in
    let e : EntryAt = c.entry-item.result in
    let some : Bool = c.loop-entry.some in
    reaches_stopped c.from_residual.result (parameter_text text some e) (to_come c.args.prototyped (some || is_parameter e) (parameter_texts text (drop (i + 1) xs)))
    (come_split text c.args.prototyped some e (drop (i + 1) xs) _ (one_left xs i e c.loop-entry-test.true c.entry-item.is)) c.from_residual.ensures.1 c.loop-entry.invariant c.in_err-some.ensures.text

pub push_parameters_of-loop-entry-preserved : goal.push_parameters_of-loop-entry-preserved
push_parameters_of-loop-entry-preserved t c =
    let text : EntryAt → List ℕ = λ p. say (source_of c.args.section.now c.args.strings.now) c.args.depth (type_of c.args.section.now.items c.args.item p) [] in
    let xs = c.args.shown.now in
    let i = c.loop-entry.entry-index in
    let e : EntryAt = c.entry-item.result in
    let some : Bool = c.loop-entry.some in
    let rest = parameter_texts text (drop (i + 1) xs) in
    reaches_more (parameter_text text some e) (come_split text c.args.prototyped some e (drop (i + 1) xs) _ (one_left xs i e c.loop-entry-test.true c.entry-item.is) ∙ ap (λ (b : Bool). parameter_text text some e ++ to_come c.args.prototyped b rest) (sym c.in_ok-some.ensures.some)) c.loop-entry.invariant c.in_ok-some.ensures.text

pub push_parameters_of-returns : goal.push_parameters_of-returns
push_parameters_of-returns t c =
    let text : EntryAt → List ℕ = λ p. say (source_of c.args.section.now c.args.strings.now) c.args.depth (type_of c.args.section.now.items c.args.item p) [] in
    reaches_last (ap (λ (l : List EntryAt). to_come c.args.prototyped c.loop-entry.some (parameter_texts text l)) (none_left c.args.shown.now c.loop-entry.entry-index c.loop-entry-test.false)) c.loop-entry.invariant c.push_unless.ensures
