use Rattle.std.proofs.Common.{◌≡◌, ◌∙◌, ◌<◌, None, Some, sym, arith}
use Rattle.dw_section.specs.Lookup.{entry}
use Rattle.dw_ctype.specs.declared.kind.Kind.TheVariants.{Marked, Qualified}
use Rattle.dw_ctype.specs.Chain.{IsChain, IsChainFrom}
use Rattle.dw_ctype.specs.Types.{Source, kind_of}
use Rattle.dw_ctype.specs.View.{source_of}
use Rattle.dw_ctype.proofs.Appending.{puts_text}
use Rattle.dw_ctype.proofs.Befores.{cut_from, ok_all, ok_then, word_cut}
use Rattle.dw_ctype.proofs.Chains.{bad_chain, bad_left, end_from, end_said, entry_chain, left_from, lost_left, marked_from, missing_chain, missing_left, none_chain, qualified_from, qualified_said}
use Rattle.dw_ctype.proofs.left.+left.Goals as goal

pub left-returns-in-Missing-clause-text : goal.left-returns-in-Missing-clause-text
left-returns-in-Missing-clause-text t c =
    let s : Source = source_of c.args.section.now c.args.strings.now in
    let deep : 0 < c.args.depth = omega (arith, c.if-depth-eq0.false) in
    puts_text (missing_left s c.args.depth c.args.typed c.args.empty deep c.in-Missing.is) (c.whole.ensures.text _ _ _ c.left_of_word.ensures.text)

pub left-returns-in-Missing-clause-cut : goal.left-returns-in-Missing-clause-cut
left-returns-in-Missing-clause-cut t c =
    let s : Source = source_of c.args.section.now c.args.strings.now in
    let deep : 0 < c.args.depth = omega (arith, c.if-depth-eq0.false) in
    let one : IsChain s c.args.depth c.args.typed = missing_chain s c.args.depth c.args.typed deep c.in-Missing.is in
    word_cut _ c.whole.result one.whole c.whole.ensures.whole

pub left-returns-in-Missing-clause-chain : goal.left-returns-in-Missing-clause-chain
left-returns-in-Missing-clause-chain t c =
    let s : Source = source_of c.args.section.now c.args.strings.now in
    let deep : 0 < c.args.depth = omega (arith, c.if-depth-eq0.false) in
    ok_all c.whole.result (λ b on. missing_chain s c.args.depth c.args.typed deep c.in-Missing.is)

pub left-returns-in-Bad-clause-text : goal.left-returns-in-Bad-clause-text
left-returns-in-Bad-clause-text t c =
    let s : Source = source_of c.args.section.now c.args.strings.now in
    let deep : 0 < c.args.depth = omega (arith, c.if-depth-eq0.false) in
    puts_text (bad_left s c.args.depth c.args.typed c.args.empty deep c.in-Bad.is) (c.whole-in-Bad.ensures.text _ _ _ c.left_of_word-in-Bad.ensures.text)

pub left-returns-in-Bad-clause-cut : goal.left-returns-in-Bad-clause-cut
left-returns-in-Bad-clause-cut t c =
    let s : Source = source_of c.args.section.now c.args.strings.now in
    let deep : 0 < c.args.depth = omega (arith, c.if-depth-eq0.false) in
    let one : IsChain s c.args.depth c.args.typed = bad_chain s c.args.depth c.args.typed deep c.in-Bad.is in
    word_cut _ c.whole-in-Bad.result one.whole c.whole-in-Bad.ensures.whole

pub left-returns-in-Bad-clause-chain : goal.left-returns-in-Bad-clause-chain
left-returns-in-Bad-clause-chain t c =
    let s : Source = source_of c.args.section.now c.args.strings.now in
    let deep : 0 < c.args.depth = omega (arith, c.if-depth-eq0.false) in
    ok_all c.whole-in-Bad.result (λ b on. bad_chain s c.args.depth c.args.typed deep c.in-Bad.is)

pub left-returns-in-Some-clause-text : goal.left-returns-in-Some-clause-text
left-returns-in-Some-clause-text t c =
    let s : Source = source_of c.args.section.now c.args.strings.now in
    let deep : 0 < c.args.depth = omega (arith, c.if-depth-eq0.false) in
    let id = c.in-Entry.id in
    let there : entry s.items id ≡ Some c.in-Some.entry = sym c.entry.ensures ∙ c.in-Some.is in
    puts_text (left_from s c.args.depth c.args.typed id c.in-Some.entry c.args.empty deep c.in-Entry.is there) c.left_of_entry.ensures.text

pub left-returns-in-Some-clause-cut : goal.left-returns-in-Some-clause-cut
left-returns-in-Some-clause-cut t c =
    let s : Source = source_of c.args.section.now c.args.strings.now in
    let deep : 0 < c.args.depth = omega (arith, c.if-depth-eq0.false) in
    let id = c.in-Entry.id in
    let there : entry s.items id ≡ Some c.in-Some.entry = sym c.entry.ensures ∙ c.in-Some.is in
    ok_then c.left_of_entry.result (λ b is. is ∙ cut_from s.items c.args.depth c.args.typed id c.in-Some.entry deep c.in-Entry.is there) c.left_of_entry.ensures.cut

pub left-returns-in-Some-clause-chain : goal.left-returns-in-Some-clause-chain
left-returns-in-Some-clause-chain t c =
    let s : Source = source_of c.args.section.now c.args.strings.now in
    let deep : 0 < c.args.depth = omega (arith, c.if-depth-eq0.false) in
    let id = c.in-Entry.id in
    let there : entry s.items id ≡ Some c.in-Some.entry = sym c.entry.ensures ∙ c.in-Some.is in
    ok_then c.left_of_entry.result (λ b known on. entry_chain s c.args.depth c.args.typed id c.in-Some.entry deep c.in-Entry.is there (known on)) c.left_of_entry.ensures.chain

pub left-returns-in-None-clause-text : goal.left-returns-in-None-clause-text
left-returns-in-None-clause-text t c =
    let s : Source = source_of c.args.section.now c.args.strings.now in
    let deep : 0 < c.args.depth = omega (arith, c.if-depth-eq0.false) in
    let id = c.in-Entry.id in
    let there : entry s.items id ≡ None = sym c.entry.ensures ∙ c.in-None.is in
    puts_text (lost_left s c.args.depth c.args.typed id c.args.empty deep c.in-Entry.is there) (c.whole-in-None.ensures.text _ _ _ c.left_of_word-in-None.ensures.text)

pub left-returns-in-None-clause-cut : goal.left-returns-in-None-clause-cut
left-returns-in-None-clause-cut t c =
    let s : Source = source_of c.args.section.now c.args.strings.now in
    let deep : 0 < c.args.depth = omega (arith, c.if-depth-eq0.false) in
    let id = c.in-Entry.id in
    let there : entry s.items id ≡ None = sym c.entry.ensures ∙ c.in-None.is in
    let one : IsChain s c.args.depth c.args.typed = none_chain s c.args.depth c.args.typed id deep c.in-Entry.is there in
    word_cut _ c.whole-in-None.result one.whole c.whole-in-None.ensures.whole

pub left-returns-in-None-clause-chain : goal.left-returns-in-None-clause-chain
left-returns-in-None-clause-chain t c =
    let s : Source = source_of c.args.section.now c.args.strings.now in
    let deep : 0 < c.args.depth = omega (arith, c.if-depth-eq0.false) in
    let id = c.in-Entry.id in
    let there : entry s.items id ≡ None = sym c.entry.ensures ∙ c.in-None.is in
    ok_all c.whole-in-None.result (λ b on. none_chain s c.args.depth c.args.typed id deep c.in-Entry.is there)

pub left_of_entry-returns-in-Marked-clause-chain : goal.left_of_entry-returns-in-Marked-clause-chain
left_of_entry-returns-in-Marked-clause-chain t c =
    let s : Source = source_of c.args.section.now c.args.strings.now in
    let e = c.args.entry.now in
    let m = c.in-Marked.mark in
    let is : kind_of e ≡ Marked m = sym c.kind_of.ensures ∙ c.in-Marked.is in
    ok_then c.left_of_marked.result (λ b known on. marked_from s c.args.depth c.args.item e c.type_of-typed.result c.type_of-typed.ensures (known on) m is) c.left_of_marked.ensures.chain

pub left_of_entry-returns-in-Qualified-clause-text : goal.left_of_entry-returns-in-Qualified-clause-text
left_of_entry-returns-in-Qualified-clause-text t c =
    let s : Source = source_of c.args.section.now c.args.strings.now in
    let e = c.args.entry.now in
    let q = c.in-Qualified.qualifier in
    let typed = c.type_of-typed-in-Qualified in
    let is : kind_of e ≡ Qualified q = sym c.kind_of.ensures ∙ c.in-Qualified.is in
    puts_text (qualified_said s c.args.depth c.args.item e typed.result q c.args.empty typed.ensures is) c.left_of_qualified.ensures.text

pub left_of_entry-returns-in-Qualified-clause-chain : goal.left_of_entry-returns-in-Qualified-clause-chain
left_of_entry-returns-in-Qualified-clause-chain t c =
    let s : Source = source_of c.args.section.now c.args.strings.now in
    let e = c.args.entry.now in
    let q = c.in-Qualified.qualifier in
    let typed = c.type_of-typed-in-Qualified in
    let is : kind_of e ≡ Qualified q = sym c.kind_of.ensures ∙ c.in-Qualified.is in
    ok_then c.left_of_qualified.result (λ b known on. qualified_from s c.args.depth c.args.item e typed.result typed.ensures (known on) q is) c.left_of_qualified.ensures.chain

pub left_of_entry-returns-in-Array-clause-chain : goal.left_of_entry-returns-in-Array-clause-chain
left_of_entry-returns-in-Array-clause-chain t c =
    ok_then c.left_of_inner.result (λ b none on. absurd cc) c.left_of_inner.ensures.chain

pub left_of_entry-returns-in-Named-clause-text : goal.left_of_entry-returns-in-Named-clause-text
left_of_entry-returns-in-Named-clause-text t c =
    let s : Source = source_of c.args.section.now c.args.strings.now in
    let e = c.args.entry.now in
    let k = c.kind_of.result in
    puts_text (end_said s c.args.depth c.args.item e k c.args.empty (sym c.kind_of.ensures) c.in-Named.is) (c.whole.ensures.text _ _ _ c.last_word.ensures.text)

pub left_of_entry-returns-in-Named-clause-cut : goal.left_of_entry-returns-in-Named-clause-cut
left_of_entry-returns-in-Named-clause-cut t c =
    let s : Source = source_of c.args.section.now c.args.strings.now in
    let one : IsChainFrom s c.args.depth c.args.item c.args.entry.now = end_from s c.args.depth c.args.item c.args.entry.now c.kind_of.result (sym c.kind_of.ensures) c.in-Named.is in
    word_cut _ c.whole.result one.whole c.whole.ensures.whole

pub left_of_entry-returns-in-Named-clause-chain : goal.left_of_entry-returns-in-Named-clause-chain
left_of_entry-returns-in-Named-clause-chain t c =
    let s : Source = source_of c.args.section.now c.args.strings.now in
    ok_all c.whole.result (λ b on. end_from s c.args.depth c.args.item c.args.entry.now c.kind_of.result (sym c.kind_of.ensures) c.in-Named.is)

pub left_of_marked-has_brackets-requires : goal.left_of_marked-has_brackets-requires
left_of_marked-has_brackets-requires t c on =
    let s : Source = source_of c.args.section.now c.args.strings.now in
    let one : IsChain s c.args.depth c.args.typed = c.in_ok-before.ensures.chain on in
    one.plain 64
