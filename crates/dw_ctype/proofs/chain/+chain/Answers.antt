use Rattle.std.proofs.Common.{◌≡◌, ◌∙◌, ◌<◌, ◌-◌, None, Some, refl, sym, arith}
use Rattle.dw_section.specs.Lookup.{entry}
use Rattle.dw_ctype.specs.declared.kind.Kind.TheVariants.{Marked, Qualified}
use Rattle.dw_ctype.specs.declared.typed.Typed.TheVariants.{Entry}
use Rattle.dw_ctype.specs.Types.{Source, kind_of}
use Rattle.dw_ctype.specs.View.{source_of}
use Rattle.dw_ctype.proofs.Chains.{bad_chain, bad_left, end_first, end_from, end_said, entry_chain, left_from, lost_left, marked_from, marked_left, missing_chain, missing_left, none_chain, qualified_from, qualified_said, tried_map, tried_whole, word_first}
use Rattle.dw_ctype.proofs.chain.+chain.Goals as goal

pub chain-returns-in-Missing : goal.chain-returns-in-Missing
chain-returns-in-Missing t c =
    let s : Source = source_of c.args.section.now c.args.strings.now in
    tried_whole c.left_of_word.result (missing_chain s c.args.depth c.args.typed c.requires c.in-Missing.is) (missing_left s c.args.depth c.args.typed c.args.empty c.requires c.in-Missing.is) c.left_of_word.ensures.text c.left_of_word.ensures.cut

pub chain-returns-in-Bad : goal.chain-returns-in-Bad
chain-returns-in-Bad t c =
    let s : Source = source_of c.args.section.now c.args.strings.now in
    let word = c.left_of_word-in-Bad in
    tried_whole word.result (bad_chain s c.args.depth c.args.typed c.requires c.in-Bad.is) (bad_left s c.args.depth c.args.typed c.args.empty c.requires c.in-Bad.is) word.ensures.text word.ensures.cut

pub chain-returns-in-Some : goal.chain-returns-in-Some
chain-returns-in-Some t c =
    let s : Source = source_of c.args.section.now c.args.strings.now in
    let id = c.in-Entry.id in
    let there : entry s.items id ≡ Some c.in-Some.entry = sym c.entry.ensures ∙ c.in-Some.is in
    tried_map _ _ c.chain_from.result (entry_chain s c.args.depth c.args.typed id c.in-Some.entry c.requires c.in-Entry.is there)
    (λ h. left_from s c.args.depth c.args.typed id c.in-Some.entry c.args.empty c.requires c.in-Entry.is there) c.chain_from.ensures

pub chain-returns-in-None : goal.chain-returns-in-None
chain-returns-in-None t c =
    let s : Source = source_of c.args.section.now c.args.strings.now in
    let id = c.in-Entry.id in
    let word = c.left_of_word-in-None in
    let there : entry s.items id ≡ None = sym c.entry.ensures ∙ c.in-None.is in
    tried_whole word.result (none_chain s c.args.depth c.args.typed id c.requires c.in-Entry.is there) (lost_left s c.args.depth c.args.typed id c.args.empty c.requires c.in-Entry.is there) word.ensures.text word.ensures.cut

pub chain_from-returns-in-Marked : goal.chain_from-returns-in-Marked
chain_from-returns-in-Marked t c =
    let s : Source = source_of c.args.section.now c.args.strings.now in
    let e = c.args.entry.now in
    let m = c.in-Marked.mark in
    let is : kind_of e ≡ Marked m = sym c.kind_of.ensures ∙ c.in-Marked.is in
    tried_map _ _ c.chain_and_word.result (λ h. marked_from s c.args.depth c.args.item e c.type_of-typed.result c.type_of-typed.ensures h m is)
    (λ h. marked_left s c.args.depth c.args.item e c.type_of-typed.result c.type_of-typed.ensures h m c.args.empty c.text.result.now c.text.ensures is) c.chain_and_word.ensures

pub chain_from-returns-in-Qualified : goal.chain_from-returns-in-Qualified
chain_from-returns-in-Qualified t c =
    let s : Source = source_of c.args.section.now c.args.strings.now in
    let e = c.args.entry.now in
    let q = c.in-Qualified.qualifier in
    let typed = c.type_of-typed-in-Qualified in
    let is : kind_of e ≡ Qualified q = sym c.kind_of.ensures ∙ c.in-Qualified.is in
    tried_map _ _ c.qualified_chain.result (λ h. qualified_from s c.args.depth c.args.item e typed.result typed.ensures h q is)
    (λ h. qualified_said s c.args.depth c.args.item e typed.result q c.args.empty typed.ensures is) c.qualified_chain.ensures

pub chain_from-returns-in-Named : goal.chain_from-returns-in-Named
chain_from-returns-in-Named t c =
    let s : Source = source_of c.args.section.now c.args.strings.now in
    let e = c.args.entry.now in
    let k = c.kind_of.result in
    tried_whole c.last_word.result (end_from s c.args.depth c.args.item e k (sym c.kind_of.ensures) c.in-Named.is)
    (end_said s c.args.depth c.args.item e k c.args.empty (sym c.kind_of.ensures) c.in-Named.is) c.last_word.ensures.text c.last_word.ensures.whole

pub qualified_chain-returns-in-Missing : goal.qualified_chain-returns-in-Missing
qualified_chain-returns-in-Missing t c =
    let s : Source = source_of c.args.section.now c.args.strings.now in
    let deep : 0 < c.args.depth = omega (arith, c.if-depth-lt-LEVELS_BELOW.false) in
    tried_whole c.two_words.result (missing_chain s c.args.depth c.args.typed deep c.in-Missing.is)
    (word_first s c.args.depth c.args.typed _ c.args.qualifier _ c.args.empty _ _ (rw c.in-Missing.is refl) c.text.ensures (missing_left s c.args.depth c.args.typed c.args.empty deep c.in-Missing.is)) c.two_words.ensures.text c.two_words.ensures.whole

pub qualified_chain-returns-in-Bad : goal.qualified_chain-returns-in-Bad
qualified_chain-returns-in-Bad t c =
    let s : Source = source_of c.args.section.now c.args.strings.now in
    let deep : 0 < c.args.depth = omega (arith, c.if-depth-lt-LEVELS_BELOW.false) in
    let words = c.two_words-in-Bad in
    tried_whole words.result (bad_chain s c.args.depth c.args.typed deep c.in-Bad.is)
    (word_first s c.args.depth c.args.typed _ c.args.qualifier _ c.args.empty _ _ (rw c.in-Bad.is refl) c.text-in-Bad.ensures (bad_left s c.args.depth c.args.typed c.args.empty deep c.in-Bad.is)) words.ensures.text words.ensures.whole

pub qualified_chain-returns-in-None : goal.qualified_chain-returns-in-None
qualified_chain-returns-in-None t c =
    let s : Source = source_of c.args.section.now c.args.strings.now in
    let deep : 0 < c.args.depth = omega (arith, c.if-depth-lt-LEVELS_BELOW.false) in
    let id = c.in-Entry.id in
    let there : entry s.items id ≡ None = sym c.entry.ensures ∙ c.in-None.is in
    let words = c.two_words-in-None in
    tried_whole words.result (none_chain s c.args.depth c.args.typed id deep c.in-Entry.is there)
    (word_first s c.args.depth c.args.typed _ c.args.qualifier _ c.args.empty _ _ (rw (c.in-Entry.is, there) refl) c.text-in-None.ensures (lost_left s c.args.depth c.args.typed id c.args.empty deep c.in-Entry.is there)) words.ensures.text words.ensures.whole

pub qualified_entry-returns-in-Named : goal.qualified_entry-returns-in-Named
qualified_entry-returns-in-Named t c =
    let s : Source = source_of c.args.section.now c.args.strings.now in
    let id = c.args.id in
    let e = c.args.target.now in
    let k = c.kind_of.result in
    let is : kind_of e ≡ k = sym c.kind_of.ensures in
    let deep = c.requires.deep in
    let there = c.requires.there in
    tried_whole c.word_and_last.result (entry_chain s c.args.depth (Entry id) id e deep refl there (end_from s (c.args.depth - 1) id.item e k is c.in-Named.is))
    (word_first s c.args.depth (Entry id) _ c.args.qualifier _ c.args.empty _ _ (end_first s c.args.depth 63 id.item e k (Entry id) _ c.args.qualifier c.args.empty is c.in-Named.is) c.text.ensures
    (end_said s (c.args.depth - 1) id.item e k c.args.empty is c.in-Named.is ∙ left_from s c.args.depth (Entry id) id e c.args.empty deep refl there)) c.word_and_last.ensures.text c.word_and_last.ensures.whole
