use Rattle.std.proofs.Common.{◌≡◌, [], ◌∷◌, None, length, sym, ap, subst, arith, ◌∙◌}
use Rattle.std.specs.Prelude.{IfSome}
use Rattle.dw_leb.specs.Number.{Unsigned}
use Rattle.dw_tree.specs.Tree.{nesting}
use Rattle.dw_tree.specs.Steps.{Growing, begun_at, partial_in, partial_attribute, started, extended, NextFits, next_bytes, next_front}
use Rattle.dw_tests.specs.Samples.{wide}
use Rattle.dw_tests.proofs.SampleSteps.{whole_name, pieces_fit, pieces_size, pieces_front}
use Rattle.dw_tests.proofs.tree_drafts.named_in_pieces.Goals as goal

pub begin-requires-clause-level : goal.begin-requires-clause-level
unfolding nesting
begin-requires-clause-level c = omega (arith, c.requires.level)

pub end_value-requires-clause-fits : goal.end_value-requires-clause-fits
end_value-requires-clause-fits c =
    let old = c.args.draft.now in
    let is : c.bytes-2.new.self ≡ whole_name old c.requires.context c.requires.table =
    c.in_ok-bytes-2.ensures.ok ∙ ap (extended (0x61 ∷ [])) (c.in_ok-bytes.ensures.ok ∙ ap (extended []) (c.in_ok-start.ensures.ok ∙ ap (started None None) (c.in_ok-begin.ensures.ok ∙ ap (λ (u : Unsigned). begun_at u old) c.in_ok-in_width.ensures))) in
    subst (λ (g : Growing). IfSome (partial_in g.place.unfinished) (λ b. NextFits g.context g.table g.place.unfinished (partial_attribute b))) (sym is) (pieces_fit old c.requires.context c.requires.table)

pub end_value-requires-clause-size : goal.end_value-requires-clause-size
end_value-requires-clause-size c =
    let old = c.args.draft.now in
    let is : c.bytes-2.new.self ≡ whole_name old c.requires.context c.requires.table =
    c.in_ok-bytes-2.ensures.ok ∙ ap (extended (0x61 ∷ [])) (c.in_ok-bytes.ensures.ok ∙ ap (extended []) (c.in_ok-start.ensures.ok ∙ ap (started None None) (c.in_ok-begin.ensures.ok ∙ ap (λ (u : Unsigned). begun_at u old) c.in_ok-in_width.ensures))) in
    subst (λ (g : Growing). IfSome (partial_in g.place.unfinished) (λ b. 2 ≡ length (next_bytes g.context g.table g.place.unfinished (partial_attribute b)))) (sym is) (pieces_size old c.requires.context c.requires.table)

pub end_value-requires-clause-front : goal.end_value-requires-clause-front
end_value-requires-clause-front c =
    let old = c.args.draft.now in
    let is : c.bytes-2.new.self ≡ whole_name old c.requires.context c.requires.table =
    c.in_ok-bytes-2.ensures.ok ∙ ap (extended (0x61 ∷ [])) (c.in_ok-bytes.ensures.ok ∙ ap (extended []) (c.in_ok-start.ensures.ok ∙ ap (started None None) (c.in_ok-begin.ensures.ok ∙ ap (λ (u : Unsigned). begun_at u old) c.in_ok-in_width.ensures))) in
    subst (λ (g : Growing). IfSome (partial_in g.place.unfinished) (λ b. [] ≡ next_front g.context g.table g.place.unfinished (partial_attribute b))) (sym is) (pieces_front old c.requires.context c.requires.table)
