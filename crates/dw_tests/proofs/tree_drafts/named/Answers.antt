use Rattle.std.proofs.Common.{None, [], ◌∷◌, ◌≡◌, sym, ap, subst, arith, ◌∙◌, length}
use Rattle.dw_leb.specs.Number.{Unsigned}
use Rattle.dw_tree.specs.Tree.{nesting}
use Rattle.dw_tree.specs.Steps.{Growing, begun_at, partial_in, NextFits, next_bytes, next_front}
use Rattle.dw_tests.specs.Samples.{wide, a_name}
use Rattle.dw_tests.proofs.SampleSteps.{name_alone, name_fits, name_size, name_front}
use Rattle.dw_tests.proofs.tree_drafts.named.Goals as goal

pub begin-requires-clause-level : goal.begin-requires-clause-level
unfolding nesting
begin-requires-clause-level c = omega (arith, c.requires.level)

pub value-requires-clause-fits : goal.value-requires-clause-fits
value-requires-clause-fits c =
    let old = c.args.draft.now in
    let is : c.begin.new.self ≡ begun_at (wide 1 c.args.width) old = c.in_ok-begin.ensures.ok ∙ ap (λ (u : Unsigned). begun_at u old) c.in_ok-in_width.ensures in
    subst (λ (g : Growing). NextFits g.context g.table g.place.unfinished a_name) (sym is) (name_fits old c.args.width c.requires.context c.requires.table)

pub value-requires-clause-between : goal.value-requires-clause-between
value-requires-clause-between c =
    let old = c.args.draft.now in
    let is : c.begin.new.self ≡ begun_at (wide 1 c.args.width) old = c.in_ok-begin.ensures.ok ∙ ap (λ (u : Unsigned). begun_at u old) c.in_ok-in_width.ensures in
    subst (λ (g : Growing). partial_in g.place.unfinished ≡ None) (sym is) (name_alone old c.args.width c.requires.context c.requires.table)

pub value-requires-clause-size : goal.value-requires-clause-size
value-requires-clause-size c =
    let old = c.args.draft.now in
    let is : c.begin.new.self ≡ begun_at (wide 1 c.args.width) old = c.in_ok-begin.ensures.ok ∙ ap (λ (u : Unsigned). begun_at u old) c.in_ok-in_width.ensures in
    subst (λ (g : Growing). 2 ≡ length (next_bytes g.context g.table g.place.unfinished a_name)) (sym is) (name_size old c.args.width c.requires.context c.requires.table)

pub value-requires-clause-front : goal.value-requires-clause-front
value-requires-clause-front c =
    let old = c.args.draft.now in
    let is : c.begin.new.self ≡ begun_at (wide 1 c.args.width) old = c.in_ok-begin.ensures.ok ∙ ap (λ (u : Unsigned). begun_at u old) c.in_ok-in_width.ensures in
    subst (λ (g : Growing). [] ≡ next_front g.context g.table g.place.unfinished a_name) (sym is) (name_front old c.args.width c.requires.context c.requires.table)
