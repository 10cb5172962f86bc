use Rattle.std.proofs.Common.{None, [], ◌∷◌, ◌≡◌, sym, ap, subst, arith, ◌∙◌, length}
use Rattle.dw_leb.specs.Number.{Unsigned}
use Rattle.dw_tree.specs.Tree.{nesting}
use Rattle.dw_tree.specs.Steps.{Growing, begun_at, partial_in, with_value, IsPlainNext, SpellsPlain}
use Rattle.dw_tests.specs.Samples.{wide, a_size}
use Rattle.dw_tests.proofs.SampleSteps.{size_alone, size_next, size_given}
use Rattle.dw_tests.proofs.tree_drafts.sized.Goals as goal

pub begin-requires-clause-level : goal.begin-requires-clause-level
unfolding nesting
begin-requires-clause-level c = omega (arith, c.requires.level)

pub plain_value-requires-clause-between : goal.plain_value-requires-clause-between
plain_value-requires-clause-between c =
    let old = c.args.draft.now in
    let is : c.begin.new.self ≡ begun_at (wide 2 c.args.width) old = c.in_ok-begin.ensures.ok ∙ ap (λ (u : Unsigned). begun_at u old) c.in_ok-in_width.ensures in
    subst (λ (g : Growing). partial_in g.place.unfinished ≡ None) (sym is) (size_alone old c.args.width c.requires.context c.requires.table)

pub plain_value-requires-clause-spelled : goal.plain_value-requires-clause-spelled
plain_value-requires-clause-spelled c =
    let old = c.args.draft.now in
    let is : c.begin.new.self ≡ begun_at (wide 2 c.args.width) old = c.in_ok-begin.ensures.ok ∙ ap (λ (u : Unsigned). begun_at u old) c.in_ok-in_width.ensures in
    subst (λ (g : Growing). SpellsPlain g.context g.table g.place.unfinished (4 ∷ [])) (sym is) (a_size, size_next old c.args.width c.requires.context c.requires.table)

pub returns : goal.returns
returns c =
    let old = c.args.draft.now in
    let is : c.begin.new.self ≡ begun_at (wide 2 c.args.width) old = c.in_ok-begin.ensures.ok ∙ ap (λ (u : Unsigned). begun_at u old) c.in_ok-in_width.ensures in
    let next : IsPlainNext c.begin.new.self.context c.begin.new.self.table c.begin.new.self.place.unfinished a_size (4 ∷ []) =
    subst (λ (g : Growing). IsPlainNext g.context g.table g.place.unfinished a_size (4 ∷ [])) (sym is) (size_next old c.args.width c.requires.context c.requires.table) in
    c.in_ok-plain_value.ensures.ok a_size next ∙ (ap (with_value a_size) is ∙ size_given old c.args.width c.requires.context c.requires.table)
