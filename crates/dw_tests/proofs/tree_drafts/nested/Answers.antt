use Rattle.std.proofs.Common.{◌≡◌, ◌≢◌, ◌≤◌, ◌<◌, [], length, sym, subst, ◌∙◌, arith}
use Rattle.std.specs.Prelude.{IsSome}
use Rattle.dw_tree.specs.Tree.{nesting}
use Rattle.dw_tree.specs.Steps.{Growing, finished}
use Rattle.dw_tests.proofs.SampleSteps.{has_room, some_open, all_opened, all_shut}
use Rattle.dw_tests.proofs.tree_drafts.nested.Goals as goal

pub begin-requires-clause-level : goal.begin-requires-clause-level
begin-requires-clause-level c =
    subst (λ (g : Growing). length g.place.spot.above < nesting) (sym c.loop-begun.invariant.is) (has_room c.loop-begun.begun (omega (arith, c.loop-begun-test.true)))

pub closed-requires-clause-inside : goal.closed-requires-clause-inside
closed-requires-clause-inside c =
    subst (λ (g : Growing). g.place.spot.above ≢ []) (sym c.loop-ended.invariant.is) (some_open c.loop-ended.ended (omega (arith, c.loop-ended-test.true)))

pub loop-ended-init : goal.loop-ended-init
loop-ended-init c =
    let many : 4096 ≤ c.loop-begun.begun = omega (arith, c.loop-begun-test.false) in
    record { most = omega arith; is = c.loop-begun.invariant.is ∙ all_opened c.loop-begun.begun c.loop-begun.invariant.most many }

pub finish-requires : goal.finish-requires
finish-requires c =
    let many : 4096 ≤ c.loop-ended.ended = omega (arith, c.loop-ended-test.false) in
    subst (λ (g : Growing). IsSome (finished g)) (sym c.loop-ended.invariant.is) (all_shut c.loop-ended.ended c.loop-ended.invariant.most many)
