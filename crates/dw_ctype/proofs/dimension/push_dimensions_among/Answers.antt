use Rattle.std.proofs.Common.{◌≡◌, [], ◌∷◌, ap}
use Rattle.dw_tree.specs.Lent.{children_of}
use Rattle.dw_ctype.specs.Types.{dimensions_of}
use Rattle.dw_ctype.proofs.Appending.{reaches_none, reaches_more, reaches_last, reaches_stopped, nothing}
use Rattle.dw_ctype.proofs.Pieces.{dimensions_split}
use Rattle.dw_ctype.proofs.dimension.push_dimensions_among.Goals as goal

pub loop-child-init : goal.loop-child-init
loop-child-init c =
    let same : children_of c.args.array.now ≡ c.into_iter-child-iterator.result = cc in
    reaches_none _ _ _ (ap dimensions_of same)

pub returns-in_err-push_if_subrange : goal.returns-in_err-push_if_subrange
returns-in_err-push_if_subrange c =
    reaches_stopped c.from_residual.result (dimensions_of (c.in-Some.child ∷ [])) (dimensions_of c.next.new.self)
    (dimensions_split c.in-Some.child c.next.new.self _ c.in-Some.ensures.steps) c.from_residual.ensures.1 c.loop-child.invariant c.in_err-push_if_subrange.ensures

pub loop-child-preserved : goal.loop-child-preserved
loop-child-preserved c =
    reaches_more (dimensions_of (c.in-Some.child ∷ [])) (dimensions_split c.in-Some.child c.next.new.self _ c.in-Some.ensures.steps) c.loop-child.invariant c.in_ok-push_if_subrange.ensures

pub returns : goal.returns
returns c = reaches_last (ap dimensions_of c.in-None.ensures.steps.0) c.loop-child.invariant (nothing c.loop-child.out)
