use Rattle.std.proofs.Common.{[], ◌∷◌, ap, drop, ◌+◌, refl}
use Rattle.dw_ctype.specs.Types.{dimensions_of}
use Rattle.dw_ctype.proofs.Appending.{reaches_none, reaches_more, reaches_last, reaches_stopped, nothing}
use Rattle.dw_ctype.proofs.Gathered.{one_left, none_left}
use Rattle.dw_ctype.proofs.Pieces.{dimensions_split}
use Rattle.dw_ctype.proofs.dimension.push_dimensions_of.Goals as goal

pub loop-entry-init : goal.loop-entry-init
loop-entry-init c = reaches_none _ _ _ refl

pub returns-in_err-push_if_subrange : goal.returns-in_err-push_if_subrange
returns-in_err-push_if_subrange c =
    let xs = c.args.shown.now in
    let i = c.loop-entry.entry-index in
    let e = c.entry-item.result in
    reaches_stopped c.from_residual.result (dimensions_of (e ∷ [])) (dimensions_of (drop (i + 1) xs))
    (dimensions_split e (drop (i + 1) xs) _ (one_left xs i e c.loop-entry-test.true c.entry-item.is)) c.from_residual.ensures.1 c.loop-entry.invariant c.in_err-push_if_subrange.ensures

pub loop-entry-preserved : goal.loop-entry-preserved
loop-entry-preserved c =
    let xs = c.args.shown.now in
    let i = c.loop-entry.entry-index in
    let e = c.entry-item.result in
    reaches_more (dimensions_of (e ∷ [])) (dimensions_split e (drop (i + 1) xs) _ (one_left xs i e c.loop-entry-test.true c.entry-item.is)) c.loop-entry.invariant c.in_ok-push_if_subrange.ensures

pub returns : goal.returns
returns c = reaches_last (ap dimensions_of (none_left c.args.shown.now c.loop-entry.entry-index c.loop-entry-test.false)) c.loop-entry.invariant (nothing c.loop-entry.out)
