use Rattle.std.proofs.Common.{nat_eq, List, map, drop, ◌+◌, subst}
use Rattle.indexmap.specs.IndexSet.{contains}
use Rattle.dw_abbrev.specs.PairView.{pair_of}
use Rattle.dw_abbrev.specs.Table.{Pair}
use Rattle.dw_check.proofs.Repeating.{RepeatsSoFar, one_repeating, pairs_left}
use Rattle.dw_check.proofs.repeats.repeats_in.Goals as goal

pub loop-pair-preserved : goal.loop-pair-preserved
loop-pair-preserved c =
    let ps = c.args.pairs.now in
    let i = c.loop-pair.pair-index in
    let p = c.pair-item.result in
    let has = contains nat_eq c.loop-pair.names in
    let h = subst (λ (left : List Pair). RepeatsSoFar has c.loop-pair.repeats.items left (map pair_of ps)) (pairs_left ps i p c.loop-pair-test.true c.pair-item.is) c.loop-pair.invariant in
    let m = one_repeating has (contains nat_eq c.insert.new.self) c.loop-pair.repeats.items (pair_of p) (map pair_of (drop (i + 1) ps)) (map pair_of ps) c.in_ok-is_new.is_new h c.in_ok-is_new.ensures.added (λ q. c.in_ok-is_new.ensures.updates.0 q) in
    rw c.in_ok-push.ensures.items m
