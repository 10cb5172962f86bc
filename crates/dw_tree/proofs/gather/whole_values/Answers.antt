use Rattle.std.proofs.Common.{◌≡◌, ◌≤◌, ◌-◌, ◌++◌, List, ℕ, length, take, drop, map, sym, ap, subst, ◌∙◌, arith}
use Rattle.dw_abbrev.specs.PairView.{pair_of}
use Rattle.dw_abbrev.specs.declared.pair.Pair.{Pair as RustPair}
use Rattle.std.proofs.lemmas.List.{take-append-drop, drop-append-le}
use Rattle.dw_tree.specs.WholeHeads.{IsWhole}
use Rattle.dw_tree.proofs.RunSteps.{joins_run}
use Rattle.dw_tree.proofs.gather.whole_values.Goals as goal

-- the run stands at the front of what is near, and goes on behind it
behind_near : (near run : List ℕ) (size : ℕ) → near ≡ take (length near) run → size ≤ length near → drop size run ≡ drop size near ++ drop (length near) run
behind_near near run size is le =
    ap (drop size) (sym (take-append-drop (length near) run) ∙ ap (λ (b : List ℕ). b ++ drop (length near) run) (sym is))
    ∙ drop-append-le size near (drop (length near) run) le

pub loop-pair-preserved : goal.loop-pair-preserved
loop-pair-preserved c =
    let is = ap (λ (ps : List RustPair). map pair_of ps) c.in-Some.ensures.cases.0 in
    let i = c.loop-pair.invariant in
    let run = c.args.run.now in
    let near = c.front_within-near.result.now in
    let end = c.loop-pair.end in
    let short = c.front_within-near.ensures.within in
    let within : end ≤ length run = omega (arith, i.within, short) in
    let next = c.in-Some-whole_end.ensures in
    let to = c.in-Some-whole_end.next in
    let whole = subst (λ (hs : List ℕ). IsWhole c.args.ctx c.in-Some.pair.now.form.value hs (to - end)) (sym (behind_near near run end c.front_within-near.ensures.front i.within)) (next.beyond (drop (length near) run)) in
    let j = joins_run c.args.ctx (map pair_of c.loop-pair.left.now) (pair_of c.in-Some.pair.now) (map pair_of c.in-Some.others.now) run c.args._pool.now end is within i.here to next.behind whole in
    record { joined = i.joined ∙ j.0; here = j.1; within = next.room; fewer = omega (arith, i.fewer, ap length c.in-Some.ensures.cases.0) }
