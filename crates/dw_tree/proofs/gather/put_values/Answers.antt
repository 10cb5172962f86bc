use Rattle.std.proofs.Common.{◌≡◌, ◌++◌, List, ℕ, take, drop, map, refl, sym, ap, subst, ◌∙◌, append_assoc}
use Rattle.dw_abbrev.specs.PairView.{pair_of}
use Rattle.dw_abbrev.specs.declared.pair.Pair.{Pair as RustPair}
use Rattle.dw_tree.specs.RowHeads.{Here, First, run_bytes, first_bytes, behind_first}
use Rattle.dw_tree.specs.Grown.{grown_same, grown_then}
use Rattle.dw_tree.proofs.RunSteps.{first, parts, others}
use Rattle.dw_tree.proofs.ToldRuns.{begins}
use Rattle.dw_tree.proofs.gather.put_values.Goals as goal

pub whole_values-size-requires-clause-here : goal.whole_values-size-requires-clause-here
whole_values-size-requires-clause-here c =
    (begins c.args.ctx c.args.decl.now.pairs c.args.heads.now c.args.pool.now c.told_front-told.result.0 (map pair_of c.told_front-told.result.1.now) c.told_front-told.ensures c.requires.here).here

pub whole_values-size-requires-clause-within : goal.whole_values-size-requires-clause-within
whole_values-size-requires-clause-within c =
    (begins c.args.ctx c.args.decl.now.pairs c.args.heads.now c.args.pool.now c.told_front-told.result.0 (map pair_of c.told_front-told.result.1.now) c.told_front-told.ensures c.requires.here).within

pub loop-pair-init : goal.loop-pair-init
loop-pair-init c =
    let i = begins c.args.ctx c.args.decl.now.pairs c.args.heads.now c.args.pool.now c.told_front-told.result.0 (map pair_of c.told_front-told.result.1.now) c.told_front-told.ensures c.requires.here in
    let j = c.whole_values-size.ensures in
    record {
      put = ap (λ (b : List ℕ). c.args.gathered.now.items ++ b) (i.front ∙ j.joined);
      kept = grown_same c.args.gathered.now.items c.args.gathered.now.items refl;
      here = j.here;
      within = j.within;
    }

pub put_one-requires-clause-first : goal.put_one-requires-clause-first
put_one-requires-clause-first c =
    let is = ap (λ (ps : List RustPair). map pair_of ps) c.in-Some.ensures.cases.0 in
    subst (λ (hs : List ℕ). First c.args.ctx (pair_of c.in-Some.pair.now) hs c.args.pool.now) (sym c.behind.ensures)
    (first c.args.ctx (map pair_of c.loop-pair.left.now) (pair_of c.in-Some.pair.now) (map pair_of c.in-Some.others.now) c.loop-pair.run.now c.args.pool.now c.loop-pair.size is c.loop-pair.invariant.within c.loop-pair.invariant.here)

pub whole_values-requires-clause-here : goal.whole_values-requires-clause-here
whole_values-requires-clause-here c =
    let is = ap (λ (ps : List RustPair). map pair_of ps) c.in-Some.ensures.cases.0 in
    let k = c.args.ctx in
    let pool = c.args.pool.now in
    let run = c.loop-pair.run.now in
    let size = c.loop-pair.size in
    let pair = pair_of c.in-Some.pair.now in
    let rest = map pair_of c.in-Some.others.now in
    let behind : c.in_ok-run.run'.now ≡ behind_first k pair (drop size run) pool = c.in_ok-run.ensures.rest ∙ ap (λ (hs : List ℕ). behind_first k pair hs pool) c.behind.ensures in
    subst (λ (hs : List ℕ). Here k rest hs pool) (sym behind) (others k (map pair_of c.loop-pair.left.now) pair rest run pool size is c.loop-pair.invariant.within c.loop-pair.invariant.here)

pub loop-pair-preserved : goal.loop-pair-preserved
loop-pair-preserved c =
    let k = c.args.ctx in
    let pool = c.args.pool.now in
    let run = c.loop-pair.run.now in
    let size = c.loop-pair.size in
    let pair = pair_of c.in-Some.pair.now in
    let left = map pair_of c.loop-pair.left.now in
    let rest = map pair_of c.in-Some.others.now in
    let is = ap (λ (ps : List RustPair). map pair_of ps) c.in-Some.ensures.cases.0 in
    let i = c.loop-pair.invariant in
    let before = c.loop-pair.gathered.items in
    let told = take size run in
    let own = first_bytes k pair (drop size run) pool in
    let next = run_bytes k rest (behind_first k pair (drop size run) pool) pool in
    let first_put = c.in_ok-put_bytes.ensures.put ∙ ap (λ (b : List ℕ). before ++ b) c.front.ensures in
    let both = c.in_ok-run.ensures.put
    ∙ (ap (λ (b : List ℕ). b ++ first_bytes k pair c.behind.result.now pool) first_put
    ∙ ap (λ (hs : List ℕ). (before ++ told) ++ first_bytes k pair hs pool) c.behind.ensures) in
    let behind : c.in_ok-run.run'.now ≡ behind_first k pair (drop size run) pool = c.in_ok-run.ensures.rest ∙ ap (λ (hs : List ℕ). behind_first k pair hs pool) c.behind.ensures in
    let regrouped : before ++ (told ++ (own ++ next)) ≡ ((before ++ told) ++ own) ++ next = sym (append_assoc before told (own ++ next)) ∙ sym (append_assoc (before ++ told) own next) in
    let all = i.put
    ∙ (ap (λ (b : List ℕ). before ++ (told ++ b)) (parts k left pair rest run pool size is i.within i.here)
    ∙ (regrouped ∙ ap (λ (b : List ℕ). b ++ next) (sym both))) in
    let j = c.whole_values.ensures in
    record {
      put = all ∙ (ap (λ (hs : List ℕ). c.put_one.new.gathered.items ++ run_bytes k rest hs pool) (sym behind) ∙ ap (λ (b : List ℕ). c.put_one.new.gathered.items ++ b) j.joined);
      kept = grown_then c.args.gathered.now.items c.put_bytes.new.gathered.items c.put_one.new.gathered.items
          (grown_then c.args.gathered.now.items before c.put_bytes.new.gathered.items i.kept c.put_bytes.ensures.kept) c.put_one.ensures.kept;
      here = j.here;
      within = j.within;
    }
