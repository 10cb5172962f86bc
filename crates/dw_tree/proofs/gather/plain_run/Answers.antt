use Rattle.std.proofs.Common.{◌≡◌, ◌∙◌, ◌++◌, List, ℕ, take, drop, map, sym, ap, append-nil, rules, length, []}
use Rattle.dw_abbrev.specs.PairView.{pair_of}
use Rattle.dw_abbrev.specs.declared.pair.Pair.{Pair as RustPair}
use Rattle.dw_tree.proofs.RunSteps.{none_left, no_items}
use Rattle.dw_tree.proofs.ToldRuns.{begins}
use Rattle.dw_tree.proofs.gather.plain_run.Goals as goal

pub front-requires-2 : goal.front-requires-2
front-requires-2 c =
    (begins c.args.ctx c.args.decl.now.pairs c.args.heads.now c.args._pool.now c.told_front-told.result.0 (map pair_of c.told_front-told.result.1.now) c.told_front-told.ensures c.requires.here).within

pub returns : goal.returns
returns c =
    let a = c.args in
    let n = c.told_front-told.result.0 in
    let others = c.told_front-told.result.1.now in
    let i = begins a.ctx a.decl.now.pairs a.heads.now a._pool.now n (map pair_of others) c.told_front-told.ensures c.requires.here in
    let no_others : length others ≡ 0 = search rules in
    let none : map pair_of others ≡ [] = ap (λ (ps : List RustPair). map pair_of ps) (no_items others no_others) in
    c.front-2.ensures
    ∙ (sym (append-nil (take n a.heads.now))
    ∙ (ap (λ (b : List ℕ). take n a.heads.now ++ b) (sym (none_left a.ctx (map pair_of others) (drop n a.heads.now) a._pool.now none)) ∙ sym i.front))
