use Rattle.std.proofs.Common.{◌≡◌, ℕ, suc, ◌∷◌, List, drop, length, ap, subst, ◌∙◌, arith}
use Rattle.dw_abbrev.specs.Table.{Table}
use Rattle.dw_abbrev.specs.TableView.{joined}
use Rattle.dw_abbrev.specs.Runs.{StandTogether}
use Rattle.dw_abbrev.proofs.RunLemmas.{rows_stand, rows_left}
use Rattle.dw_abbrev.proofs.tables.Tables.keep_each.Goals as goal

-- what is left of the run, with the declaration at hand first
pub keep_from-requires-clause-stands : goal.keep_from-requires-clause-stands
keep_from-requires-clause-stands c =
    let run = c.args.run.now.value in
    let i = c.loop-start.invariant in
    let t : Table = record { declarations = joined c.args.rest.now; last_zero = c.args.last_zero.width } in
    let ds = drop c.loop-start.from run in
    let left : StandTogether c.args.self.now (c.in-Some.start.now ∷ c.in-Some.others.now) ds t = subst (λ (ss : List ℕ). StandTogether c.args.self.now ss ds t) c.in-Some.ensures.cases.0 i.left in
    let stands = rows_stand c.args.self.now (c.in-Some.start.now ∷ c.in-Some.others.now) ds left.behind t left.rows left.apart left.there in
    rw i.same stands

pub loop-start-preserved : goal.loop-start-preserved
loop-start-preserved c =
    let run = c.args.run.now.value in
    let i = c.loop-start.invariant in
    let t : Table = record { declarations = joined c.args.rest.now; last_zero = c.args.last_zero.width } in
    let ds = drop c.loop-start.from run in
    let left : StandTogether c.args.self.now (c.in-Some.start.now ∷ c.in-Some.others.now) ds t = subst (λ (ss : List ℕ). StandTogether c.args.self.now ss ds t) c.in-Some.ensures.cases.0 i.left in
    let all : length c.loop-start.left.now ≡ suc (length c.in-Some.others.now) = ap (λ (ss : List ℕ). length ss) c.in-Some.ensures.cases.0 in
    record {
      same = c.in_ok-keep_from.ensures ∙ i.same;
      left = rows_left c.args.self.now c.in-Some.start.now c.in-Some.others.now run c.loop-start.from t left;
      count = omega (arith, all, i.count);
    }
