use Rattle.std.proofs.Common.{◌≡◌, List, ℕ, Option, ◌++◌, take, drop, sym, ap, subst, ◌∙◌, arith, append-nil}
use Rattle.std.specs.Prelude.{map}
use Rattle.std.proofs.lemmas.Result.{err_from_is_err_and}
use Rattle.std.specs.Io.KnownBytes.{Appends}
use Rattle.dw_leb.specs.Watch.{inner_of, AppendsFront, Wrote}
use Rattle.dw_leb.specs.PartlyWritten.{PartlyWritten, partly_step, partly_fails}
use Rattle.dw_abbrev.specs.PairView.{pair_of}
use Rattle.dw_abbrev.specs.declared.pair.Pair.{Pair as RustPair}
use Rattle.dw_tree.specs.RowHeads.{Here, First, run_bytes, first_bytes, behind_first}
use Rattle.dw_tree.proofs.RunSteps.{first, joins_run, parts, others, none_left, no_items, partly_wrote}
use Rattle.dw_tree.proofs.write.write_values.Goals as goal

pub returns-in_err-write_all-in-None-clause-written : goal.returns-in_err-write_all-in-None-clause-written
returns-in_err-write_all-in-None-clause-written g c =
    let p = err_from_is_err_and c.from_residual.result c.from_residual.ensures.1 in
    let a : Option (List ℕ) = g.W.Write.contents (inner_of c.args.writer.now) in
    let b : Option (List ℕ) = g.W.Write.contents (inner_of c.loop-pair.writer) in
    let d : Option (List ℕ) = g.W.Write.contents (inner_of c.write_all.new.writer) in
    let run = c.loop-pair.run.now in
    let size = c.loop-pair.size in
    let failed = subst (λ (s : List ℕ). AppendsFront b d s) c.front.ensures c.in_err-write_all-in-None.ensures.front in
    rw p.1 (partly_fails a b d (take size run) (run_bytes c.args.ctx (map pair_of c.loop-pair.left.now) (drop size run) c.args.pool.now) _ c.loop-pair.invariant.written failed)

pub write_one-requires-clause-first : goal.write_one-requires-clause-first
write_one-requires-clause-first g c =
    let is = ap (λ (ps : List RustPair). map pair_of ps) c.in-Some.ensures.cases.0 in
    subst (λ (hs : List ℕ). First c.args.ctx (pair_of c.in-Some.pair.now) hs c.args.pool.now) (sym c.behind.ensures)
    (first c.args.ctx (map pair_of c.loop-pair.left.now) (pair_of c.in-Some.pair.now) (map pair_of c.in-Some.others.now) c.loop-pair.run.now c.args.pool.now c.loop-pair.size is c.loop-pair.invariant.within c.loop-pair.invariant.here)

pub returns-in_err-run-in-None-clause-written : goal.returns-in_err-run-in-None-clause-written
returns-in_err-run-in-None-clause-written g c =
    let p = err_from_is_err_and c.from_residual-in_err-run-in-None.result c.from_residual-in_err-run-in-None.ensures.1 in
    let a : Option (List ℕ) = g.W.Write.contents (inner_of c.args.writer.now) in
    let b : Option (List ℕ) = g.W.Write.contents (inner_of c.loop-pair.writer) in
    let d : Option (List ℕ) = g.W.Write.contents (inner_of c.write_all.new.writer) in
    let e : Option (List ℕ) = g.W.Write.contents (inner_of c.write_one.new.writer) in
    let k = c.args.ctx in
    let pool = c.args.pool.now in
    let run = c.loop-pair.run.now in
    let size = c.loop-pair.size in
    let pair = pair_of c.in-Some.pair.now in
    let left = map pair_of c.loop-pair.left.now in
    let rest = map pair_of c.in-Some.others.now in
    let is = ap (λ (ps : List RustPair). map pair_of ps) c.in-Some.ensures.cases.0 in
    let all = run_bytes k (map pair_of c.args.pairs.now) c.args.heads.now pool in
    let done = subst (λ (s : List ℕ). Appends b d s) c.front.ensures c.in_ok-write_all-in-None.ensures.ok in
    let t = partly_step a b d (take size run) (run_bytes k left (drop size run) pool) all c.loop-pair.invariant.written done in
    let u = subst (λ (s : List ℕ). PartlyWritten a d s all) (parts k left pair rest run pool size is c.loop-pair.invariant.within c.loop-pair.invariant.here) t in
    let failed = subst (λ (hs : List ℕ). AppendsFront d e (first_bytes k pair hs pool)) c.behind.ensures c.in_err-run-in-None.ensures.written in
    rw p.1 (partly_fails a d e (first_bytes k pair (drop size run) pool) (run_bytes k rest (behind_first k pair (drop size run) pool) pool) all u failed)

pub loop-pair-preserved-in-Some-sized_end : goal.loop-pair-preserved-in-Some-sized_end
loop-pair-preserved-in-Some-sized_end g c =
    let a : Option (List ℕ) = g.W.Write.contents (inner_of c.args.writer.now) in
    let b : Option (List ℕ) = g.W.Write.contents (inner_of c.loop-pair.writer) in
    let k = c.args.ctx in
    let is = ap (λ (ps : List RustPair). map pair_of ps) c.in-Some.ensures.cases.0 in
    let j = joins_run k (map pair_of c.loop-pair.left.now) (pair_of c.in-Some.pair.now) (map pair_of c.in-Some.others.now) c.loop-pair.run.now c.args.pool.now c.loop-pair.size is c.loop-pair.invariant.within c.loop-pair.invariant.here c.in-Some-sized_end.end c.in-Some-sized_end.ensures.behind c.in-Some-sized_end.ensures.whole in
    record {
      written = subst (λ (s : List ℕ). PartlyWritten a b s (run_bytes k (map pair_of c.args.pairs.now) c.args.heads.now c.args.pool.now)) j.0 c.loop-pair.invariant.written;
      here = j.1;
      within = c.in-Some-sized_end.ensures.room;
      clear = c.loop-pair.invariant.clear;
    }

pub loop-pair-preserved : goal.loop-pair-preserved
loop-pair-preserved g c =
    let a : Option (List ℕ) = g.W.Write.contents (inner_of c.args.writer.now) in
    let b : Option (List ℕ) = g.W.Write.contents (inner_of c.loop-pair.writer) in
    let d : Option (List ℕ) = g.W.Write.contents (inner_of c.write_all.new.writer) in
    let e : Option (List ℕ) = g.W.Write.contents (inner_of c.write_one.new.writer) in
    let k = c.args.ctx in
    let pool = c.args.pool.now in
    let run = c.loop-pair.run.now in
    let size = c.loop-pair.size in
    let pair = pair_of c.in-Some.pair.now in
    let left = map pair_of c.loop-pair.left.now in
    let rest = map pair_of c.in-Some.others.now in
    let is = ap (λ (ps : List RustPair). map pair_of ps) c.in-Some.ensures.cases.0 in
    let all = run_bytes k (map pair_of c.args.pairs.now) c.args.heads.now pool in
    let done = subst (λ (s : List ℕ). Appends b d s) c.front.ensures c.in_ok-write_all-in-None.ensures.ok in
    let t = partly_step a b d (take size run) (run_bytes k left (drop size run) pool) all c.loop-pair.invariant.written done in
    let u = subst (λ (s : List ℕ). PartlyWritten a d s all) (parts k left pair rest run pool size is c.loop-pair.invariant.within c.loop-pair.invariant.here) t in
    let one = subst (λ (hs : List ℕ). Appends d e (first_bytes k pair hs pool)) c.behind.ensures c.in_ok-run-in-None.ensures.written in
    let next : c.in_ok-run-in-None.run'.now ≡ behind_first k pair (drop size run) pool = c.in_ok-run-in-None.ensures.rest ∙ ap (λ (hs : List ℕ). behind_first k pair hs pool) c.behind.ensures in
    record {
      written = subst (λ (hs : List ℕ). PartlyWritten a e (run_bytes k rest hs pool) all) (sym next) (partly_step a d e (first_bytes k pair (drop size run) pool) (run_bytes k rest (behind_first k pair (drop size run) pool) pool) all u one);
      here = subst (λ (hs : List ℕ). Here k rest hs pool) (sym next) (others k left pair rest run pool size is c.loop-pair.invariant.within c.loop-pair.invariant.here);
      within = omega arith;
      clear = c.in_ok-run-in-None.ensures.fault;
    }

pub returns-clause-written : goal.returns-clause-written
returns-clause-written g c =
    let a : Option (List ℕ) = g.W.Write.contents (inner_of c.args.writer.now) in
    let b : Option (List ℕ) = g.W.Write.contents (inner_of c.loop-pair.writer) in
    let d : Option (List ℕ) = g.W.Write.contents (inner_of c.write_all-2.new.writer) in
    let k = c.args.ctx in
    let run = c.loop-pair.run.now in
    let size = c.loop-pair.size in
    let all = run_bytes k (map pair_of c.args.pairs.now) c.args.heads.now c.args.pool.now in
    let empty = ap (λ (ps : List RustPair). map pair_of ps) (no_items c.loop-pair.left.now c.in_default.ensures.cases) in
    let last = ap (λ (s : List ℕ). take size run ++ s) (none_left k (map pair_of c.loop-pair.left.now) (drop size run) c.args.pool.now empty) ∙ append-nil (take size run) in
    partly_wrote a b d (take size run) all c.write_all-2.result (subst (λ (s : List ℕ). PartlyWritten a b s all) last c.loop-pair.invariant.written)
    (subst (λ (s : List ℕ). Wrote b d s c.write_all-2.result) c.front-2.ensures c.write_all-2.ensures.written)
