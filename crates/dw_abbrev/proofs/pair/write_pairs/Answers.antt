use Rattle.std.specs.Prelude.{map}
use Rattle.dw_abbrev.specs.declared.pair.Pair.{Pair as RustPair}
use Rattle.dw_abbrev.specs.PairView.{pair_of}
use Rattle.std.proofs.Common.{◌≡◌, ◌+◌, ℕ, List, Option, [], drop, subst, arith}
use Rattle.std.proofs.lemmas.Result.{err_from_is_err_and}
use Rattle.std.proofs.Math.ListN.{drop_of_length-le}
use Rattle.dw_leb.specs.Watch.{inner_of}
use Rattle.dw_abbrev.specs.Spelling.{pair_bytes, pairs_bytes}
use Rattle.dw_leb.specs.PartlyWritten.{PartlyWritten, partly_step, partly_fails, partly_end}
use Rattle.dw_abbrev.proofs.SpellLemmas.{pairs_left_behind}
use Rattle.dw_abbrev.proofs.pair.write_pairs.Goals as goal

pub returns-in_err-write_pair-clause-written : goal.returns-in_err-write_pair-clause-written
returns-in_err-write_pair-clause-written g c =
    let ps = c.args.pairs.now in
    let a : Option (List ℕ) = g.W.Write.contents (inner_of c.args.writer.now) in
    let b : Option (List ℕ) = g.W.Write.contents (inner_of c.loop-pair.writer) in
    let d : Option (List ℕ) = g.W.Write.contents (inner_of c.write_pair.new.writer) in
    let next = pairs_left_behind ps c.loop-pair.pair-index c.pair-item.result c.loop-pair-test.true c.pair-item.is in
    let t = subst (λ (s : List ℕ). PartlyWritten a b s (pairs_bytes (map pair_of ps))) next c.loop-pair.invariant.written in
    let p = err_from_is_err_and c.from_residual.result c.from_residual.ensures.1 in
    rw p.1 (partly_fails a b d (pair_bytes (pair_of c.pair-item.result)) (pairs_bytes (map pair_of (drop (c.loop-pair.pair-index + 1) ps))) (pairs_bytes (map pair_of ps)) t c.in_err-write_pair.ensures.written)

pub loop-pair-preserved : goal.loop-pair-preserved
loop-pair-preserved g c =
    let ps = c.args.pairs.now in
    let a : Option (List ℕ) = g.W.Write.contents (inner_of c.args.writer.now) in
    let b : Option (List ℕ) = g.W.Write.contents (inner_of c.loop-pair.writer) in
    let d : Option (List ℕ) = g.W.Write.contents (inner_of c.write_pair.new.writer) in
    let next = pairs_left_behind ps c.loop-pair.pair-index c.pair-item.result c.loop-pair-test.true c.pair-item.is in
    let t = subst (λ (s : List ℕ). PartlyWritten a b s (pairs_bytes (map pair_of ps))) next c.loop-pair.invariant.written in
    record {
      written = partly_step a b d (pair_bytes (pair_of c.pair-item.result)) (pairs_bytes (map pair_of (drop (c.loop-pair.pair-index + 1) ps))) (pairs_bytes (map pair_of ps)) t c.in_ok-write_pair.ensures.written;
      clear = c.in_ok-write_pair.ensures.fault;
    }

pub returns-clause-written : goal.returns-clause-written
returns-clause-written g c =
    let ps = c.args.pairs.now in
    let a : Option (List ℕ) = g.W.Write.contents (inner_of c.args.writer.now) in
    let b : Option (List ℕ) = g.W.Write.contents (inner_of c.loop-pair.writer) in
    let none : drop c.loop-pair.pair-index ps ≡ [] = drop_of_length-le ps (omega (arith, c.loop-pair-test.false)) in
    partly_end a b (pairs_bytes (map pair_of ps)) (subst (λ (s : List RustPair). PartlyWritten a b (pairs_bytes (map pair_of s)) (pairs_bytes (map pair_of ps))) none c.loop-pair.invariant.written)
