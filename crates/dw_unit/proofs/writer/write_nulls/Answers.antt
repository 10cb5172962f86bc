use Rattle.std.proofs.Common.{ℕ, List, Option, subst}
use Rattle.std.proofs.lemmas.Result.{err_from_is_err_and}
use Rattle.dw_leb.specs.Number.{uleb}
use Rattle.dw_leb.specs.Watch.{inner_of}
use Rattle.dw_leb.specs.PartlyWritten.{PartlyWritten, partly_step, partly_fails}
use Rattle.dw_abbrev.specs.Table.{zero_of}
use Rattle.dw_tree.specs.Tree.{nulls, AreNulls}
use Rattle.dw_unit.proofs.writer.write_nulls.Goals as goal

pub returns-in_err-write_null-clause-written : goal.returns-in_err-write_null-clause-written
returns-in_err-write_null-clause-written g c =
    let p = err_from_is_err_and c.from_residual.result c.from_residual.ensures.1 in
    let a : Option (List ℕ) = g.W.Write.contents (inner_of c.args.writer.now) in
    let b : Option (List ℕ) = g.W.Write.contents (inner_of c.loop-width.writer) in
    let d : Option (List ℕ) = g.W.Write.contents (inner_of c.write_null.new.writer) in
    let all = nulls c.args.widths.now in
    let t = subst (λ (ws : List ℕ). PartlyWritten a b (nulls ws) all) c.in-Some.ensures.cases.0 c.loop-width.invariant.written in
    rw p.1 (partly_fails a b d (uleb.spell (zero_of c.in-Some.width.now)) (nulls c.in-Some.others.now) all t c.in_err-write_null.ensures.written)

pub loop-width-preserved : goal.loop-width-preserved
loop-width-preserved g c =
    let a : Option (List ℕ) = g.W.Write.contents (inner_of c.args.writer.now) in
    let b : Option (List ℕ) = g.W.Write.contents (inner_of c.loop-width.writer) in
    let d : Option (List ℕ) = g.W.Write.contents (inner_of c.write_null.new.writer) in
    let all = nulls c.args.widths.now in
    let t = subst (λ (ws : List ℕ). PartlyWritten a b (nulls ws) all) c.in-Some.ensures.cases.0 c.loop-width.invariant.written in
    let fits = subst AreNulls c.in-Some.ensures.cases.0 c.loop-width.invariant.fits in
    record {
      written = partly_step a b d (uleb.spell (zero_of c.in-Some.width.now)) (nulls c.in-Some.others.now) all t c.in_ok-write_null.ensures.written;
      fits = fits.1;
      clear = c.in_ok-write_null.ensures.fault;
    }
