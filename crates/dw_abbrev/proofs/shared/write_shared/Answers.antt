use Rattle.std.proofs.Common.{◌∙◌, ℕ, List, Option, subst, ap}
use Rattle.std.proofs.lemmas.Result.{err_from_is_err_and}
use Rattle.dw_leb.specs.Watch.{inner_of}
use Rattle.dw_leb.specs.PartlyWritten.{PartlyWritten, partly_step, partly_fails}
use Rattle.dw_abbrev.specs.Table.{Declaration}
use Rattle.dw_abbrev.specs.TableView.{joined}
use Rattle.dw_abbrev.specs.Spelling.{declarations_bytes}
use Rattle.dw_abbrev.proofs.SharedLemmas.{bytes_behind}
use Rattle.dw_abbrev.proofs.shared.write_shared.Goals as goal

pub loop-part-preserved : goal.loop-part-preserved
loop-part-preserved g c =
    let all : List ℕ = declarations_bytes (joined c.args.runs.now) in
    let a : Option (List ℕ) = g.W.Write.contents (inner_of c.args.writer.now) in
    let b : Option (List ℕ) = g.W.Write.contents (inner_of c.loop-part.writer) in
    let d : Option (List ℕ) = g.W.Write.contents (inner_of c.write.new.writer) in
    let run = c.in-Some.part.now in
    let rest = joined c.in-Some.others.now in
    let is = ap (λ (runs : List (List Declaration)). declarations_bytes (joined runs)) c.in-Some.ensures.cases.0 ∙ bytes_behind run rest in
    let t = subst (λ (s : List ℕ). PartlyWritten a b s all) is c.loop-part.invariant.written in
    record {
      written = partly_step a b d (declarations_bytes run) (declarations_bytes rest) all t c.in_ok-write.ensures.written;
      clear = c.in_ok-write.ensures.fault;
    }

pub returns-in_err-write-clause-written : goal.returns-in_err-write-clause-written
returns-in_err-write-clause-written g c =
    let all : List ℕ = declarations_bytes (joined c.args.runs.now) in
    let a : Option (List ℕ) = g.W.Write.contents (inner_of c.args.writer.now) in
    let b : Option (List ℕ) = g.W.Write.contents (inner_of c.loop-part.writer) in
    let d : Option (List ℕ) = g.W.Write.contents (inner_of c.write.new.writer) in
    let run = c.in-Some.part.now in
    let rest = joined c.in-Some.others.now in
    let is = ap (λ (runs : List (List Declaration)). declarations_bytes (joined runs)) c.in-Some.ensures.cases.0 ∙ bytes_behind run rest in
    let t = subst (λ (s : List ℕ). PartlyWritten a b s all) is c.loop-part.invariant.written in
    let p = err_from_is_err_and c.from_residual.result c.from_residual.ensures.1 in
    rw p.1 (partly_fails a b d (declarations_bytes run) (declarations_bytes rest) all t c.in_err-write.ensures.written)
