use Rattle.std.proofs.Common.{◌≡◌, ℕ, List, Option, ◌∷◌, subst}
use Rattle.std.proofs.lemmas.Result.{err_from_is_err_and}
use Rattle.dw_leb.specs.Watch.{inner_of}
use Rattle.dw_abbrev.specs.Table.{Declaration}
use Rattle.dw_abbrev.specs.Spelling.{declaration_bytes, declarations_bytes}
use Rattle.dw_leb.specs.PartlyWritten.{PartlyWritten, partly_step, partly_fails}
use Rattle.dw_abbrev.proofs.shared.write_decls.Goals as goal

pub loop-decl-preserved : goal.loop-decl-preserved
loop-decl-preserved g c =
    let all : List ℕ = declarations_bytes c.args.decls.now in
    let a : Option (List ℕ) = g.W.Write.contents (inner_of c.args.writer.now) in
    let b : Option (List ℕ) = g.W.Write.contents (inner_of c.loop-decl.writer) in
    let d : Option (List ℕ) = g.W.Write.contents (inner_of c.write.new.writer) in
    let t = subst (λ (ds : List Declaration). PartlyWritten a b (declarations_bytes ds) all) c.in-Some.ensures.cases.0 c.loop-decl.invariant.written in
    record {
      written = partly_step a b d (declaration_bytes c.in-Some.decl.now) (declarations_bytes c.in-Some.others.now) all t c.in_ok-write.ensures.written;
      clear = c.in_ok-write.ensures.fault;
    }

pub returns-in_err-write-clause-written : goal.returns-in_err-write-clause-written
returns-in_err-write-clause-written g c =
    let all : List ℕ = declarations_bytes c.args.decls.now in
    let a : Option (List ℕ) = g.W.Write.contents (inner_of c.args.writer.now) in
    let b : Option (List ℕ) = g.W.Write.contents (inner_of c.loop-decl.writer) in
    let d : Option (List ℕ) = g.W.Write.contents (inner_of c.write.new.writer) in
    let t = subst (λ (ds : List Declaration). PartlyWritten a b (declarations_bytes ds) all) c.in-Some.ensures.cases.0 c.loop-decl.invariant.written in
    let p = err_from_is_err_and c.from_residual.result c.from_residual.ensures.1 in
    rw p.1 (partly_fails a b d (declaration_bytes c.in-Some.decl.now) (declarations_bytes c.in-Some.others.now) all t c.in_err-write.ensures.written)
