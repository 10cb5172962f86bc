use Rattle.std.proofs.Common.{◌≡◌, ℕ, List, [], ◌++◌, Option, refl, sym, ap, subst, ◌∙◌, append_assoc, append-nil}
use Rattle.std.specs.List.{AllByRecursion}
use Rattle.std.specs.Io.KnownBytes.{Appends}
use Rattle.std.proofs.lemmas.Result.{err_from_is_err_and}
use Rattle.dw_leb.specs.Watch.{inner_of, AppendsFront, Wrote}
use Rattle.dw_leb.specs.PartlyWritten.{PartlyWritten, partly_start, partly_step, partly_fails}
use Rattle.dw_abbrev.specs.Table.{Table}
use Rattle.dw_tree.specs.declared.row.Row.{Row}
use Rattle.dw_tree.specs.Row.{row_bytes, rows_bytes}
use Rattle.dw_tree.specs.Flat.{tokens_at, token_at, RowReads}
use Rattle.dw_tree.specs.DraftInvariant.{TokenFits}
use Rattle.dw_tree.proofs.RunSteps.{partly_wrote}
use Rattle.dw_tree.proofs.WriteLemmas.{rows_next, no_items}
use Rattle.dw_tree.proofs.Written.{spelled_as, fits_as, tokens_fit}
use Rattle.dw_tree.proofs.tree.EntryTree.write.Goals as goal

pub loop-row-init : goal.loop-row-init
loop-row-init g c =
    let a = c.self.inside in
    let w : Option (List ℕ) = g.W.Write.contents (inner_of c.args.writer.now) in
    let all = rows_bytes a.context a.table.value (tokens_at a.context a.table.value a.rows.items a.heads.items a.pool.items) in
    record {
      written = rw (c.new-gathered.ensures, c.as_slice-left.ensures.value) (partly_start w all);
      inside = rw c.as_slice-left.ensures.value c.self.invariant.rows_read;
      fits = rw c.as_slice-left.ensures.value (tokens_fit a c.self.invariant);
      clear = c.requires;
    }

pub returns-in_err-write_all-clause-written : goal.returns-in_err-write_all-clause-written
returns-in_err-write_all-clause-written g c =
    let a = c.self.inside in
    let p = err_from_is_err_and c.from_residual.result c.from_residual.ensures.1 in
    let x : Option (List ℕ) = g.W.Write.contents (inner_of c.args.writer.now) in
    let y : Option (List ℕ) = g.W.Write.contents (inner_of c.loop-row.writer) in
    let z : Option (List ℕ) = g.W.Write.contents (inner_of c.write_all.new.writer) in
    let all = rows_bytes a.context a.table.value (tokens_at a.context a.table.value a.rows.items a.heads.items a.pool.items) in
    let rest = rows_bytes a.context a.table.value (tokens_at a.context a.table.value c.loop-row.left.now a.heads.items a.pool.items) in
    let failed : AppendsFront y z c.loop-row.gathered.items = subst (λ (s : List ℕ). AppendsFront y z s) (c.as_slice.ensures.value ∙ c.if-not-gather.ensures.same refl) c.in_err-write_all.ensures.front in
    rw p.1 (subst (λ (s : List ℕ). AppendsFront x z s) (spelled_as a c.self.invariant c.args.self.now c.self.view_is)
    (partly_fails x y z c.loop-row.gathered.items rest all c.loop-row.invariant.written failed))

pub returns-in_err-write_all-clause-fits : goal.returns-in_err-write_all-clause-fits
returns-in_err-write_all-clause-fits g c = fits_as c.self.inside c.self.invariant c.args.self.now c.self.view_is

pub returns-in_err-write_row-clause-written : goal.returns-in_err-write_row-clause-written
returns-in_err-write_row-clause-written g c =
    let a = c.self.inside in
    let k = a.context in
    let t = a.table.value in
    let hs = a.heads.items in
    let pool = a.pool.items in
    let p = err_from_is_err_and c.from_residual-in_err-write_row.result c.from_residual-in_err-write_row.ensures.1 in
    let x : Option (List ℕ) = g.W.Write.contents (inner_of c.args.writer.now) in
    let y : Option (List ℕ) = g.W.Write.contents (inner_of c.loop-row.writer) in
    let m : Option (List ℕ) = g.W.Write.contents (inner_of c.write_all.new.writer) in
    let z : Option (List ℕ) = g.W.Write.contents (inner_of c.write_row.new.writer) in
    let all = rows_bytes k t (tokens_at k t a.rows.items hs pool) in
    let row = c.in-Some.row.now in
    let next = rows_next k t hs pool c.loop-row.left.now row c.in-Some.others.now c.in-Some.ensures.cases.0 in
    let done : Appends y m c.loop-row.gathered.items = subst (λ (s : List ℕ). Appends y m s) (c.as_slice.ensures.value ∙ c.if-not-gather.ensures.same refl) c.in_ok-write_all.ensures.ok in
    let to = subst (λ (s : List ℕ). PartlyWritten x m s all) next (partly_step x y m c.loop-row.gathered.items _ all c.loop-row.invariant.written done) in
    let one : AppendsFront m z (row_bytes k t (token_at k t hs pool row)) =
    subst (λ (q : Table). AppendsFront m z (row_bytes k q (token_at k q hs pool row))) c.deref-then-not-gather.ensures
    (subst (λ (xs : List ℕ). AppendsFront m z (row_bytes k c.deref-then-not-gather.result.now (token_at k c.deref-then-not-gather.result.now xs pool row))) c.deref-then-not-gather-2.ensures.value
    (subst (λ (ps : List ℕ). AppendsFront m z (row_bytes k c.deref-then-not-gather.result.now (token_at k c.deref-then-not-gather.result.now c.deref-then-not-gather-2.result.now ps row))) c.deref-then-not-gather-3.ensures.value c.in_err-write_row.ensures.written)) in
    rw p.1 (subst (λ (s : List ℕ). AppendsFront x z s) (spelled_as a c.self.invariant c.args.self.now c.self.view_is)
    (partly_fails x m z (row_bytes k t (token_at k t hs pool row)) (rows_bytes k t (tokens_at k t c.in-Some.others.now hs pool)) all to one))

pub returns-in_err-write_row-clause-fits : goal.returns-in_err-write_row-clause-fits
returns-in_err-write_row-clause-fits g c = fits_as c.self.inside c.self.invariant c.args.self.now c.self.view_is

pub loop-row-preserved : goal.loop-row-preserved
loop-row-preserved g c =
    let a = c.self.inside in
    let k = a.context in
    let t = a.table.value in
    let hs = a.heads.items in
    let pool = a.pool.items in
    let x : Option (List ℕ) = g.W.Write.contents (inner_of c.args.writer.now) in
    let y : Option (List ℕ) = g.W.Write.contents (inner_of c.loop-row.writer) in
    let all = rows_bytes k t (tokens_at k t a.rows.items hs pool) in
    let row = c.in-Some.row.now in
    let is = c.in-Some.ensures.cases.0 in
    let next = rows_next k t hs pool c.loop-row.left.now row c.in-Some.others.now is in
    let old = c.loop-row.gathered.items in
    let new = c.gather.new.gathered.items in
    let rest = rows_bytes k t (tokens_at k t c.in-Some.others.now hs pool) in
    let own : new ≡ old ++ row_bytes k t (token_at k t hs pool row) =
    subst (λ (q : Table). new ≡ old ++ row_bytes k q (token_at k q hs pool row)) c.deref.ensures
    (subst (λ (xs : List ℕ). new ≡ old ++ row_bytes k c.deref.result.now (token_at k c.deref.result.now xs pool row)) c.deref-in-Some.ensures.value
    (subst (λ (ps : List ℕ). new ≡ old ++ row_bytes k c.deref.result.now (token_at k c.deref.result.now c.deref-in-Some.result.now ps row)) c.deref-in-Some-2.ensures.value (c.if-not-gather.ensures.put refl))) in
    record {
      written = subst (λ (s : List ℕ). PartlyWritten x y s all)
          (ap (λ (s : List ℕ). old ++ s) next ∙ (sym (append_assoc old (row_bytes k t (token_at k t hs pool row)) rest) ∙ ap (λ (s : List ℕ). s ++ rest) (sym own))) c.loop-row.invariant.written;
      inside = (subst (λ (rs : List Row). AllByRecursion (RowReads k t hs pool) rs) is c.loop-row.invariant.inside).1;
      fits = (subst (λ (rs : List Row). AllByRecursion (TokenFits k t) (tokens_at k t rs hs pool)) is c.loop-row.invariant.fits).1;
      clear = c.loop-row.invariant.clear;
    }

pub loop-row-preserved-in_ok-write_row : goal.loop-row-preserved-in_ok-write_row
loop-row-preserved-in_ok-write_row g c =
    let a = c.self.inside in
    let k = a.context in
    let t = a.table.value in
    let hs = a.heads.items in
    let pool = a.pool.items in
    let x : Option (List ℕ) = g.W.Write.contents (inner_of c.args.writer.now) in
    let y : Option (List ℕ) = g.W.Write.contents (inner_of c.loop-row.writer) in
    let m : Option (List ℕ) = g.W.Write.contents (inner_of c.write_all.new.writer) in
    let z : Option (List ℕ) = g.W.Write.contents (inner_of c.write_row.new.writer) in
    let all = rows_bytes k t (tokens_at k t a.rows.items hs pool) in
    let row = c.in-Some.row.now in
    let is = c.in-Some.ensures.cases.0 in
    let next = rows_next k t hs pool c.loop-row.left.now row c.in-Some.others.now is in
    let done : Appends y m c.loop-row.gathered.items = subst (λ (s : List ℕ). Appends y m s) (c.as_slice.ensures.value ∙ c.if-not-gather.ensures.same refl) c.in_ok-write_all.ensures.ok in
    let to = subst (λ (s : List ℕ). PartlyWritten x m s all) next (partly_step x y m c.loop-row.gathered.items _ all c.loop-row.invariant.written done) in
    let one : Appends m z (row_bytes k t (token_at k t hs pool row)) =
    subst (λ (q : Table). Appends m z (row_bytes k q (token_at k q hs pool row))) c.deref-then-not-gather.ensures
    (subst (λ (xs : List ℕ). Appends m z (row_bytes k c.deref-then-not-gather.result.now (token_at k c.deref-then-not-gather.result.now xs pool row))) c.deref-then-not-gather-2.ensures.value
    (subst (λ (ps : List ℕ). Appends m z (row_bytes k c.deref-then-not-gather.result.now (token_at k c.deref-then-not-gather.result.now c.deref-then-not-gather-2.result.now ps row))) c.deref-then-not-gather-3.ensures.value c.in_ok-write_row.ensures.written)) in
    record {
      written = rw c.clear.ensures (partly_step x m z (row_bytes k t (token_at k t hs pool row)) (rows_bytes k t (tokens_at k t c.in-Some.others.now hs pool)) all to one);
      inside = (subst (λ (rs : List Row). AllByRecursion (RowReads k t hs pool) rs) is c.loop-row.invariant.inside).1;
      fits = (subst (λ (rs : List Row). AllByRecursion (TokenFits k t) (tokens_at k t rs hs pool)) is c.loop-row.invariant.fits).1;
      clear = c.in_ok-write_row.ensures.fault;
    }

pub returns-clause-written : goal.returns-clause-written
returns-clause-written g c =
    let a = c.self.inside in
    let x : Option (List ℕ) = g.W.Write.contents (inner_of c.args.writer.now) in
    let y : Option (List ℕ) = g.W.Write.contents (inner_of c.loop-row.writer) in
    let z : Option (List ℕ) = g.W.Write.contents (inner_of c.write_all-2.new.writer) in
    let all = rows_bytes a.context a.table.value (tokens_at a.context a.table.value a.rows.items a.heads.items a.pool.items) in
    let old = c.loop-row.gathered.items in
    let none : c.loop-row.left.now ≡ [] = no_items c.loop-row.left.now c.in_default.ensures.cases in
    let to = subst (λ (s : List ℕ). PartlyWritten x y s all) (ap (λ (rs : List Row). old ++ rows_bytes a.context a.table.value (tokens_at a.context a.table.value rs a.heads.items a.pool.items)) none ∙ append-nil old) c.loop-row.invariant.written in
    subst (λ (s : List ℕ). Wrote x z s c.write_all-2.result) (spelled_as a c.self.invariant c.args.self.now c.self.view_is)
    (partly_wrote x y z old all c.write_all-2.result to (subst (λ (s : List ℕ). Wrote y z s c.write_all-2.result) c.as_slice-2.ensures.value c.write_all-2.ensures.written))

pub returns-clause-fits : goal.returns-clause-fits
returns-clause-fits g c = fits_as c.self.inside c.self.invariant c.args.self.now c.self.view_is
