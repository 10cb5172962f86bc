use Rattle.dw_leb.specs.View.{uleb_of}
use Rattle.std.proofs.Common.{◌∙◌, ◌++◌, ℕ, List, Option, subst, ap}
use Rattle.dw_leb.specs.Number.{Unsigned, uleb}
use Rattle.dw_leb.specs.Watch.{inner_of, Wrote}
use Rattle.dw_leb.specs.Transfers.{wrote_then, wrote_err}
use Rattle.dw_abbrev.specs.Table.{Declaration, Table, zero_of, table}
use Rattle.dw_abbrev.specs.TableView.{joined}
use Rattle.dw_abbrev.specs.Spelling.{declarations_bytes}
use Rattle.dw_abbrev.proofs.DeclLemmas.{zero_is}
use Rattle.dw_abbrev.proofs.SharedLemmas.{parts_bytes}
use Rattle.dw_abbrev.proofs.table.Table.write.Goals as goal

pub returns-in_err-write_decls-clause-written : goal.returns-in_err-write_decls-clause-written
returns-in_err-write_decls-clause-written g c =
    let i = c.self.inside in
    let own = i.decls in
    let runs = i.shared.items in
    let zero_bytes = uleb.spell (zero_of i.last_zero.width) in
    let a : Option (List ℕ) = g.W.Write.contents (inner_of c.args.writer.now) in
    let b : Option (List ℕ) = g.W.Write.contents (inner_of c.write_decls.new.writer) in
    let r = c.from_residual.result in
    let all =
    ap (λ (ds : List Declaration). declarations_bytes ds ++ (declarations_bytes (joined runs) ++ zero_bytes)) c.as_slice.ensures
    ∙ (parts_bytes own runs i.last_zero.width c.self.invariant.fits ∙ ap (λ (t : Table). table.spell t) c.self.view_is) in
    subst (λ (s : List ℕ). Wrote a b s r) all
    (wrote_err a b (declarations_bytes c.as_slice.result.now) (declarations_bytes (joined runs) ++ zero_bytes) r c.from_residual.ensures.0 c.in_err-write_decls.ensures.written)

pub returns-in_err-write_shared-clause-written : goal.returns-in_err-write_shared-clause-written
returns-in_err-write_shared-clause-written g c =
    let i = c.self.inside in
    let own = i.decls in
    let runs = i.shared.items in
    let zero_bytes = uleb.spell (zero_of i.last_zero.width) in
    let a : Option (List ℕ) = g.W.Write.contents (inner_of c.args.writer.now) in
    let b : Option (List ℕ) = g.W.Write.contents (inner_of c.write_decls.new.writer) in
    let d : Option (List ℕ) = g.W.Write.contents (inner_of c.write_shared.new.writer) in
    let r = c.from_residual-in_err-write_shared.result in
    let all =
    ap (λ (ds : List Declaration). declarations_bytes ds ++ (declarations_bytes (joined c.as_slice-2.result.now) ++ zero_bytes)) c.as_slice.ensures
    ∙ (ap (λ (rs : List (List Declaration)). declarations_bytes own ++ (declarations_bytes (joined rs) ++ zero_bytes)) c.as_slice-2.ensures.value
    ∙ (parts_bytes own runs i.last_zero.width c.self.invariant.fits ∙ ap (λ (t : Table). table.spell t) c.self.view_is)) in
    let rest = wrote_err b d (declarations_bytes (joined c.as_slice-2.result.now)) zero_bytes r c.from_residual-in_err-write_shared.ensures.0 c.in_err-write_shared.ensures.written in
    subst (λ (s : List ℕ). Wrote a d s r) all (wrote_then a b d (declarations_bytes c.as_slice.result.now) (declarations_bytes (joined c.as_slice-2.result.now) ++ zero_bytes) r c.in_ok-write_decls.ensures.written rest)

pub returns-clause-written : goal.returns-clause-written
returns-clause-written g c =
    let i = c.self.inside in
    let own = i.decls in
    let runs = i.shared.items in
    let zero_bytes = uleb.spell (zero_of i.last_zero.width) in
    let a : Option (List ℕ) = g.W.Write.contents (inner_of c.args.writer.now) in
    let b : Option (List ℕ) = g.W.Write.contents (inner_of c.write_decls.new.writer) in
    let d : Option (List ℕ) = g.W.Write.contents (inner_of c.write_shared.new.writer) in
    let e : Option (List ℕ) = g.W.Write.contents (inner_of c.write_uleb.new.writer) in
    let r = c.write_uleb.result in
    let all =
    ap (λ (ds : List Declaration). declarations_bytes ds ++ (declarations_bytes (joined c.as_slice-2.result.now) ++ zero_bytes)) c.as_slice.ensures
    ∙ (ap (λ (rs : List (List Declaration)). declarations_bytes own ++ (declarations_bytes (joined rs) ++ zero_bytes)) c.as_slice-2.ensures.value
    ∙ (parts_bytes own runs i.last_zero.width c.self.invariant.fits ∙ ap (λ (t : Table). table.spell t) c.self.view_is)) in
    let last = subst (λ (n : Unsigned). Wrote d e (uleb.spell n) r) (zero_is (uleb_of i.last_zero) c.self.invariant.zero) c.write_uleb.ensures.written in
    let rest = wrote_then b d e (declarations_bytes (joined c.as_slice-2.result.now)) zero_bytes r c.in_ok-write_shared.ensures.written last in
    subst (λ (s : List ℕ). Wrote a e s r) all (wrote_then a b e (declarations_bytes c.as_slice.result.now) (declarations_bytes (joined c.as_slice-2.result.now) ++ zero_bytes) r c.in_ok-write_decls.ensures.written rest)
