use Rattle.std.specs.Io.KnownBytes.{Appends}
use Rattle.std.proofs.Common.{ℕ, List, Option, subst}
use Rattle.dw_leb.specs.Number.{Unsigned, uleb}
use Rattle.dw_leb.specs.Watch.{inner_of, Wrote, AppendsFront}
use Rattle.dw_leb.specs.Transfers.{wrote_then, wrote_err}
use Rattle.dw_abbrev.specs.Table.{zero_of}
use Rattle.dw_abbrev.proofs.decl.Decl.write_zeros.Goals as goal

pub returns-in_err-write_uleb-clause-written : goal.returns-in_err-write_uleb-clause-written
returns-in_err-write_uleb-clause-written g c =
    let i = c.self.inside in
    let a : Option (List ℕ) = g.W.Write.contents (inner_of c.args.writer.now) in
    let b : Option (List ℕ) = g.W.Write.contents (inner_of c.write_uleb.new.writer) in
    let name = subst (λ (u : Unsigned). AppendsFront a b (uleb.spell u)) c.kept_zero.ensures c.in_err-write_uleb.ensures.written in
    rw (← c.self.view_is) (wrote_err a b (uleb.spell (zero_of i.name_zero)) (uleb.spell (zero_of i.form_zero)) c.from_residual.result c.from_residual.ensures.0 name)

pub returns-clause-written : goal.returns-clause-written
returns-clause-written g c =
    let i = c.self.inside in
    let a : Option (List ℕ) = g.W.Write.contents (inner_of c.args.writer.now) in
    let b : Option (List ℕ) = g.W.Write.contents (inner_of c.write_uleb.new.writer) in
    let d : Option (List ℕ) = g.W.Write.contents (inner_of c.write_uleb-2.new.writer) in
    let r = c.write_uleb-2.result in
    let name = subst (λ (u : Unsigned). Appends a b (uleb.spell u)) c.kept_zero.ensures c.in_ok-write_uleb.ensures.written in
    let form = subst (λ (u : Unsigned). Wrote b d (uleb.spell u) r) c.kept_zero-2.ensures c.write_uleb-2.ensures.written in
    rw (← c.self.view_is) (wrote_then a b d (uleb.spell (zero_of i.name_zero)) (uleb.spell (zero_of i.form_zero)) r name form)
