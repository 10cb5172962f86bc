use Rattle.dw_leb.specs.declared.signed.Sleb.{Sleb}
use Rattle.std.specs.Prelude.{option_map}
use Rattle.std.specs.Io.KnownBytes.{Appends}
use Rattle.dw_leb.specs.View.{sleb_of}
use Rattle.dw_abbrev.specs.PairView.{pair_of}
use Rattle.std.proofs.Common.{ℕ, List, Option, ◌++◌, subst, sym, ap, ◌∙◌, append-nil}
use Rattle.dw_leb.specs.Number.{uleb}
use Rattle.dw_leb.specs.Watch.{inner_of, Wrote}
use Rattle.dw_leb.specs.Transfers.{appends_more, wrote_then, wrote_err}
use Rattle.dw_abbrev.specs.Spelling.{constant_bytes}
use Rattle.dw_abbrev.proofs.pair.write_pair.Goals as goal

pub returns-in_err-write_uleb-2-clause-written : goal.returns-in_err-write_uleb-2-clause-written
returns-in_err-write_uleb-2-clause-written g c =
    let p = pair_of c.args.pair in
    let a : Option (List ℕ) = g.W.Write.contents (inner_of c.args.writer.now) in
    let b : Option (List ℕ) = g.W.Write.contents (inner_of c.write_uleb.new.writer) in
    let d : Option (List ℕ) = g.W.Write.contents (inner_of c.write_uleb-2.new.writer) in
    let r = c.from_residual-in_err-write_uleb-2.result in
    wrote_then a b d (uleb.spell p.name) (uleb.spell p.form ++ constant_bytes p.constant) r c.in_ok-write_uleb.ensures.written
    (wrote_err b d (uleb.spell p.form) (constant_bytes p.constant) r c.from_residual-in_err-write_uleb-2.ensures.0 c.in_err-write_uleb-2.ensures.written)

pub returns-in-Some-clause-written : goal.returns-in-Some-clause-written
returns-in-Some-clause-written g c =
    let p = pair_of c.args.pair in
    let a : Option (List ℕ) = g.W.Write.contents (inner_of c.args.writer.now) in
    let b : Option (List ℕ) = g.W.Write.contents (inner_of c.write_uleb.new.writer) in
    let d : Option (List ℕ) = g.W.Write.contents (inner_of c.write_uleb-2.new.writer) in
    let e : Option (List ℕ) = g.W.Write.contents (inner_of c.write_sleb.new.writer) in
    let r = c.write_sleb.result in
    let last = subst (λ (s : List ℕ). Wrote d e s r) (sym (ap (λ (o : Option Sleb). constant_bytes (option_map sleb_of o)) c.in-Some.is)) c.write_sleb.ensures.written in
    wrote_then a b e (uleb.spell p.name) (uleb.spell p.form ++ constant_bytes p.constant) r c.in_ok-write_uleb.ensures.written
    (wrote_then b d e (uleb.spell p.form) (constant_bytes p.constant) r c.in_ok-write_uleb-2.ensures.written last)

pub returns-in-None-clause-written : goal.returns-in-None-clause-written
returns-in-None-clause-written g c =
    let p = pair_of c.args.pair in
    let a : Option (List ℕ) = g.W.Write.contents (inner_of c.args.writer.now) in
    let b : Option (List ℕ) = g.W.Write.contents (inner_of c.write_uleb.new.writer) in
    let d : Option (List ℕ) = g.W.Write.contents (inner_of c.write_uleb-2.new.writer) in
    let none = sym (append-nil (uleb.spell p.form)) ∙ ap (λ (o : Option Sleb). uleb.spell p.form ++ constant_bytes (option_map sleb_of o)) (sym c.in-None.is) in
    appends_more a b d (uleb.spell p.name) (uleb.spell p.form ++ constant_bytes p.constant) c.in_ok-write_uleb.ensures.written
    (subst (λ (s : List ℕ). Appends b d s) none c.in_ok-write_uleb-2.ensures.written)
