use Rattle.dw_leb.specs.View.{uleb_of}
use Rattle.std.proofs.Common.{ℕ, List, Option, ◌++◌}
use Rattle.dw_leb.specs.Watch.{inner_of}
use Rattle.dw_leb.specs.Transfers.{wrote_then, wrote_err}
use Rattle.dw_leb.specs.Number.{uleb}
use Rattle.dw_abbrev.specs.Spelling.{flag_bytes}
use Rattle.dw_abbrev.proofs.decl.Decl.write_head.Goals as goal

pub returns-in_err-write_uleb-2-clause-written : goal.returns-in_err-write_uleb-2-clause-written
returns-in_err-write_uleb-2-clause-written g c =
    let i = c.self.inside in
    let a : Option (List ℕ) = g.W.Write.contents (inner_of c.args.writer.now) in
    let b : Option (List ℕ) = g.W.Write.contents (inner_of c.write_uleb.new.writer) in
    let d : Option (List ℕ) = g.W.Write.contents (inner_of c.write_uleb-2.new.writer) in
    let r = c.from_residual-in_err-write_uleb-2.result in
    rw (← c.self.view_is) (wrote_then a b d (uleb.spell (uleb_of i.code)) (uleb.spell (uleb_of i.tag) ++ flag_bytes i.children) r c.in_ok-write_uleb.ensures.written
    (wrote_err b d (uleb.spell (uleb_of i.tag)) (flag_bytes i.children) r c.from_residual-in_err-write_uleb-2.ensures.0 c.in_err-write_uleb-2.ensures.written))

pub returns-clause-written : goal.returns-clause-written
returns-clause-written g c =
    let i = c.self.inside in
    let a : Option (List ℕ) = g.W.Write.contents (inner_of c.args.writer.now) in
    let b : Option (List ℕ) = g.W.Write.contents (inner_of c.write_uleb.new.writer) in
    let d : Option (List ℕ) = g.W.Write.contents (inner_of c.write_uleb-2.new.writer) in
    let e : Option (List ℕ) = g.W.Write.contents (inner_of c.write_flag.new.writer) in
    let r = c.write_flag.result in
    rw (← c.self.view_is) (wrote_then a b e (uleb.spell (uleb_of i.code)) (uleb.spell (uleb_of i.tag) ++ flag_bytes i.children) r c.in_ok-write_uleb.ensures.written
    (wrote_then b d e (uleb.spell (uleb_of i.tag)) (flag_bytes i.children) r c.in_ok-write_uleb-2.ensures.written c.write_flag.ensures.written))
