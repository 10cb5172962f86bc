use Rattle.dw_abbrev.specs.declared.pair.Pair.{Pair as RustPair}
use Rattle.std.specs.Prelude.{map}
use Rattle.std.specs.Io.KnownBytes.{Appends}
use Rattle.dw_abbrev.specs.PairView.{pair_of}
use Rattle.std.proofs.Common.{ℕ, List, Option, ◌++◌, subst}
use Rattle.dw_leb.specs.Watch.{inner_of, AppendsFront}
use Rattle.dw_leb.specs.Transfers.{wrote_then, wrote_err}
use Rattle.dw_abbrev.specs.Table.{Declaration}
use Rattle.dw_abbrev.specs.Spelling.{head_bytes, pairs_bytes, zeros_bytes}
use Rattle.dw_abbrev.proofs.decl.Decl.write.Goals as goal

pub returns-in_err-write_pairs-clause-written : goal.returns-in_err-write_pairs-clause-written
returns-in_err-write_pairs-clause-written g c =
    let i = c.self.inside in
    let d : Declaration = c.args.self.now in
    let a : Option (List ℕ) = g.W.Write.contents (inner_of c.args.writer.now) in
    let b : Option (List ℕ) = g.W.Write.contents (inner_of c.write_head.new.writer) in
    let e : Option (List ℕ) = g.W.Write.contents (inner_of c.write_pairs.new.writer) in
    let r = c.from_residual-in_err-write_pairs.result in
    let pairs : AppendsFront b e (pairs_bytes d.pairs) = rw (← c.self.view_is) (subst (λ (ps : List RustPair). AppendsFront b e (pairs_bytes (map pair_of ps))) c.as_slice.ensures.value c.in_err-write_pairs.ensures.written) in
    wrote_then a b e (head_bytes d) (pairs_bytes d.pairs ++ zeros_bytes d) r c.in_ok-write_head.ensures.written
    (wrote_err b e (pairs_bytes d.pairs) (zeros_bytes d) r c.from_residual-in_err-write_pairs.ensures.0 pairs)

pub returns-clause-written : goal.returns-clause-written
returns-clause-written g c =
    let i = c.self.inside in
    let d : Declaration = c.args.self.now in
    let a : Option (List ℕ) = g.W.Write.contents (inner_of c.args.writer.now) in
    let b : Option (List ℕ) = g.W.Write.contents (inner_of c.write_head.new.writer) in
    let e : Option (List ℕ) = g.W.Write.contents (inner_of c.write_pairs.new.writer) in
    let f : Option (List ℕ) = g.W.Write.contents (inner_of c.write_zeros.new.writer) in
    let r = c.write_zeros.result in
    let pairs : Appends b e (pairs_bytes d.pairs) = rw (← c.self.view_is) (subst (λ (ps : List RustPair). Appends b e (pairs_bytes (map pair_of ps))) c.as_slice.ensures.value c.in_ok-write_pairs.ensures.written) in
    wrote_then a b f (head_bytes d) (pairs_bytes d.pairs ++ zeros_bytes d) r c.in_ok-write_head.ensures.written
    (wrote_then b e f (pairs_bytes d.pairs) (zeros_bytes d) r pairs c.write_zeros.ensures.written)
