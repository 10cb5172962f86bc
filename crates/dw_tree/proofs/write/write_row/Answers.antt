use Rattle.std.proofs.Common.{◌≡◌, ℕ, List, Some, drop, map, sym, ap, ap₂, subst, ◌∙◌}
use Rattle.std.specs.Io.KnownBytes.{Appends}
use Rattle.dw_leb.specs.Watch.{inner_of, Wrote}
use Rattle.dw_leb.specs.Transfers.{wrote_then}
use Rattle.dw_leb.specs.Number.{uleb}
use Rattle.dw_abbrev.specs.PairView.{pair_of}
use Rattle.dw_abbrev.specs.Table.{Pair, declared}
use Rattle.dw_tree.specs.Tree.{values, declared_pairs}
use Rattle.dw_tree.specs.RowHeads.{Here, run_bytes}
use Rattle.dw_tree.specs.Flat.{pairs_at, code_in, row_values_at}
use Rattle.dw_tree.proofs.EntryRows.{some_entry}
use Rattle.dw_tree.proofs.WriteLemmas.{entry_row_bytes}
use Rattle.dw_tree.proofs.write.write_row.Goals as goal

pub behind-requires : goal.behind-requires
behind-requires g c = (c.requires.reads (some_entry c.args.row.kind c.in_default.not-Null)).within

pub write_values-requires-clause-here : goal.write_values-requires-clause-here
write_values-requires-clause-here g c =
    let k = c.args.ctx in
    let t = c.args.table.now in
    let r = c.args.row in
    let known : declared t r.code ≡ Some c.in-Some.decl.now = sym c.in-Some.ensures.value in
    let pairs : map pair_of c.pairs.result.now ≡ pairs_at t r.code = c.pairs.ensures ∙ ap declared_pairs (sym known) in
    let pool = c.args.pool.now in
    let hs = drop r.first c.args.heads.now in
    subst (λ (b : List ℕ). Here k (map pair_of c.pairs.result.now) b pool) (sym c.behind.ensures)
    (subst (λ (ps : List Pair). Here k ps hs pool) (sym pairs) (c.requires.reads (some_entry r.kind c.in_default.not-Null)).here)

pub returns : goal.returns
returns g c =
    let k = c.args.ctx in
    let t = c.args.table.now in
    let r = c.args.row in
    let known : declared t r.code ≡ Some c.in-Some.decl.now = sym c.in-Some.ensures.value in
    let pairs : map pair_of c.pairs.result.now ≡ pairs_at t r.code = c.pairs.ensures ∙ ap declared_pairs (sym known) in
    let pool = c.args.pool.now in
    let hs = drop r.first c.args.heads.now in
    let a = g.W.Write.contents (inner_of c.args.writer.now) in
    let m = g.W.Write.contents (inner_of c.write_all.new.writer) in
    let b = g.W.Write.contents (inner_of c.write_values.new.writer) in
    let code = uleb.spell (code_in r) in
    let vs = row_values_at k t c.args.heads.now pool r in
    let own : run_bytes k (map pair_of c.pairs.result.now) c.behind.result.now pool ≡ (values k (pairs_at t r.code)).spell vs = ap₂ (λ (ps : List Pair) (x : List ℕ). run_bytes k ps x pool) pairs c.behind.ensures in
    let first : Appends a m code = subst (λ (bytes : List ℕ). Appends a m bytes) (c.as_slice.ensures.value ∙ (c.bytes.ensures.spelling ∙ ap uleb.spell c.code.ensures)) c.in_ok-write_all.ensures.written in
    let last : Wrote m b ((values k (pairs_at t r.code)).spell vs) c.write_values.result = subst (λ (bytes : List ℕ). Wrote m b bytes c.write_values.result) own c.write_values.ensures.written in
    record {
      written = subst (λ (bytes : List ℕ). Wrote a b bytes c.write_values.result) (sym (entry_row_bytes k t r.kind (code_in r) vs c.in_default.not-Null))
          (wrote_then a m b code ((values k (pairs_at t r.code)).spell vs) c.write_values.result first last);
      fault = c.write_values.ensures.fault;
    }
