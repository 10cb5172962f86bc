use Rattle.std.proofs.Common.{ℕ, List, Option, map, subst}
use Rattle.std.proofs.lemmas.Result.{err_from_is_err_and}
use Rattle.dw_leb.specs.Watch.{inner_of}
use Rattle.dw_leb.specs.PartlyWritten.{PartlyWritten, partly_step, partly_fails}
use Rattle.dw_section.specs.declared.item.Item.{Item as TheItem}
use Rattle.dw_section.specs.Item.{item_bytes}
use Rattle.dw_section.specs.ItemView.{item_of}
use Rattle.dw_section.specs.Section.{items_bytes}
use Rattle.dw_section.proofs.writer.write_items.Goals as goal

pub returns-in_err-write_item-clause-written : goal.returns-in_err-write_item-clause-written
returns-in_err-write_item-clause-written g c =
    let p = err_from_is_err_and c.from_residual.result c.from_residual.ensures.1 in
    let a : Option (List ℕ) = g.W.Write.contents (inner_of c.args.writer.now) in
    let b : Option (List ℕ) = g.W.Write.contents (inner_of c.loop-item.writer) in
    let d : Option (List ℕ) = g.W.Write.contents (inner_of c.write_item.new.writer) in
    let all = items_bytes (map item_of c.args.items.now) in
    let t = subst (λ (xs : List TheItem). PartlyWritten a b (items_bytes (map item_of xs)) all) c.in-Some.ensures.cases.0 c.loop-item.invariant.written in
    rw p.1 (partly_fails a b d (item_bytes (item_of c.in-Some.item.now)) (items_bytes (map item_of c.in-Some.others.now)) all t c.in_err-write_item.ensures.written)

pub loop-item-preserved : goal.loop-item-preserved
loop-item-preserved g c =
    let a : Option (List ℕ) = g.W.Write.contents (inner_of c.args.writer.now) in
    let b : Option (List ℕ) = g.W.Write.contents (inner_of c.loop-item.writer) in
    let d : Option (List ℕ) = g.W.Write.contents (inner_of c.write_item.new.writer) in
    let all = items_bytes (map item_of c.args.items.now) in
    let t = subst (λ (xs : List TheItem). PartlyWritten a b (items_bytes (map item_of xs)) all) c.in-Some.ensures.cases.0 c.loop-item.invariant.written in
    record {
      written = partly_step a b d (item_bytes (item_of c.in-Some.item.now)) (items_bytes (map item_of c.in-Some.others.now)) all t c.in_ok-write_item.ensures.written;
      clear = c.in_ok-write_item.ensures.fault;
    }
