use Rattle.std.proofs.Common.{◌<◌, ℕ, length, subst, sym, arith}
use Rattle.dw_tree.specs.Lent.{entries_of}
use Rattle.dw_unit.specs.Unit.{bytes_of, tree_of}
use Rattle.dw_section.proofs.Marked.{IsFound, begins_more, first_found, later_found}
use Rattle.dw_section.proofs.entry_offsets.EntryOffsets.learn.Goals as goal

pub loop-entry-preserved : goal.loop-entry-preserved
loop-entry-preserved c =
    record {
      known = c.loop-entry.invariant.known;
      left = λ offset found. c.loop-entry.invariant.left offset (later_found c.in-Some.entry c.loop-entry.entry-iterator c.next.new.self offset c.in-Some.ensures.steps found);
    }

pub loop-entry-preserved-then-offset-size : goal.loop-entry-preserved-then-offset-size
loop-entry-preserved-then-offset-size c =
    let u = c.args.unit.now in
    let e = c.in-Some.entry in
    let offset : ℕ = c.offset-offset.result in
    let inside : offset < length (bytes_of u) = omega (arith, c.if-offset-size.true, c.size-size.ensures.size) in
    let found : IsFound e.offset (entries_of (tree_of u)) = c.loop-entry.invariant.left e.offset (first_found e c.loop-entry.entry-iterator c.next.new.self c.in-Some.ensures.steps) in
    record {
      known = begins_more u c.loop-entry.self c.mark.new.self offset c.loop-entry.invariant.known inside (subst (λ (n : ℕ). IsFound n (entries_of (tree_of u))) (sym c.offset-offset.ensures) found) c.mark.ensures;
      left = λ offset found. c.loop-entry.invariant.left offset (later_found e c.loop-entry.entry-iterator c.next.new.self offset c.in-Some.ensures.steps found);
    }
