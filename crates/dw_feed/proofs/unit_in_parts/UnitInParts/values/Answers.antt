use Rattle.std.proofs.Common.{ℕ, List, sym, subst, ◌∙◌, arith}
use Rattle.dw_leb.specs.Field.{are_bytes}
use Rattle.dw_feed.specs.BodyFeed.{PartialUnit}
use Rattle.dw_feed.specs.EntrySteps.{TakesOn}
use Rattle.dw_feed.specs.FieldSteps.{keeps_stands}
use Rattle.dw_feed.proofs.EntryLemmas.{none_part_of, on_keeps, on_with, size_within, left_with, none_kept_with, free_with, inside_with, context_with, pairs_with, next_is}
use Rattle.dw_feed.proofs.unit_in_parts.UnitInParts.values.Goals as goal

pub next_value-requires-clause-next : goal.next_value-requires-clause-next
next_value-requires-clause-next c =
    let g : PartialUnit = c.loop-pair.self in
    next_is g.table g.place.unfinished c.next_pairs-pair-items.result.now c.loop-pair.pair-index c.pair-item.result c.loop-pair.invariant.pairs_are c.loop-pair-test.true c.pair-item.is

pub next_value-requires-clause-stands : goal.next_value-requires-clause-stands
next_value-requires-clause-stands c =
    let fit = are_bytes c.args.b.now (λ k. omega (arith, c.type_inv.b k)) in
    let none_there = none_part_of c.args.self.now c.requires.none_kept c.requires.between in
    keeps_stands c.loop-pair.self (on_keeps c.args.self.now c.args.b.now c.requires.stands none_there fit c.loop-pair.self c.loop-pair.rest.now c.loop-pair.invariant.on)

pub overflow_sub-lim : goal.overflow_sub-lim
overflow_sub-lim c =
    let i = c.loop-pair.invariant in
    let fit = are_bytes c.args.b.now (λ k. omega (arith, c.type_inv.b k)) in
    let none_there = none_part_of c.args.self.now c.requires.none_kept c.requires.between in
    let within = size_within c.args.self.now c.args.b.now c.requires.stands none_there fit c.loop-pair.self c.loop-pair.rest.now i.on i.inside c.in-Some.size c.next_value.new.self c.in-Some.ensures in
    omega (arith, within, i.lim_is)

pub loop-pair-preserved : goal.loop-pair-preserved
loop-pair-preserved c =
    let i = c.loop-pair.invariant in
    let fit = are_bytes c.args.b.now (λ k. omega (arith, c.type_inv.b k)) in
    let old : PartialUnit = c.args.self.now in
    let b : List ℕ = c.args.b.now in
    let g : PartialUnit = c.loop-pair.self in
    let rest : List ℕ = c.loop-pair.rest.now in
    let none_there = none_part_of old c.requires.none_kept c.requires.between in
    let lim = left_with old b c.requires.stands none_there fit g rest i.on i.inside c.in-Some.size c.next_value.new.self c.in-Some.ensures in
    record {
      on = subst (λ (bs : List ℕ). TakesOn old b c.next_value.new.self bs) (sym c.behind-rest.ensures) (on_with old b c.requires.stands none_there fit g rest i.on i.inside c.in-Some.size c.next_value.new.self c.in-Some.ensures);
      inside = inside_with old b c.requires.stands none_there fit g rest i.on i.inside c.in-Some.size c.next_value.new.self c.in-Some.ensures;
      none_kept = none_kept_with old b c.requires.stands none_there fit g rest i.on i.inside c.in-Some.size c.next_value.new.self c.in-Some.ensures;
      between = free_with old b c.requires.stands none_there fit g rest i.on i.inside c.in-Some.size c.next_value.new.self c.in-Some.ensures;
      context_is = i.context_is ∙ sym (context_with old b c.requires.stands none_there fit g rest i.on i.inside c.in-Some.size c.next_value.new.self c.in-Some.ensures);
      lim_is = omega (arith, lim, i.lim_is);
      pairs_are = pairs_with old b c.requires.stands none_there fit g rest i.on i.inside c.in-Some.size c.next_value.new.self c.in-Some.ensures c.next_pairs-pair-items.result.now c.loop-pair.pair-index i.pairs_are;
    }
