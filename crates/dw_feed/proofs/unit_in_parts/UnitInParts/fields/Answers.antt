use Rattle.std.proofs.Common.{ℕ, List, Option, drop, sym, subst, arith}
use Rattle.dw_leb.specs.Field.{are_bytes}
use Rattle.dw_feed.specs.BodyFeed.{PartialUnit}
use Rattle.dw_feed.specs.EntrySteps.{TakesOn, EntrySays}
use Rattle.dw_feed.proofs.EntryLemmas.{none_part_of, on_keeps, on_more}
use Rattle.dw_feed.proofs.unit_in_parts.UnitInParts.fields.Goals as goal

pub values-rest-requires-clause-stands : goal.values-rest-requires-clause-stands
values-rest-requires-clause-stands c =
    on_keeps c.args.self.now c.args.b.now c.requires.stands (none_part_of c.args.self.now c.requires.none_kept c.requires.between) (are_bytes c.args.b.now (λ k. omega (arith, c.type_inv.b k))) c.loop-size.self c.loop-size.rest.now c.loop-size.invariant.on

pub next_entry-requires-clause-stands : goal.next_entry-requires-clause-stands
next_entry-requires-clause-stands c =
    let old : PartialUnit = c.args.self.now in
    let b : List ℕ = c.args.b.now in
    let on = on_more old b c.loop-size.self c.loop-size.rest.now c.values-rest.new.self c.values-rest.result.now c.loop-size.invariant.on c.values-rest.ensures in
    on_keeps old b c.requires.stands (none_part_of old c.requires.none_kept c.requires.between) (are_bytes b (λ k. omega (arith, c.type_inv.b k))) c.values-rest.new.self c.values-rest.result.now on

pub loop-size-preserved : goal.loop-size-preserved
loop-size-preserved c =
    let old : PartialUnit = c.args.self.now in
    let b : List ℕ = c.args.b.now in
    let rest : List ℕ = c.values-rest.result.now in
    let on = on_more old b c.loop-size.self c.loop-size.rest.now c.values-rest.new.self rest c.loop-size.invariant.on c.values-rest.ensures in
    let says = subst (λ (o : Option ℕ). EntrySays c.values-rest.new.self rest o c.next_entry.new.self) c.in-Some.is c.in_ok-size.ensures in
    record {
      on = subst (λ (bs : List ℕ). TakesOn old b c.next_entry.new.self bs) (sym c.behind-rest.ensures) (on_more old b c.values-rest.new.self rest c.next_entry.new.self (drop c.in-Some.size rest) on says.2);
      none_kept = says.3;
      between = says.4;
    }

pub returns-in-None : goal.returns-in-None
returns-in-None c =
    let old : PartialUnit = c.args.self.now in
    let b : List ℕ = c.args.b.now in
    let rest : List ℕ = c.values-rest.result.now in
    let on = on_more old b c.loop-size.self c.loop-size.rest.now c.values-rest.new.self rest c.loop-size.invariant.on c.values-rest.ensures in
    let same = subst (λ (o : Option ℕ). EntrySays c.values-rest.new.self rest o c.next_entry.new.self) c.in-None.is c.in_ok-size.ensures in
    subst (λ (u : PartialUnit). TakesOn old b u rest) (sym same) on
