use Rattle.std.proofs.Common.{◌≡◌, ◌<◌, ◌-◌, ◌^◌, ◌∙◌, Bool, length, refl, sym, subst}
use Rattle.std.proofs.lemmas.Result.{err_from_is_err_and}
use Rattle.dw_leb.specs.Watch.{inner_of}
use Rattle.dw_leb.specs.declared.errors.ReadError.{ReadError}
use Rattle.dw_section.specs.Reads.{TakesSection, AddsItem, AddsNext, TakesNoItem}
use Rattle.dw_section.specs.Section.{WholeSection, section_bytes}
use Rattle.dw_section.proofs.SectionReads.{TakenSoFar, none_taken, ends_there, one_taken, grows, all_taken, item_fails, item_kept, said_there}
use Rattle.dw_section.proofs.reader.read_items.Goals as goal

pub loop-taken-init : goal.loop-taken-init
loop-taken-init g c =
    let old = g.R.Read.remaining (inner_of c.args.reader.now) in
    record {
      taken = subst (λ (s : WholeSection). TakenSoFar c.args.versions c.args.order c.args.tables.now old old s) (sym c.new_as-section.ensures) (none_taken c.args.versions c.args.order c.args.tables.now old);
      tables = refl;
      clear = c.requires;
    }

pub next_item-requires-clause-clear : goal.next_item-requires-clause-clear
next_item-requires-clause-clear g c = c.loop-taken.invariant.clear

pub next_item-requires-clause-there : goal.next_item-requires-clause-there
next_item-requires-clause-there g c =
    ends_there c.args.versions c.args.order c.args.tables.now _ (g.R.Read.remaining (inner_of c.loop-taken.reader)) (g.R.Read.remaining (inner_of c.loop-taken.reader)) c.loop-taken.section c.loop-taken.invariant.taken c.size.result c.size.ensures.size

pub returns-in_err-more-clause-broken : goal.returns-in_err-more-clause-broken
returns-in_err-more-clause-broken g c =
    let p = err_from_is_err_and c.from_residual.result c.from_residual.ensures.1 in
    let i = c.loop-taken.invariant in
    let e : ReadError = c.in_err-more.field-0.0 in
    let old = g.R.Read.remaining (inner_of c.args.reader.now) in
    let mid = g.R.Read.remaining (inner_of c.loop-taken.reader) in
    let new = g.R.Read.remaining (inner_of c.next_item.new.reader) in
    let fails = said_there (λ t q. TakesNoItem c.args.versions c.args.order t q mid new e) c.loop-taken.tables c.args.tables.now c.size.result (length (section_bytes c.loop-taken.section)) i.tables c.size.ensures.size c.in_err-more.ensures.broken in
    rw (p.1, p.2) (item_fails c.args.versions c.args.order c.args.tables.now old mid new c.loop-taken.section i.taken e fails)

pub returns-in_err-more-clause-memory : goal.returns-in_err-more-clause-memory
returns-in_err-more-clause-memory g c =
    let p = err_from_is_err_and c.from_residual.result c.from_residual.ensures.1 in
    let old = g.R.Read.remaining (inner_of c.args.reader.now) in
    let mid = g.R.Read.remaining (inner_of c.loop-taken.reader) in
    let new = g.R.Read.remaining (inner_of c.next_item.new.reader) in
    rw (p.1, p.2) (item_kept c.args.versions c.args.order c.args.tables.now old mid new c.loop-taken.section c.loop-taken.invariant.taken Bool WholeSection c.in_err-more.field-0.0 c.in_err-more.ensures.memory)

pub returns-in_err-more-clause-tables : goal.returns-in_err-more-clause-tables
returns-in_err-more-clause-tables g c = c.in_err-more.ensures.tables ∙ c.loop-taken.invariant.tables

pub loop-taken-smaller : goal.loop-taken-smaller
loop-taken-smaller g c =
    let i = c.loop-taken.invariant in
    let s : WholeSection = c.loop-taken.section in
    let old = g.R.Read.remaining (inner_of c.args.reader.now) in
    let mid = g.R.Read.remaining (inner_of c.loop-taken.reader) in
    let new = g.R.Read.remaining (inner_of c.next_item.new.reader) in
    let t : WholeSection = c.next_item.new.section in
    let found = subst (λ (b : Bool). AddsNext c.args.versions c.args.order c.loop-taken.tables c.size.result mid new s t b) c.if-not-more.false c.in_ok-more.ensures.found in
    let added = said_there (λ u q. AddsItem c.args.versions c.args.order u q mid new s t) c.loop-taken.tables c.args.tables.now c.size.result (length (section_bytes s)) i.tables c.size.ensures.size found in
    subst (λ (w : WholeSection). 2 ^ 63 - length (section_bytes w) < 2 ^ 63 - length (section_bytes s)) (sym added.1) (grows c.args.versions c.args.order c.args.tables.now old mid new s i.taken added.0 added.2)

pub loop-taken-preserved : goal.loop-taken-preserved
loop-taken-preserved g c =
    let i = c.loop-taken.invariant in
    let s : WholeSection = c.loop-taken.section in
    let old = g.R.Read.remaining (inner_of c.args.reader.now) in
    let mid = g.R.Read.remaining (inner_of c.loop-taken.reader) in
    let new = g.R.Read.remaining (inner_of c.next_item.new.reader) in
    let t : WholeSection = c.next_item.new.section in
    let found = subst (λ (b : Bool). AddsNext c.args.versions c.args.order c.loop-taken.tables c.size.result mid new s t b) c.if-not-more.false c.in_ok-more.ensures.found in
    let added = said_there (λ u q. AddsItem c.args.versions c.args.order u q mid new s t) c.loop-taken.tables c.args.tables.now c.size.result (length (section_bytes s)) i.tables c.size.ensures.size found in
    record {
      taken = subst (λ (w : WholeSection). TakenSoFar c.args.versions c.args.order c.args.tables.now old new w) (sym added.1) (one_taken c.args.versions c.args.order c.args.tables.now old mid new s i.taken added.0 added.2);
      tables = c.in_ok-more.ensures.tables ∙ i.tables;
      clear = c.in_ok-more.ensures.fault;
    }

pub returns-then-not-more-clause-found : goal.returns-then-not-more-clause-found
returns-then-not-more-clause-found g c =
    let i = c.loop-taken.invariant in
    let s : WholeSection = c.loop-taken.section in
    let old = g.R.Read.remaining (inner_of c.args.reader.now) in
    let mid = g.R.Read.remaining (inner_of c.loop-taken.reader) in
    let new = g.R.Read.remaining (inner_of c.next_item.new.reader) in
    let t : WholeSection = c.next_item.new.section in
    let none = subst (λ (b : Bool). AddsNext c.args.versions c.args.order c.loop-taken.tables c.size.result mid new s t b) c.if-not-more.true c.in_ok-more.ensures.found in
    subst (λ (w : WholeSection). TakesSection c.args.versions c.args.order c.args.tables.now old new w) (sym none.0) (all_taken c.args.versions c.args.order c.args.tables.now old mid new s i.taken none.1 none.2)

pub returns-then-not-more-clause-tables : goal.returns-then-not-more-clause-tables
returns-then-not-more-clause-tables g c = c.in_ok-more.ensures.tables ∙ c.loop-taken.invariant.tables
