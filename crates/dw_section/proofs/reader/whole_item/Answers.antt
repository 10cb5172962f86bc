use Rattle.std.proofs.Common.{None, Err, sym, subst}
use Rattle.dw_leb.specs.Watch.{KeptSome}
use Rattle.dw_leb.specs.declared.errors.ReadError.{ReadError}
use Rattle.dw_feed.specs.Feed.{behind}
use Rattle.dw_section.specs.Item.{Known}
use Rattle.dw_section.specs.Reads.{TakesNoItem}
use Rattle.dw_section.proofs.ItemReads.{fits_there, kept_found, kept_broken, kept_memory, kept_clear}
use Rattle.dw_section.proofs.WholeItem.{whole_taken, whole_error, whole_kept}
use Rattle.dw_section.proofs.reader.whole_item.Goals as goal

pub keep_taken-requires : goal.keep_taken-requires
keep_taken-requires c =
    let k = whole_taken c.args.start.versions c.args.start.order c.args.start.offset c.requires.begun.0 c.requires.begun.1 c.args.bytes.now c.requires.begun.2 c.requires.begun.3 c.args.tables.now None c.in-Ok.unit c.in-Ok.field-0-1 c.in-Ok.ensures.found in
    fits_there c.args.start.versions c.args.start.order c.args.start.offset c.args.section.now (Known c.in-Ok.unit) c.requires.there k.fits

pub returns-in-Ok-clause-found : goal.returns-in-Ok-clause-found
returns-in-Ok-clause-found c old =
    kept_found c.args.start.versions c.args.start.order c.args.tables.now c.args.start.offset (behind c.args.bytes.now old) old (Known c.in-Ok.unit)
    (whole_taken c.args.start.versions c.args.start.order c.args.start.offset c.requires.begun.0 c.requires.begun.1 c.args.bytes.now c.requires.begun.2 c.requires.begun.3 c.args.tables.now old c.in-Ok.unit c.in-Ok.field-0-1 c.in-Ok.ensures.found)
    c.args.section.now c.keep_taken.new.section c.keep_taken.result c.keep_taken.ensures.kept

pub returns-in-Ok-clause-broken : goal.returns-in-Ok-clause-broken
returns-in-Ok-clause-broken c old =
    kept_broken c.args.start.versions c.args.start.order c.args.tables.now c.args.start.offset (behind c.args.bytes.now old) old (Known c.in-Ok.unit)
    (whole_taken c.args.start.versions c.args.start.order c.args.start.offset c.requires.begun.0 c.requires.begun.1 c.args.bytes.now c.requires.begun.2 c.requires.begun.3 c.args.tables.now old c.in-Ok.unit c.in-Ok.field-0-1 c.in-Ok.ensures.found)
    c.keep_taken.result c.keep_taken.ensures.refused

pub returns-in-Ok-clause-memory : goal.returns-in-Ok-clause-memory
returns-in-Ok-clause-memory c old =
    kept_memory c.args.start.versions c.args.start.order c.args.tables.now c.args.start.offset (behind c.args.bytes.now old) old (Known c.in-Ok.unit)
    (whole_taken c.args.start.versions c.args.start.order c.args.start.offset c.requires.begun.0 c.requires.begun.1 c.args.bytes.now c.requires.begun.2 c.requires.begun.3 c.args.tables.now old c.in-Ok.unit c.in-Ok.field-0-1 c.in-Ok.ensures.found)
    c.keep_taken.result c.keep_taken.ensures.refused

pub returns-in-Ok-clause-fault : goal.returns-in-Ok-clause-fault
returns-in-Ok-clause-fault c = sym (kept_clear c.keep_taken.result c.keep_taken.ensures.refused)

pub returns-in-Err-clause-broken : goal.returns-in-Err-clause-broken
returns-in-Err-clause-broken c old =
    subst (λ (m : ReadError). TakesNoItem c.args.start.versions c.args.start.order c.args.tables.now c.args.start.offset (behind c.args.bytes.now old) old m) (sym c.moved_error.ensures)
    (whole_error c.args.start.versions c.args.start.order c.args.start.offset c.requires.begun.0 c.requires.begun.1 c.args.bytes.now c.requires.begun.2 c.requires.begun.3 c.args.tables.now old c.in-Err.e c.in-Err.ensures.broken)

pub returns-in-Err-clause-memory : goal.returns-in-Err-clause-memory
returns-in-Err-clause-memory c old =
    subst (λ (m : ReadError). KeptSome {X = Unit {0}} (behind c.args.bytes.now old) old (Err m)) (sym c.moved_error.ensures)
    (whole_kept c.args.start.versions c.args.start.order c.args.start.offset c.requires.begun.0 c.requires.begun.1 c.args.bytes.now c.requires.begun.2 c.requires.begun.3 c.args.tables.now old c.in-Err.e)
