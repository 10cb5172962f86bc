use Rattle.std.proofs.Common.{◌∙◌, refl, sym, subst}
use Rattle.dw_leb.specs.Watch.{inner_of}
use Rattle.dw_leb.specs.declared.errors.ReadError.{ReadError}
use Rattle.dw_feed.specs.Feed.{behind}
use Rattle.dw_unit.specs.Unit.{WholeUnit}
use Rattle.dw_section.specs.Item.{Known}
use Rattle.dw_section.specs.Reads.{TakesNoItem}
use Rattle.dw_section.proofs.ItemReads.{fits_there, kept_found, kept_broken, kept_memory, kept_clear, known_begun, known_taken, known_error, moved_kept}
use Rattle.dw_section.proofs.reader.known_item.Goals as goal

pub read_unit_begun-requires-clause-begun : goal.read_unit_begun-requires-clause-begun
read_unit_begun-requires-clause-begun g c = known_begun c.args.start.versions c.args.start.order c.args.start.offset c.requires.begun.0 c.requires.begun.1 c.args.taken.now c.requires.begun.2

pub keep_taken-requires : goal.keep_taken-requires
keep_taken-requires g c =
    let old = g.R.Read.remaining (inner_of c.args.reader.now) in
    let new = g.R.Read.remaining (inner_of c.read_unit_begun.new.reader) in
    let k = known_taken c.args.start.versions c.args.start.order c.args.start.offset c.requires.begun.0 c.requires.begun.1 c.args.taken.now c.requires.begun.2 c.args.tables.now old new c.in-Ok.unit c.in-Ok.ensures.found c.in-Ok.ensures.front in
    fits_there c.args.start.versions c.args.start.order c.args.start.offset c.args.section.now (Known c.in-Ok.unit) c.requires.there k.fits

pub returns-in-Ok-clause-found : goal.returns-in-Ok-clause-found
returns-in-Ok-clause-found g c =
    let old = g.R.Read.remaining (inner_of c.args.reader.now) in
    let new = g.R.Read.remaining (inner_of c.read_unit_begun.new.reader) in
    let k = known_taken c.args.start.versions c.args.start.order c.args.start.offset c.requires.begun.0 c.requires.begun.1 c.args.taken.now c.requires.begun.2 c.args.tables.now old new c.in-Ok.unit c.in-Ok.ensures.found c.in-Ok.ensures.front in
    kept_found c.args.start.versions c.args.start.order c.args.tables.now c.args.start.offset (behind c.args.taken.now old) new (Known c.in-Ok.unit) k c.args.section.now c.keep_taken.new.section c.keep_taken.result c.keep_taken.ensures.kept

pub returns-in-Ok-clause-broken : goal.returns-in-Ok-clause-broken
returns-in-Ok-clause-broken g c =
    let old = g.R.Read.remaining (inner_of c.args.reader.now) in
    let new = g.R.Read.remaining (inner_of c.read_unit_begun.new.reader) in
    let k = known_taken c.args.start.versions c.args.start.order c.args.start.offset c.requires.begun.0 c.requires.begun.1 c.args.taken.now c.requires.begun.2 c.args.tables.now old new c.in-Ok.unit c.in-Ok.ensures.found c.in-Ok.ensures.front in
    kept_broken c.args.start.versions c.args.start.order c.args.tables.now c.args.start.offset (behind c.args.taken.now old) new (Known c.in-Ok.unit) k c.keep_taken.result c.keep_taken.ensures.refused

pub returns-in-Ok-clause-memory : goal.returns-in-Ok-clause-memory
returns-in-Ok-clause-memory g c =
    let old = g.R.Read.remaining (inner_of c.args.reader.now) in
    let new = g.R.Read.remaining (inner_of c.read_unit_begun.new.reader) in
    let k = known_taken c.args.start.versions c.args.start.order c.args.start.offset c.requires.begun.0 c.requires.begun.1 c.args.taken.now c.requires.begun.2 c.args.tables.now old new c.in-Ok.unit c.in-Ok.ensures.found c.in-Ok.ensures.front in
    kept_memory c.args.start.versions c.args.start.order c.args.tables.now c.args.start.offset (behind c.args.taken.now old) new (Known c.in-Ok.unit) k c.keep_taken.result c.keep_taken.ensures.refused

pub returns-in-Ok-clause-fault : goal.returns-in-Ok-clause-fault
returns-in-Ok-clause-fault g c = c.in-Ok.ensures.fault ∙ kept_clear c.keep_taken.result c.keep_taken.ensures.refused

pub returns-in-Err-clause-broken : goal.returns-in-Err-clause-broken
returns-in-Err-clause-broken g c =
    let old = g.R.Read.remaining (inner_of c.args.reader.now) in
    let new = g.R.Read.remaining (inner_of c.read_unit_begun.new.reader) in
    subst (λ (m : ReadError). TakesNoItem c.args.start.versions c.args.start.order c.args.tables.now c.args.start.offset (behind c.args.taken.now old) new m) (sym c.moved_error.ensures)
    (known_error c.args.start.versions c.args.start.order c.args.start.offset c.requires.begun.0 c.requires.begun.1 c.args.taken.now c.requires.begun.2 c.args.tables.now old new c.in-Err.error c.in-Err.ensures.broken)

pub returns-in-Err-clause-memory : goal.returns-in-Err-clause-memory
returns-in-Err-clause-memory g c =
    let old = g.R.Read.remaining (inner_of c.args.reader.now) in
    let new = g.R.Read.remaining (inner_of c.read_unit_begun.new.reader) in
    moved_kept WholeUnit (Unit {0}) c.args.start.offset (behind c.args.taken.now old) (behind c.args.taken.now old) new c.in-Err.error c.moved_error.result c.moved_error.ensures refl c.in-Err.ensures.memory
