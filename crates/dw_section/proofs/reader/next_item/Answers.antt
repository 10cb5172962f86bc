use Rattle.std.proofs.Common.{◌≡◌, ◌<◌, Bool, List, ℕ, length, sym, ap, subst, arith}
use Rattle.std.proofs.lemmas.Result.{err_from_is_err_and}
use Rattle.dw_leb.specs.Watch.{inner_of}
use Rattle.dw_leb.specs.Part.{Taken}
use Rattle.dw_leb.specs.Number.{initial_length, length_limit, length_size}
use Rattle.dw_leb.specs.declared.errors.Reason.{Reason}
use Rattle.dw_leb.specs.declared.errors.ReadError.{ReadError}
use Rattle.dw_section.specs.Reads.{TakesNoItem}
use Rattle.dw_section.proofs.ItemReads.{field_failed, field_refused, field_taken, adds_from, kept_error, no_item_from}
use Rattle.dw_section.proofs.reader.next_item.Goals as goal

pub returns-in_err-read_field-clause-broken : goal.returns-in_err-read_field-clause-broken
returns-in_err-read_field-clause-broken g c =
    let p = err_from_is_err_and c.from_residual.result c.from_residual.ensures.1 in
    rw (p.1, p.2) (field_failed c.args.start.versions c.args.start.order c.args.tables.now c.args.start.offset _ _ c.in_err-read_field.field-0.0 c.in_err-read_field.ensures.bytes)

pub item_behind-requires-clause-begun : goal.item_behind-requires-clause-begun
item_behind-requires-clause-begun g c =
    let bytes : List ℕ = c.read_field.new.bytes.items in
    let format = c.in-Ok.field-0-0 in
    let field = c.in_ok-read_field.ensures.bytes in
    let stands : Taken (initial_length c.args.start.order c.args.start.offset) bytes length_limit (format, c.in-Ok.n) (length_size format) =
    subst (λ (b : List ℕ). Taken (initial_length c.args.start.order c.args.start.offset) b length_limit (format, c.in-Ok.n) (length_size format)) c.as_slice-2.ensures.value c.in-Ok.ensures.found in
    field_taken c.args.start.order c.args.start.offset bytes format c.in-Ok.n field.1 stands

pub returns-in_err-item_behind-in-Ok-clause-broken : goal.returns-in_err-item_behind-in-Ok-clause-broken
returns-in_err-item_behind-in-Ok-clause-broken g c =
    let p = err_from_is_err_and c.from_residual-in_err-item_behind-in-Ok.result c.from_residual-in_err-item_behind-in-Ok.ensures.1 in
    let mid = g.R.Read.remaining (inner_of c.read_field.new.reader) in
    rw (p.1, p.2) (no_item_from c.args.start.versions c.args.start.order c.args.tables.now c.args.start.offset _ mid _ c.read_field.new.bytes.items c.in_err-item_behind-in-Ok.field-0.0 c.in_ok-read_field.ensures.bytes.0 c.in_err-item_behind-in-Ok.ensures.broken)

pub returns-in_err-item_behind-in-Ok-clause-memory : goal.returns-in_err-item_behind-in-Ok-clause-memory
returns-in_err-item_behind-in-Ok-clause-memory g c =
    let p = err_from_is_err_and c.from_residual-in_err-item_behind-in-Ok.result c.from_residual-in_err-item_behind-in-Ok.ensures.1 in
    let mid = g.R.Read.remaining (inner_of c.read_field.new.reader) in
    rw (p.1, p.2) (kept_error (Unit {0}) Bool _ mid _ c.read_field.new.bytes.items c.in_err-item_behind-in-Ok.field-0.0 c.in_ok-read_field.ensures.bytes.0 c.in_err-item_behind-in-Ok.ensures.memory)

pub returns-in_ok-item_behind-in-Ok-clause-found : goal.returns-in_ok-item_behind-in-Ok-clause-found
returns-in_ok-item_behind-in-Ok-clause-found g c =
    let mid = g.R.Read.remaining (inner_of c.read_field.new.reader) in
    adds_from c.args.start.versions c.args.start.order c.args.tables.now c.args.start.offset _ mid _ c.read_field.new.bytes.items c.args.section.now c.item_behind.new.section c.in_ok-read_field.ensures.bytes.0 c.in_ok-item_behind-in-Ok.ensures.found

pub returns-in-Err-clause-broken : goal.returns-in-Err-clause-broken
returns-in-Err-clause-broken g c =
    let bytes : List ℕ = c.read_field.new.bytes.items in
    let reason : Reason = c.in-Err.reason in
    let h = c.in_ok-read_field.ensures.bytes in
    let old = g.R.Read.remaining (inner_of c.args.reader.now) in
    let new = g.R.Read.remaining (inner_of c.read_field.new.reader) in
    let size : length c.as_slice.result.now ≡ length bytes = ap length c.as_slice.ensures.value in
    let some : 0 < length bytes = grind (arith, c.if-is_empty.ensures, size) in
    let breaks : (initial_length c.args.start.order c.args.start.offset).Break bytes length_limit 0 reason =
    subst (λ (b : List ℕ). (initial_length c.args.start.order c.args.start.offset).Break b length_limit 0 reason) c.as_slice-2.ensures.value c.in-Err.ensures.broken in
    subst (λ (e : ReadError). TakesNoItem c.args.start.versions c.args.start.order c.args.tables.now c.args.start.offset old new e) (sym c.fault_at.ensures)
    (field_refused c.args.start.versions c.args.start.order c.args.tables.now c.args.start.offset old new bytes reason h.0 h.1 h.2 some breaks)
