use Rattle.std.proofs.Common.{◌≡◌, ◌∙◌, true, false, List, [], ℕ, length, sym, ap, subst, arith}
use Rattle.std.proofs.lemmas.Result.{err_from_is_err_and, IfErr-weaker}
use Rattle.dw_leb.specs.Watch.{inner_of}
use Rattle.dw_leb.specs.declared.errors.ReadError.{ReadError}
use Rattle.dw_feed.specs.Feed.{behind}
use Rattle.dw_feed.specs.Taking.{behind_taken, kept_more}
use Rattle.dw_section.specs.Item.{version_and_type}
use Rattle.dw_section.specs.Reads.{TakesNoItem}
use Rattle.dw_section.proofs.ItemReads.{begins_size, length_few, behind_field, both_taken, found_from, kept_from, kind_cut, kind_now, no_item_from, rest_failed}
use Rattle.dw_section.proofs.reader.item_behind.Goals as goal

pub returns-in_err-take_marks-clause-broken : goal.returns-in_err-take_marks-clause-broken
returns-in_err-take_marks-clause-broken g c =
    let p = err_from_is_err_and c.from_residual.result c.from_residual.ensures.1 in
    rw (p.1, p.2)
    (rest_failed c.args.start.versions c.args.start.order c.args.tables.now c.args.start.offset _ _ c.args.taken.now.items _ c.in_err-take_marks.field-0.0 c.in_err-take_marks.ensures.bytes
    c.requires.begun.format c.args.n [] c.requires.begun.begins (omega arith))

pub returns-in_err-take_marks-clause-memory : goal.returns-in_err-take_marks-clause-memory
returns-in_err-take_marks-clause-memory g c =
    let p = err_from_is_err_and c.from_residual.result c.from_residual.ensures.1 in
    rw (p.1, p.2) (kept_more _ _ _ c.args.taken.now.items c.in_err-take_marks.field-0.0 (behind_taken c.args.taken.now.items _) c.in_err-take_marks.ensures.memory)

pub whole_item-requires-clause-begun : goal.whole_item-requires-clause-begun
whole_item-requires-clause-begun g c =
    let h = c.in_ok-take_marks.ensures.bytes in
    let there =
    kind_now c.args.start.versions c.args.start.order c.args.start.offset c.args.n (length c.as_slice-field.result.now) c.args.taken.now.items h.0 c.as_slice.result.now c.as_slice-then-as_slice-field.result.now c.in-Ok-true.field-0 true
    c.requires.begun (ap length c.as_slice-field.ensures.value) h.2 (c.as_slice.ensures.value ∙ h.1) c.in-Ok-true.ensures.found c.in-Ok-true.field-0-test (c.as_slice-then-as_slice-field.ensures.value ∙ h.1) in
    (c.args.n, length c.as_slice-field.result.now, there, omega (arith, c.if-as_slice-field.true, ap length c.as_slice-in-Ok-true.ensures.value, ap length c.as_slice-then-as_slice-field.ensures.value))

pub known_item-requires-clause-few : goal.known_item-requires-clause-few
known_item-requires-clause-few g c =
    let b = c.requires.begun in
    omega (arith, c.in_ok-take_marks.ensures.few, ap length c.as_slice-in-Ok-true-2.ensures.value, begins_size c.args.start.order c.args.start.offset c.args.taken.now.items b.format c.args.n [] b.begins, length_few b.format)

pub known_item-requires-clause-begun : goal.known_item-requires-clause-begun
known_item-requires-clause-begun g c =
    let h = c.in_ok-take_marks.ensures.bytes in (
      c.args.n,
      length c.as_slice-field.result.now,
      kind_now c.args.start.versions c.args.start.order c.args.start.offset c.args.n (length c.as_slice-field.result.now) c.args.taken.now.items h.0 c.as_slice.result.now c.as_slice-in-Ok-true-2.result.now c.in-Ok-true.field-0 true
          c.requires.begun (ap length c.as_slice-field.ensures.value) h.2 (c.as_slice.ensures.value ∙ h.1) c.in-Ok-true.ensures.found c.in-Ok-true.field-0-test (c.as_slice-in-Ok-true-2.ensures.value ∙ h.1),
    )

pub other_item-requires-clause-begun : goal.other_item-requires-clause-begun
other_item-requires-clause-begun g c =
    let h = c.in_ok-take_marks.ensures.bytes in
    kind_now c.args.start.versions c.args.start.order c.args.start.offset c.args.n (length c.as_slice-field.result.now) c.args.taken.now.items h.0 c.as_slice.result.now c.take_marks.new.taken.items c.in-Ok-false.field-0 false
    c.requires.begun (ap length c.as_slice-field.ensures.value) h.2 (c.as_slice.ensures.value ∙ h.1) c.in-Ok-false.ensures.found c.in-Ok-false.field-0-test h.1

pub returns-else-as_slice-field-clause-found : goal.returns-else-as_slice-field-clause-found
returns-else-as_slice-field-clause-found g c =
    let h = c.in_ok-take_marks.ensures.bytes in
    let now : List ℕ = c.as_slice-in-Ok-true-2.result.now in
    let old = g.R.Read.remaining (inner_of c.args.reader.now) in
    let mid = g.R.Read.remaining (inner_of c.take_marks.new.reader) in
    let took = both_taken old mid c.args.taken.now.items h.0 now (c.as_slice-in-Ok-true-2.ensures.value ∙ h.1) h.3 in
    found_from c.args.start.versions c.args.start.order c.args.tables.now c.args.start.offset (behind c.args.taken.now.items old) mid _ now c.args.section.now c.known_item.new.section c.known_item.result took c.known_item.ensures.found

pub returns-else-as_slice-field-clause-broken : goal.returns-else-as_slice-field-clause-broken
returns-else-as_slice-field-clause-broken g c =
    let h = c.in_ok-take_marks.ensures.bytes in
    let now : List ℕ = c.as_slice-in-Ok-true-2.result.now in
    let old = g.R.Read.remaining (inner_of c.args.reader.now) in
    let mid = g.R.Read.remaining (inner_of c.take_marks.new.reader) in
    let took = both_taken old mid c.args.taken.now.items h.0 now (c.as_slice-in-Ok-true-2.ensures.value ∙ h.1) h.3 in
    IfErr-weaker c.known_item.result _ _ (λ e. no_item_from c.args.start.versions c.args.start.order c.args.tables.now c.args.start.offset (behind c.args.taken.now.items old) mid _ now e took) c.known_item.ensures.broken

pub returns-else-as_slice-field-clause-memory : goal.returns-else-as_slice-field-clause-memory
returns-else-as_slice-field-clause-memory g c =
    let h = c.in_ok-take_marks.ensures.bytes in
    let now : List ℕ = c.as_slice-in-Ok-true-2.result.now in
    let old = g.R.Read.remaining (inner_of c.args.reader.now) in
    let mid = g.R.Read.remaining (inner_of c.take_marks.new.reader) in
    let took = both_taken old mid c.args.taken.now.items h.0 now (c.as_slice-in-Ok-true-2.ensures.value ∙ h.1) h.3 in
    kept_from (Unit {0}) (behind c.args.taken.now.items old) mid _ now c.known_item.result took c.known_item.ensures.memory

pub returns-in-Ok-false-clause-found : goal.returns-in-Ok-false-clause-found
returns-in-Ok-false-clause-found g c =
    let h = c.in_ok-take_marks.ensures.bytes in
    let now : List ℕ = c.take_marks.new.taken.items in
    let old = g.R.Read.remaining (inner_of c.args.reader.now) in
    let mid = g.R.Read.remaining (inner_of c.take_marks.new.reader) in
    let took = both_taken old mid c.args.taken.now.items h.0 now h.1 h.3 in
    found_from c.args.start.versions c.args.start.order c.args.tables.now c.args.start.offset (behind c.args.taken.now.items old) mid _ now c.args.section.now c.other_item.new.section c.other_item.result took (c.other_item.ensures.found c.args.tables.now)

pub returns-in-Ok-false-clause-broken : goal.returns-in-Ok-false-clause-broken
returns-in-Ok-false-clause-broken g c =
    let h = c.in_ok-take_marks.ensures.bytes in
    let now : List ℕ = c.take_marks.new.taken.items in
    let old = g.R.Read.remaining (inner_of c.args.reader.now) in
    let mid = g.R.Read.remaining (inner_of c.take_marks.new.reader) in
    let took = both_taken old mid c.args.taken.now.items h.0 now h.1 h.3 in
    IfErr-weaker c.other_item.result _ _ (λ e. no_item_from c.args.start.versions c.args.start.order c.args.tables.now c.args.start.offset (behind c.args.taken.now.items old) mid _ now e took) (c.other_item.ensures.broken c.args.tables.now)

pub returns-in-Ok-false-clause-memory : goal.returns-in-Ok-false-clause-memory
returns-in-Ok-false-clause-memory g c =
    let h = c.in_ok-take_marks.ensures.bytes in
    let now : List ℕ = c.take_marks.new.taken.items in
    let old = g.R.Read.remaining (inner_of c.args.reader.now) in
    let mid = g.R.Read.remaining (inner_of c.take_marks.new.reader) in
    let took = both_taken old mid c.args.taken.now.items h.0 now h.1 h.3 in
    kept_from (Unit {0}) (behind c.args.taken.now.items old) mid _ now c.other_item.result took c.other_item.ensures.memory

pub returns-in-Err-clause-broken : goal.returns-in-Err-clause-broken
returns-in-Err-clause-broken g c =
    let h = c.in_ok-take_marks.ensures.bytes in
    let bytes : List ℕ = c.args.taken.now.items in
    let old = g.R.Read.remaining (inner_of c.args.reader.now) in
    let mid = g.R.Read.remaining (inner_of c.take_marks.new.reader) in
    let field : length c.as_slice-field.result.now ≡ length bytes = ap length c.as_slice-field.ensures.value in
    let marked = behind_field bytes h.0 c.as_slice.result.now (length c.as_slice-field.result.now) field (c.as_slice.ensures.value ∙ h.1) in
    let breaks = subst (λ (b : List ℕ). (version_and_type c.args.start.versions c.args.start.order c.args.n).Break b c.args.n c.in-Err.e.offset c.in-Err.e.reason) marked c.in-Err.ensures.broken in
    subst (λ (e : ReadError). TakesNoItem c.args.start.versions c.args.start.order c.args.tables.now c.args.start.offset (behind bytes old) mid e) (sym c.fault_at.ensures)
    (kind_cut c.args.start.versions c.args.start.order c.args.tables.now c.args.start.offset c.args.n (length c.as_slice-field.result.now) old mid bytes h.0 c.requires.begun field h.2 h.3 h.4 c.in-Err.e.offset c.in-Err.e.reason breaks)

pub returns-then-as_slice-field-clause-found : goal.returns-then-as_slice-field-clause-found
returns-then-as_slice-field-clause-found g c =
    let h = c.in_ok-take_marks.ensures.bytes in
    let now : List ℕ = c.as_slice-then-as_slice-field.result.now in
    let old = g.R.Read.remaining (inner_of c.args.reader.now) in
    let mid = g.R.Read.remaining (inner_of c.take_marks.new.reader) in
    let took = both_taken old mid c.args.taken.now.items h.0 now (c.as_slice-then-as_slice-field.ensures.value ∙ h.1) h.3 in
    found_from c.args.start.versions c.args.start.order c.args.tables.now c.args.start.offset (behind c.args.taken.now.items old) mid mid now c.args.section.now c.whole_item.new.section c.whole_item.result took (c.whole_item.ensures.found mid)

pub returns-then-as_slice-field-clause-broken : goal.returns-then-as_slice-field-clause-broken
returns-then-as_slice-field-clause-broken g c =
    let h = c.in_ok-take_marks.ensures.bytes in
    let now : List ℕ = c.as_slice-then-as_slice-field.result.now in
    let old = g.R.Read.remaining (inner_of c.args.reader.now) in
    let mid = g.R.Read.remaining (inner_of c.take_marks.new.reader) in
    let took = both_taken old mid c.args.taken.now.items h.0 now (c.as_slice-then-as_slice-field.ensures.value ∙ h.1) h.3 in
    IfErr-weaker c.whole_item.result _ _ (λ e. no_item_from c.args.start.versions c.args.start.order c.args.tables.now c.args.start.offset (behind c.args.taken.now.items old) mid mid now e took) (c.whole_item.ensures.broken mid)

pub returns-then-as_slice-field-clause-memory : goal.returns-then-as_slice-field-clause-memory
returns-then-as_slice-field-clause-memory g c =
    let h = c.in_ok-take_marks.ensures.bytes in
    let now : List ℕ = c.as_slice-then-as_slice-field.result.now in
    let old = g.R.Read.remaining (inner_of c.args.reader.now) in
    let mid = g.R.Read.remaining (inner_of c.take_marks.new.reader) in
    let took = both_taken old mid c.args.taken.now.items h.0 now (c.as_slice-then-as_slice-field.ensures.value ∙ h.1) h.3 in
    kept_from (Unit {0}) (behind c.args.taken.now.items old) mid mid now c.whole_item.result took (c.whole_item.ensures.memory mid)
