use Rattle.std.proofs.Common.{◌≡◌, ◌+◌, List, ℕ, ◌++◌, [], ◌∙◌, length, sym, ap, subst, arith, inl, inr, length-append}
use Rattle.std.proofs.lemmas.Result.{err_from_is_err_and}
use Rattle.dw_feed.specs.Taking.{behind_taken, kept_more}
use Rattle.dw_leb.specs.declared.errors.ReadError.{ReadError}
use Rattle.dw_leb.specs.Watch.{inner_of}
use Rattle.dw_feed.specs.Feed.{behind}
use Rattle.dw_section.specs.Item.{Other}
use Rattle.dw_section.specs.Reads.{TakesItem, TakesNoItem}
use Rattle.dw_section.proofs.ItemReads.{begins_size, fits_there, kept_found, kept_broken, kept_memory, kept_clear, rest_failed, other_inside, other_taken, other_ended}
use Rattle.dw_section.proofs.reader.other_item.Goals as goal

pub returns-in_err-read_up_to-clause-broken : goal.returns-in_err-read_up_to-clause-broken
returns-in_err-read_up_to-clause-broken g c = λ abbreviations.
    let p = err_from_is_err_and c.from_residual.result c.from_residual.ensures.1 in
    let begun = c.requires.begun in
    let size = begins_size c.args.start.order c.args.start.offset c.args.taken.now.items begun.format c.args.n begun.rest begun.begins in
    rw (p.1, p.2)
    (rest_failed c.args.start.versions c.args.start.order abbreviations c.args.start.offset _ _ c.args.taken.now.items _ c.in_err-read_up_to.field-0.0 c.in_err-read_up_to.ensures.bytes
    begun.format c.args.n begun.rest begun.begins (omega (arith, ap length c.as_slice.ensures.value, size, begun.field_is, begun.inside)))

pub returns-in_err-read_up_to-clause-memory : goal.returns-in_err-read_up_to-clause-memory
returns-in_err-read_up_to-clause-memory g c =
    let p = err_from_is_err_and c.from_residual.result c.from_residual.ensures.1 in
    rw (p.1, p.2) (kept_more _ _ _ c.args.taken.now.items c.in_err-read_up_to.field-0.0 (behind_taken c.args.taken.now.items _) c.in_err-read_up_to.ensures.memory)

pub returns-then-as_slice-size-clause-broken : goal.returns-then-as_slice-size-clause-broken
returns-then-as_slice-size-clause-broken g c = λ abbreviations.
    let h = c.in_ok-read_up_to.ensures.bytes in
    let bytes : List ℕ = c.args.taken.now.items in
    let now : List ℕ = c.read_up_to.new.bytes.items in
    let first : length c.as_slice.result.now ≡ length bytes = ap length c.as_slice.ensures.value in
    let second : length c.as_slice-2.result.now ≡ length now = ap length c.as_slice-2.ensures.value in
    let is : now ≡ bytes ++ h.0 = h.1 in
    let less = c.if-as_slice-size.true in
    let sum : length (bytes ++ h.0) ≡ length bytes + length h.0 = length-append bytes h.0 in
    subst (λ (e : ReadError). TakesNoItem c.args.start.versions c.args.start.order abbreviations c.args.start.offset (behind bytes (g.R.Read.remaining (inner_of c.args.reader.now))) (g.R.Read.remaining (inner_of c.read_up_to.new.reader)) e) (sym c.fault_at.ensures)
    (other_ended c.args.start.versions c.args.start.order c.args.start.offset c.args.n c.args.field _ _ bytes h.0 c.requires.begun h.3 abbreviations (omega (arith, less, second, ap length is))
    (elim h.4 [ inl whole ↦ absurd (omega (arith, whole, first, second, less, ap length is, sum)) | inr end ↦ end ]))

pub keep_taken-requires : goal.keep_taken-requires
keep_taken-requires g c =
    let h = c.in_ok-read_up_to.ensures.bytes in
    let bytes : List ℕ = c.args.taken.now.items in
    let now : List ℕ = c.read_up_to.new.bytes.items in
    let old = g.R.Read.remaining (inner_of c.args.reader.now) in
    let new = g.R.Read.remaining (inner_of c.read_up_to.new.reader) in
    let first : length c.as_slice.result.now ≡ length bytes = ap length c.as_slice.ensures.value in
    let second : length c.as_slice-2.result.now ≡ length now = ap length c.as_slice-2.ensures.value in
    let is : now ≡ bytes ++ h.0 = h.1 in
    let more = c.if-as_slice-size.false in
    let sum : length (bytes ++ h.0) ≡ length bytes + length h.0 = length-append bytes h.0 in
    let inside = other_inside c.args.start.versions c.args.start.order c.args.start.offset c.args.n c.args.field old new bytes h.0 c.requires.begun h.3 [] in
    let k : TakesItem c.args.start.versions c.args.start.order [] c.args.start.offset (behind bytes old) new (Other c.replace-bytes.result.items) =
    rw c.replace-bytes.ensures.value
    (other_taken c.args.start.versions c.args.start.order c.args.start.offset c.args.n c.args.field old new bytes h.0 c.requires.begun h.3 [] now is (omega (arith, more, first, second, ap length is, sum, h.2, inside))) in
    fits_there c.args.start.versions c.args.start.order c.args.start.offset c.args.section.now (Other c.replace-bytes.result.items) c.requires.there k.fits

pub returns-clause-found : goal.returns-clause-found
returns-clause-found g c = λ abbreviations.
    let h = c.in_ok-read_up_to.ensures.bytes in
    let bytes : List ℕ = c.args.taken.now.items in
    let now : List ℕ = c.read_up_to.new.bytes.items in
    let old = g.R.Read.remaining (inner_of c.args.reader.now) in
    let new = g.R.Read.remaining (inner_of c.read_up_to.new.reader) in
    let first : length c.as_slice.result.now ≡ length bytes = ap length c.as_slice.ensures.value in
    let second : length c.as_slice-2.result.now ≡ length now = ap length c.as_slice-2.ensures.value in
    let is : now ≡ bytes ++ h.0 = h.1 in
    let more = c.if-as_slice-size.false in
    let sum : length (bytes ++ h.0) ≡ length bytes + length h.0 = length-append bytes h.0 in
    let inside = other_inside c.args.start.versions c.args.start.order c.args.start.offset c.args.n c.args.field old new bytes h.0 c.requires.begun h.3 abbreviations in
    let k : TakesItem c.args.start.versions c.args.start.order abbreviations c.args.start.offset (behind bytes old) new (Other c.replace-bytes.result.items) =
    rw c.replace-bytes.ensures.value
    (other_taken c.args.start.versions c.args.start.order c.args.start.offset c.args.n c.args.field old new bytes h.0 c.requires.begun h.3 abbreviations now is (omega (arith, more, first, second, ap length is, sum, h.2, inside))) in
    kept_found c.args.start.versions c.args.start.order abbreviations c.args.start.offset (behind bytes old) new (Other c.replace-bytes.result.items) k c.args.section.now c.keep_taken.new.section c.keep_taken.result c.keep_taken.ensures.kept

pub returns-clause-broken : goal.returns-clause-broken
returns-clause-broken g c = λ abbreviations.
    let h = c.in_ok-read_up_to.ensures.bytes in
    let bytes : List ℕ = c.args.taken.now.items in
    let now : List ℕ = c.read_up_to.new.bytes.items in
    let old = g.R.Read.remaining (inner_of c.args.reader.now) in
    let new = g.R.Read.remaining (inner_of c.read_up_to.new.reader) in
    let first : length c.as_slice.result.now ≡ length bytes = ap length c.as_slice.ensures.value in
    let second : length c.as_slice-2.result.now ≡ length now = ap length c.as_slice-2.ensures.value in
    let is : now ≡ bytes ++ h.0 = h.1 in
    let more = c.if-as_slice-size.false in
    let sum : length (bytes ++ h.0) ≡ length bytes + length h.0 = length-append bytes h.0 in
    let inside = other_inside c.args.start.versions c.args.start.order c.args.start.offset c.args.n c.args.field old new bytes h.0 c.requires.begun h.3 abbreviations in
    let k : TakesItem c.args.start.versions c.args.start.order abbreviations c.args.start.offset (behind bytes old) new (Other c.replace-bytes.result.items) =
    rw c.replace-bytes.ensures.value
    (other_taken c.args.start.versions c.args.start.order c.args.start.offset c.args.n c.args.field old new bytes h.0 c.requires.begun h.3 abbreviations now is (omega (arith, more, first, second, ap length is, sum, h.2, inside))) in
    kept_broken c.args.start.versions c.args.start.order abbreviations c.args.start.offset (behind bytes old) new (Other c.replace-bytes.result.items) k c.keep_taken.result c.keep_taken.ensures.refused

pub returns-clause-memory : goal.returns-clause-memory
returns-clause-memory g c =
    let h = c.in_ok-read_up_to.ensures.bytes in
    let bytes : List ℕ = c.args.taken.now.items in
    let now : List ℕ = c.read_up_to.new.bytes.items in
    let old = g.R.Read.remaining (inner_of c.args.reader.now) in
    let new = g.R.Read.remaining (inner_of c.read_up_to.new.reader) in
    let first : length c.as_slice.result.now ≡ length bytes = ap length c.as_slice.ensures.value in
    let second : length c.as_slice-2.result.now ≡ length now = ap length c.as_slice-2.ensures.value in
    let is : now ≡ bytes ++ h.0 = h.1 in
    let more = c.if-as_slice-size.false in
    let sum : length (bytes ++ h.0) ≡ length bytes + length h.0 = length-append bytes h.0 in
    let inside = other_inside c.args.start.versions c.args.start.order c.args.start.offset c.args.n c.args.field old new bytes h.0 c.requires.begun h.3 [] in
    let k : TakesItem c.args.start.versions c.args.start.order [] c.args.start.offset (behind bytes old) new (Other c.replace-bytes.result.items) =
    rw c.replace-bytes.ensures.value
    (other_taken c.args.start.versions c.args.start.order c.args.start.offset c.args.n c.args.field old new bytes h.0 c.requires.begun h.3 [] now is (omega (arith, more, first, second, ap length is, sum, h.2, inside))) in
    kept_memory c.args.start.versions c.args.start.order [] c.args.start.offset (behind bytes old) new (Other c.replace-bytes.result.items) k c.keep_taken.result c.keep_taken.ensures.refused

pub returns-clause-fault : goal.returns-clause-fault
returns-clause-fault g c = c.in_ok-read_up_to.ensures.fault ∙ kept_clear c.keep_taken.result c.keep_taken.ensures.refused
