-- A unit that is read from a reader: what follows of its header, its table and what stands behind the header, one after the other.
use Rattle.std.proofs.Common.{◌≡◌, ℕ, ◌+◌, ◌^◌, ◌≤◌, ◌<◌, List, [], ◌++◌, length, Option, Some, None, Result, Ok, Err, refl, sym, ap, subst, ◌∙◌, append_assoc, append-nil, arith, inl, inr, length-append}
use Rattle.std.specs.Prelude.{IfErr}
use Rattle.std.specs.Io.KnownBytes.{Consumes}
use Rattle.dw_leb.specs.declared.errors.Fault.{Fault}
use Rattle.dw_leb.specs.declared.errors.ReadError.{ReadError}
use Rattle.dw_leb.specs.declared.errors.ReadError.TheVariants as reads
use Rattle.dw_leb.specs.declared.errors.SectionId.{SectionId}
use Rattle.dw_leb.specs.declared.errors.SectionId.TheVariants.{Info, Abbrev}
use Rattle.dw_leb.specs.declared.order.Order.{Order}
use Rattle.dw_leb.specs.Number.{length_size}
use Rattle.dw_leb.specs.DecideNumber.{initial-size, initial_within, initial_end}
use Rattle.dw_leb.specs.Transfers.{consumes_more}
use Rattle.dw_leb.specs.Watch.{KeptSome}
use Rattle.dw_abbrev.specs.Table.{Table, TableAt}
use Rattle.dw_abbrev.specs.TableErrors.{IsTableError}
use Rattle.dw_header.specs.declared.versions.Versions.{Versions}
use Rattle.dw_header.specs.Header.{Header, Accepts, versions_for, fields, fields_of}
use Rattle.dw_header.specs.HeaderPlace.{HeaderAtUnder, header_bytes, header_size}
use Rattle.dw_header.specs.Laws.{HasHeaderBytes, spelled_headers_stand}
use Rattle.dw_unit.specs.Unit.{WholeUnit, bytes_of, left_behind, FailsUnder}
use Rattle.dw_unit.specs.UnitView.{IsUnitErrorUnder, FaultWithin}
use Rattle.dw_unit.specs.Inside.{break_inside}
use Rattle.dw_unit.specs.DecideUnit.{break_stays}
use Rattle.dw_feed.specs.Feed.{behind, StartsWith, InUnit, TakesUnitUnder, IsFeedErrorUnder, TakesNoUnitUnder, TakesNoUnitBehind}
use Rattle.dw_feed.specs.BodyFeed.{started, stream, BreaksAt}
use Rattle.dw_feed.specs.FedUnit.{started_stream, all_bytes, fed_broken, table_broken}
use Rattle.dw_feed.specs.FeedReads.{TakesHeader, TakesHeaderWith, TakesNoHeader, TakesBody, IsBodyError, TakesNoBody}
use Rattle.dw_feed.specs.Cut.{length_bytes}
use Rattle.dw_feed.specs.Taking.{behind_taken, starts_longer, left_of, left_at_end, had_before, takes_of, length_some}

-- no header
pub header_error : (versions : Versions) (section : List ℕ) (order : Order) (taken : List ℕ) (old new : Option (List ℕ)) (e : ReadError) → TakesNoHeader versions order taken old new e → TakesNoUnitBehind versions section order taken old new e
header_error versions section order taken old new (reads.Fault f) h = (h.0, h.1, subst (λ (s : SectionId). FailsUnder versions order section h.0 s f.offset f.reason) (sym h.2.0) (inl h.2.1), h.3, h.4)
header_error versions section order taken old new reads.NoMemory h = absurd h.2
header_error versions section order taken old new (reads.Io kind) h = (h.0, h.1, tt, h.3, h.4)

-- none were taken before
pub from_start : (versions : Versions) (section : List ℕ) (order : Order) (old new : Option (List ℕ)) (e : ReadError) → TakesNoUnitBehind versions section order [] old new e → TakesNoUnitUnder versions section order old new e
from_start versions section order None new e h = (h.0, h.1, h.2, h.3)
from_start versions section order (Some bytes) new e h = (h.0, h.1, h.2, h.3)

-- what is said where the bytes are at hand is said of a reader
feed_error : (versions : Versions) (section : List ℕ) (order : Order) (all : List ℕ) (e : ReadError) → IsUnitErrorUnder versions section order all e → IsFeedErrorUnder versions section order all e
feed_error versions section order all (reads.Fault f) is = is
feed_error versions section order all reads.NoMemory is = tt
feed_error versions section order all (reads.Io kind) is = tt

-- behind no bytes
pub behind_none : (o : Option (List ℕ)) → behind [] o ≡ o
behind_none None = refl
behind_none (Some bytes) = refl

header_sized : (h : Header) (n : ℕ) → length (header_bytes h n) ≡ header_size h
header_sized h n = omega (arith, length-append (length_bytes h.order (h.format, n)) ((fields h.order h.format).spell (fields_of h)), initial-size h.order 0 h.format n)

-- a header alone was taken
pub with_none : (versions : Versions) (order : Order) (before : List ℕ) (had mid : Option (List ℕ)) (x : Header × ℕ) → TakesHeader versions order before had mid x → TakesHeaderWith versions order before [] had mid x
with_none versions order before had mid x head = (
  head.0,
  head.1,
  subst (λ (o : Option (List ℕ)). Consumes (behind before had) o head.0) (sym (behind_none mid)) head.2,
  starts_longer before head.0 [] head.3,
  omega (arith, ap length head.1.all, header_sized x.0 x.1, head.1.fits.within),
)

module _ (versions : Versions) (section : List ℕ) (order : Order) (before : List ℕ) (had mid : Option (List ℕ)) (first : List ℕ) (h : Header) (n : ℕ) (head : TakesHeaderWith versions order before first had mid (h, n)) where
  abbrev old : Option (List ℕ)
  old = behind before had

  abbrev own : List ℕ
  own = header_bytes h n

  -- all that was taken before the reader is read on
  abbrev begun : List ℕ
  begun = own ++ first

  pub has : HasHeaderBytes h n
  has = head.1.fits

  took : Consumes old (behind first mid) own
  took = subst (λ (bs : List ℕ). Consumes old (behind first mid) bs) head.1.all head.2

  both : Consumes old mid begun
  both = consumes_more old (behind first mid) mid own first took (behind_taken first mid)

  room : length own + length first ≤ length_size h.format + n
  room = omega (arith, head.4, ap length head.1.all)

  stands : (rest : List ℕ) → HeaderAtUnder versions order (own ++ rest) h n
  stands rest = subst (λ (o : Order). HeaderAtUnder versions o (own ++ rest) h n) head.1.order_is (spelled_headers_stand versions h n rest head.1.accepted has)

  -- bytes of the unit
  inside : (rest : List ℕ) (m : ℕ) → m ≤ length_size h.format + n → InUnit order (own ++ rest) m
  inside rest m le =
      let f : List ℕ = (fields h.order h.format).spell (fields_of h) in
      let size : length (length_bytes h.order (h.format, n)) ≡ length_size h.format = initial-size h.order 0 h.format n in
      subst (λ (o : Order). InUnit o (own ++ rest) m) head.1.order_is
      (inr ((h.format, n), record { rest = f ++ rest; fits = has.length_fits; split = append_assoc (length_bytes h.order (h.format, n)) f rest; is_size = size; within = omega (arith, initial_within h.order 0 h.format n, size) }, le))

  starts : StartsWith before begun
  starts = subst (λ (bs : List ℕ). StartsWith before (bs ++ first)) head.1.all head.3

  -- bytes of which the first are these
  starts_all : (taken : List ℕ) → StartsWith first taken → StartsWith before (own ++ taken)
  starts_all taken (more, is) = subst (StartsWith before) (append_assoc own first more ∙ ap (λ (bs : List ℕ). own ++ bs) (sym is)) (starts_longer before begun more starts)

  sized : length own ≡ header_size h
  sized = header_sized h n

  -- what was taken behind the header is no more than the unit has there
  pub first_inside : length first ≤ left_behind h n
  first_inside = omega (arith, room, sized, has.within)

  header_some : 0 < length own
  header_some = omega (arith, sized, length_some h.format)

  -- ---- the table

  -- it isn't there
  pub table_error : (e : ReadError) → IsTableError section h.abbrev_offset e → TakesNoUnitBehind versions section order before had mid e
  table_error e is =
      let all : List ℕ = begun ++ left_of mid in
      let there : HeaderAtUnder versions order all h n = subst (λ (bs : List ℕ). HeaderAtUnder versions order bs h n) (sym (append_assoc own first (left_of mid))) (stands (first ++ left_of mid)) in (
        all,
        takes_of old mid begun both,
        feed_error versions section order all e (table_broken versions section order all h n there e is),
        subst (λ (bs : List ℕ). InUnit order bs (length begun)) (sym (append_assoc own first (left_of mid))) (inside (first ++ left_of mid) (length begun) (omega (arith, length-append own first, room))),
        starts_longer before begun (left_of mid) starts,
      )

  -- and there was no memory for it: the header was taken
  pub table_memory : (X : Type 0) (e : ReadError) → KeptSome {X = X} old mid (Err e)
  table_memory X (reads.Fault f) = tt
  table_memory X reads.NoMemory = (begun, omega (arith, header_some, length-append own first), both)
  table_memory X (reads.Io kind) = tt

  -- ---- what stands behind the header

  module _ (t : Table) (place : TableAt section h.abbrev_offset t) (new : Option (List ℕ)) where
    pub body_found : (u : WholeUnit) → TakesBody (started h n t) first mid new u → TakesUnitUnder versions section order old new u
    body_found u it =
        let whole : own ++ it.taken ≡ bytes_of u = ap (λ (bs : List ℕ). bs ++ it.taken) (sym (started_stream h n t)) ∙ it.whole in
        let all : Consumes old new (bytes_of u) = subst (λ (bs : List ℕ). Consumes old new bs) whole (consumes_more old (behind first mid) new own it.taken took it.consumed) in
        let place_is : TableAt section u.header.abbrev_offset u.table = subst (λ (x : Header). TableAt section x.abbrev_offset u.table) (sym it.header_is) (subst (TableAt section h.abbrev_offset) (sym it.table_is) place) in
        let accepts : Accepts versions u.header.kind = subst (λ (x : Header). Accepts versions x.kind) (sym it.header_is) head.1.accepted in (
          bytes_of u ++ left_of new,
          had_before old new (bytes_of u) all,
          record {
            table_at = place_is;
            front = record { order_is = ap (λ (x : Header). x.order) it.header_is ∙ head.1.order_is; accepted = accepts; fits = it.fits; rest = left_of new; split = refl; is_size = refl };
          },
          all,
        )

    pub unit_starts : (u : WholeUnit) → TakesBody (started h n t) first mid new u → StartsWith before (bytes_of u)
    unit_starts u it =
        let whole : own ++ it.taken ≡ bytes_of u = ap (λ (bs : List ℕ). bs ++ it.taken) (sym (started_stream h n t)) ∙ it.whole in
        subst (StartsWith before) whole (starts_all it.taken it.front)

    -- a fault of what was taken is that of all
    all_break : (taken : List ℕ) (f : Fault) → IsBodyError (started h n t) taken new (reads.Fault f) → BreaksAt (started h n t) ((own ++ taken) ++ left_of new) f
    all_break taken f is = subst (λ (bs : List ℕ). BreaksAt (started h n t) ((bs ++ taken) ++ left_of new) f) (started_stream h n t) (elim is.1 [
      | inl for_good ↦ (is.0.0, break_stays (versions_for h.kind) h.order t (stream (started h n t) ++ taken) (left_of new) f.offset f.reason for_good is.0.1)
      | inr end ↦ subst (λ (bs : List ℕ). BreaksAt (started h n t) bs f) (sym (append-nil (stream (started h n t) ++ taken)) ∙ ap (λ (bs : List ℕ). (stream (started h n t) ++ taken) ++ bs) (sym (left_at_end new end))) is.0
    ])

    body_fault : (taken : List ℕ) (f : Fault) → IsBodyError (started h n t) taken new (reads.Fault f) → IsFeedErrorUnder versions section order ((own ++ taken) ++ left_of new) (reads.Fault f)
    body_fault taken f is =
        let all : List ℕ = (own ++ taken) ++ left_of new in
        let there : HeaderAtUnder versions order all h n = subst (λ (bs : List ℕ). HeaderAtUnder versions order bs h n) (sym (append_assoc own taken (left_of new))) (stands (taken ++ left_of new)) in
        let behind = subst (λ (bs : List ℕ). BreaksAt (started h n t) bs f) (sym (all_bytes versions section order all h n there t (header_size h) refl)) (all_break taken f is) in
        fed_broken versions section order all h n there t (header_size h) refl place (reads.Fault f) behind

    body_tells : (taken : List ℕ) (e : ReadError) → IsBodyError (started h n t) taken new e → IsFeedErrorUnder versions section order ((own ++ taken) ++ left_of new) e
    body_tells taken (reads.Fault f) is = body_fault taken f is
    body_tells taken reads.NoMemory is = tt
    body_tells taken (reads.Io kind) is = tt

    pub body_error : (e : ReadError) → TakesNoBody (started h n t) first mid new e → TakesNoUnitBehind versions section order before had new e
    body_error e (taken, next, le, is, front) = (
      (own ++ taken) ++ left_of new,
      takes_of old new (own ++ taken) (consumes_more old (behind first mid) new own taken took next),
      body_tells taken e is,
      subst (λ (bs : List ℕ). InUnit order bs (length (own ++ taken))) (sym (append_assoc own taken (left_of new)))
          (inside (taken ++ left_of new) (length (own ++ taken)) (omega (arith, length-append own taken, sized, le, has.within))),
      starts_longer before (own ++ taken) (left_of new) (starts_all taken front),
    )

    pub body_memory : {X : Type 0} (r : Result X ReadError) → IfErr r (TakesNoBody (started h n t) first mid new) → KeptSome old new r
    body_memory (Ok x) it = tt
    body_memory (Err (reads.Fault f)) it = tt
    body_memory (Err reads.NoMemory) it = (own ++ it.0, omega (arith, header_some, length-append own it.0), consumes_more old (behind first mid) new own it.0 took it.1)
    body_memory (Err (reads.Io kind)) it = tt

    -- a fault stands within the unit
    body_near : (e : ReadError) → TakesNoBody (started h n t) first mid new e → FaultWithin (2 ^ 63) e
    body_near (reads.Fault f) (taken, next, le, is, front) = λ info.
        let s : List ℕ = stream (started h n t) in
        omega (
          arith,
          break_inside (versions_for h.kind) h.order t (s ++ taken) f.offset f.reason is.0.1,
          length-append s taken,
          ap length (started_stream h n t),
          sized,
          le,
          has.within,
          initial_end h.order 0 h.format n has.length_fits,
        )
    body_near reads.NoMemory it = tt
    body_near (reads.Io kind) it = tt

    pub unit_near : {X : Type 0} (r : Result X ReadError) → IfErr r (TakesNoBody (started h n t) first mid new) → IfErr r (FaultWithin (2 ^ 63))
    unit_near (Ok x) it = tt
    unit_near (Err e) it = body_near e it

-- a table's fault stands in another section
pub table_near : (abbreviations : List ℕ) (offset n : ℕ) (e : ReadError) → IsTableError abbreviations offset e → FaultWithin n e
table_near abbreviations offset n (reads.Fault f) is = λ info. let no : Info ≡ Abbrev = sym info ∙ is.0 in cc
table_near abbreviations offset n reads.NoMemory is = tt
table_near abbreviations offset n (reads.Io kind) is = absurd is
