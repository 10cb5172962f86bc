-- A unit whose bytes are at hand, pushed as one piece: what is answered of a unit over a table that was handed in, and
-- what follows for one over an abbreviation section.
use Rattle.std.proofs.Common.{◌≡◌, ℕ, ◌+◌, List, [], ◌++◌, length, Some, take, drop, refl, sym, ap, subst, ◌∙◌, append_assoc, append-nil, arith, length-append}
use Rattle.std.proofs.lemmas.List.{drop_at, take-append-drop, length-take-le}
use Rattle.dw_leb.specs.declared.errors.Reason.{Reason}
use Rattle.dw_leb.specs.declared.errors.Fault.{Fault}
use Rattle.dw_leb.specs.declared.errors.SectionId.{SectionId}
use Rattle.dw_leb.specs.declared.errors.SectionId.TheVariants.{Info}
use Rattle.dw_leb.specs.declared.errors.ReadError.{ReadError}
use Rattle.dw_leb.specs.declared.errors.ReadError.TheVariants as reads
use Rattle.dw_leb.specs.declared.order.Order.{Order}
use Rattle.dw_leb.specs.Number.{length_field}
use Rattle.dw_leb.specs.DecideNumber.{initial-size}
use Rattle.dw_abbrev.specs.Table.{Table, TableAt}
use Rattle.dw_abbrev.specs.TableErrors.{IsTableError, refused_memory}
use Rattle.dw_header.specs.declared.versions.Versions.{Versions}
use Rattle.dw_header.specs.Header.{Header, Accepts, versions_for, fields, fields_of}
use Rattle.dw_header.specs.HeaderPlace.{HeaderAtUnder, header_bytes, header_size}
use Rattle.dw_header.specs.Laws.{headers_are_spelled, headers_are_accepted, headers_stand_where_accepted}
use Rattle.dw_header.specs.FittingHeaders.{accepted}
use Rattle.dw_tree.specs.Spelling.{tree_bytes}
use Rattle.dw_unit.specs.Unit.{WholeUnit, bytes_of, UnitAtUnder, UnitBreaksUnder, FailsUnder}
use Rattle.dw_unit.specs.UnitView.{IsUnitErrorUnder, FaultWithin}
use Rattle.dw_unit.specs.UnitLaws.{units_break_where_accepted, not_both}
use Rattle.dw_unit.specs.DecideUnit.{break_stays, break_fails}
use Rattle.dw_unit.specs.Inside.{unit_inside}
use Rattle.dw_feed.specs.declared.progress.Progress.{Progress}
use Rattle.dw_feed.specs.declared.progress.Progress.TheVariants as answers
use Rattle.dw_feed.specs.BodyFeed.{PartialUnit, BodyFeed, Reading, Refused, Finished, started, stream, BreaksAt, SameUnit, SaysDone, SaysFault, FeedsBody, EndsBody}

-- An error of a unit that is pushed as one piece and then ends: a fault is that of all its bytes.
abbrev pub IsFedError : PartialUnit → List ℕ → ReadError → Type 0
IsFedError g bytes (reads.Fault f) = BreaksAt g (stream g ++ bytes) f
IsFedError g bytes reads.NoMemory = Unit {0}
IsFedError g bytes (reads.Io kind) = ⊥

-- what a new feed took are the header's bytes
pub started_stream : (h : Header) (n : ℕ) (t : Table) → stream (started h n t) ≡ header_bytes h n
unfolding tree_bytes
started_stream h n t = append-nil (header_bytes h n ++ []) ∙ append-nil (header_bytes h n)

-- a break that stands in the bytes that were taken is one of all of them
pub fault_of_all : (g : PartialUnit) (bytes : List ℕ) (n : ℕ) (f : Fault) → SaysFault g bytes n f
    → BreaksAt g (stream g ++ bytes) f
fault_of_all g bytes n f says =
    let all : (stream g ++ take n bytes) ++ drop n bytes ≡ stream g ++ bytes =
    append_assoc (stream g) (take n bytes) (drop n bytes)
    ∙ ap (λ (bs : List ℕ). stream g ++ bs) (take-append-drop n bytes) in (
      says.breaks.0,
      subst (λ (bs : List ℕ). UnitBreaksUnder (versions_for g.header.kind) g.header.order g.table bs f.offset f.reason)
          all
          (break_stays (versions_for g.header.kind) g.header.order g.table (stream g ++ take n bytes) (drop n bytes)
          f.offset f.reason says.for_good says.breaks.1),
    )

-- ---- a feed that is handed one piece, and then the input ends

pub done_says : (g : PartialUnit) (piece : List ℕ) (n : ℕ) (u : WholeUnit) (new : BodyFeed)
    → FeedsBody (Reading g) piece n (answers.Done u) new → SaysDone g piece n u
done_says g piece n u (Reading h) says = absurd says
done_says g piece n u (Refused f) says = absurd says
done_says g piece n u Finished says = says

pub same_breaks : (g h : PartialUnit) → SameUnit g h → (bytes : List ℕ) (f : Fault) → BreaksAt h bytes f
    → BreaksAt g bytes f
same_breaks g h same bytes f b = (
  b.0,
  subst (λ (t : Table). UnitBreaksUnder (versions_for g.header.kind) g.header.order t bytes f.offset f.reason) same.2
      (subst (λ (x : Header). UnitBreaksUnder (versions_for x.kind) x.order h.table bytes f.offset f.reason) same.0
      b.1),
)

pub ended_breaks : (g : PartialUnit) (piece : List ℕ) (n : ℕ) (a : Progress WholeUnit) (new : BodyFeed) (f : Fault)
    → FeedsBody (Reading g) piece n a new → EndsBody new (Some f) → BreaksAt g (stream g ++ piece) f
ended_breaks g piece n answers.More (Reading h) f says ends =
    subst (λ (bs : List ℕ). BreaksAt g bs f) says.longer (same_breaks g h says.same (stream h) f ends)
ended_breaks g piece n answers.More (Refused e) f says ends = absurd says
ended_breaks g piece n answers.More Finished f says ends = absurd says
ended_breaks g piece n (answers.Done u) (Reading h) f says ends = absurd says
ended_breaks g piece n (answers.Done u) (Refused e) f says ends = absurd says
ended_breaks g piece n (answers.Done u) Finished f says ends = absurd ends
ended_breaks g piece n (answers.Fault d) (Reading h) f says ends = absurd says
ended_breaks g piece n (answers.Fault d) (Refused e) f says ends =
    subst (BreaksAt g (stream g ++ piece)) (sym (ends ∙ says.0)) (fault_of_all g piece n d says.1)
ended_breaks g piece n (answers.Fault d) Finished f says ends = absurd says
ended_breaks g piece n answers.NoMemory (Reading h) f says ends = absurd says
ended_breaks g piece n answers.NoMemory (Refused e) f says ends = absurd says
ended_breaks g piece n answers.NoMemory Finished f says ends = absurd ends
ended_breaks g piece n answers.Spent (Reading h) f says ends = absurd says
ended_breaks g piece n answers.Spent (Refused e) f says ends = absurd says
ended_breaks g piece n answers.Spent Finished f says ends = absurd says

-- ---- over an abbreviation section

module _ (versions : Versions) (section : List ℕ) (order : Order) (bytes : List ℕ) (h : Header) (n : ℕ)
    (stands : HeaderAtUnder versions order bytes h n) (t : Table) (at : ℕ) (at_is : at ≡ header_size h) where
  sized : length (header_bytes h n) ≡ header_size h
  sized =
      length-append ((length_field h.order).spell (h.format, n)) ((fields h.order h.format).spell (fields_of h))
      ∙ ap (λ (m : ℕ). m + length ((fields h.order h.format).spell (fields_of h))) (initial-size h.order 0 h.format n)

  -- all the bytes: the header's, and those behind it
  behind : header_bytes h n ++ drop at bytes ≡ bytes
  behind =
      let s = (headers_are_spelled versions order bytes h n stands).2 in
      let dropped : drop at bytes ≡ s.0 = ap (drop at) s.1 ∙ drop_at (header_bytes h n) s.0 at (sized ∙ sym at_is) in
      ap (λ (bs : List ℕ). header_bytes h n ++ bs) dropped ∙ sym s.1

  pub all_bytes : stream (started h n t) ++ drop at bytes ≡ bytes
  all_bytes = ap (λ (bs : List ℕ). bs ++ drop at bytes) (started_stream h n t) ∙ behind

  same_order : h.order ≡ order
  same_order = (headers_are_spelled versions order bytes h n stands).0

  module _ (place : TableAt section h.abbrev_offset t) where
    -- the unit that was answered stands at the front
    pub fed_found : (u : WholeUnit) (more : ℕ) → SaysDone (started h n t) (drop at bytes) more u
        → UnitAtUnder versions section order bytes u (at + more)
    fed_found u more says =
        let g : PartialUnit = started h n t in
        let piece : List ℕ = drop at bytes in
        let taken : List ℕ = take more piece in
        let head : header_bytes h n ++ taken ≡ bytes_of u =
        ap (λ (bs : List ℕ). bs ++ taken) (sym (started_stream h n t)) ∙ says.whole in
        let split : bytes ≡ bytes_of u ++ drop more piece =
        sym behind ∙ ap (λ (bs : List ℕ). header_bytes h n ++ bs) (sym (take-append-drop more piece))
        ∙ sym (append_assoc (header_bytes h n) taken (drop more piece))
        ∙ ap (λ (bs : List ℕ). bs ++ drop more piece) head in
        let size : length (bytes_of u) ≡ at + more =
        omega (
          arith,
          ap length head,
          length-append (header_bytes h n) taken,
          sized,
          at_is,
          length-take-le more piece says.within,
        ) in
        let place_is : TableAt section u.header.abbrev_offset u.table =
        subst (λ (x : Header). TableAt section x.abbrev_offset u.table) (sym says.header_is)
        (subst (TableAt section h.abbrev_offset) (sym says.table_is) place) in
        let accepts : Accepts versions u.header.kind =
        subst (λ (x : Header). Accepts versions x.kind) (sym says.header_is)
        (headers_are_accepted versions order bytes h n stands) in
        record {
          table_at = place_is;
          front =
              record {
                order_is = ap (λ (x : Header). x.order) says.header_is ∙ same_order;
                accepted = accepts;
                fits = says.fits;
                rest = drop more piece;
                split = split;
                is_size = size;
              };
        }

    break_found : (offset : ℕ) (reason : Reason)
        → UnitBreaksUnder (versions_for h.kind) h.order t (stream (started h n t) ++ drop at bytes) offset reason
        → FailsUnder versions order section bytes Info offset reason
    break_found offset reason b =
        let here : UnitBreaksUnder (versions_for h.kind) order t bytes offset reason =
        subst (λ (o : Order). UnitBreaksUnder (versions_for h.kind) o t bytes offset reason) same_order
        (subst (λ (bs : List ℕ). UnitBreaksUnder (versions_for h.kind) h.order t bs offset reason) all_bytes b) in
        let there : HeaderAtUnder (versions_for h.kind) order bytes h n =
        headers_stand_where_accepted versions (versions_for h.kind) order bytes h n stands (accepted h.kind) in
        break_fails versions order section bytes h n stands t place offset reason
        (units_break_where_accepted (versions_for h.kind) versions order t bytes h n there
        (headers_are_accepted versions order bytes h n stands) offset reason here)

    -- an error is the first fault of all the bytes, or want of memory
    pub fed_broken : (e : ReadError) → IsFedError (started h n t) (drop at bytes) e
        → IsUnitErrorUnder versions section order bytes e
    fed_broken (reads.Fault f) is =
        subst (λ (s : SectionId). FailsUnder versions order section bytes s f.offset f.reason) (sym is.0)
        (break_found f.offset f.reason is.1)
    fed_broken reads.NoMemory is = tt
    fed_broken (reads.Io kind) is = is

-- ---- what an error of a unit says besides

pub fault_within : (versions : Versions) (section : List ℕ) (order : Order) (bytes : List ℕ) (e : ReadError)
    → IsUnitErrorUnder versions section order bytes e → FaultWithin (length bytes) e
fault_within versions section order bytes (reads.Fault f) is =
    λ info.
    unit_inside versions order section bytes f.offset f.reason
    (subst (λ (s : SectionId). FailsUnder versions order section bytes s f.offset f.reason) info is)
fault_within versions section order bytes reads.NoMemory is = tt
fault_within versions section order bytes (reads.Io kind) is = tt

-- where a unit stands, only want of memory keeps it from being read
pub only_memory : (versions : Versions) (section : List ℕ) (order : Order) (bytes : List ℕ) (u : WholeUnit) (size : ℕ)
    → UnitAtUnder versions section order bytes u size → (e : ReadError)
    → IsUnitErrorUnder versions section order bytes e
    → e ≡ refused_memory
only_memory versions section order bytes u size stands (reads.Fault f) is =
    absurd (not_both versions section order bytes u size f.section f.offset f.reason stands is)
only_memory versions section order bytes u size stands reads.NoMemory is = refl
only_memory versions section order bytes u size stands (reads.Io kind) is = absurd is

-- a table that breaks
pub table_broken : (versions : Versions) (section : List ℕ) (order : Order) (bytes : List ℕ) (h : Header) (n : ℕ)
    → HeaderAtUnder versions order bytes h n → (e : ReadError) → IsTableError section h.abbrev_offset e
    → IsUnitErrorUnder versions section order bytes e
table_broken versions section order bytes h n stands (reads.Fault f) is =
    subst (λ (s : SectionId). FailsUnder versions order section bytes s f.offset f.reason) (sym is.0)
    (h, n, stands, is.1)
table_broken versions section order bytes h n stands reads.NoMemory is = tt
table_broken versions section order bytes h n stands (reads.Io kind) is = is
