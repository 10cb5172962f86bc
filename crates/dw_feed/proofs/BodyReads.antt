-- The bytes behind a header that are read in chunks and pushed into their feed: what was taken, and what the feed answers.
use Rattle.std.proofs.Common.{◌≡◌, ℕ, ◌+◌, ◌≤◌, ◌<◌, List, ◌++◌, length, take, Some, refl, sym, ap, subst, ◌∙◌, append_assoc, arith, inl, inr, length-append}
use Rattle.std.proofs.lemmas.List.{take_all, length-take}
use Rattle.dw_leb.specs.declared.errors.Fault.{Fault}
use Rattle.dw_leb.specs.declared.errors.Reason.TheVariants.{Truncated}
use Rattle.dw_leb.specs.declared.errors.SectionId.TheVariants.{Info}
use Rattle.dw_leb.specs.declared.order.Format.{Format}
use Rattle.dw_leb.specs.Part.{Taken}
use Rattle.dw_leb.specs.Number.{initial_length, length_limit, length_size}
use Rattle.dw_leb.specs.DecideNumber.{initial-size, initial_within}
use Rattle.dw_leb.specs.Moments.{fewer_or_enough}
use Rattle.dw_abbrev.specs.Table.{Table}
use Rattle.dw_header.specs.Header.{Header, versions_for, fields, fields_of}
use Rattle.dw_header.specs.HeaderPlace.{header_size}
use Rattle.dw_header.specs.Laws.{HasHeaderBytes}
use Rattle.dw_unit.specs.Unit.{WholeUnit, body_bytes, bytes_of, left_behind}
use Rattle.dw_feed.specs.declared.progress.Progress.{Progress}
use Rattle.dw_feed.specs.declared.progress.Progress.TheVariants as answers
use Rattle.dw_feed.specs.FeedInvariant.{body_so_far}
use Rattle.dw_feed.specs.BodyFeed.{PartialUnit, BodyFeed, Reading, Refused, Finished, started, part, before, stream, BreaksAt, IsCutOff, SameUnit, SaysMore, SaysDone, SaysFault, FeedsBody, EndsBody}
use Rattle.dw_feed.specs.FedUnit.{started_stream, fault_of_all, same_breaks}
use Rattle.dw_feed.specs.Cut.{length_bytes, same_length, whole_never_cut}

-- ---- what the feed answers

pub pushed : (old new : BodyFeed) (g : PartialUnit) (piece : List ℕ) (n : ℕ) (a b : Progress WholeUnit) → old ≡ Reading g → a ≡ b → FeedsBody old piece n a new → FeedsBody (Reading g) piece n b new
pushed old new g piece n a b is same says = subst (λ (x : Progress WholeUnit). FeedsBody (Reading g) piece n x new) same (subst (λ (x : BodyFeed). FeedsBody x piece n a new) is says)

pub more_feeds : (g : PartialUnit) (piece : List ℕ) (n : ℕ) (new : BodyFeed) → FeedsBody (Reading g) piece n answers.More new → (now : PartialUnit) × (new ≡ Reading now) × SaysMore g piece n now
more_feeds g piece n (Reading now) says = (now, refl, says)
more_feeds g piece n (Refused f) says = absurd says
more_feeds g piece n Finished says = absurd says

pub fault_feeds : (g : PartialUnit) (piece : List ℕ) (n : ℕ) (f : Fault) (new : BodyFeed) → FeedsBody (Reading g) piece n (answers.Fault f) new → SaysFault g piece n f
fault_feeds g piece n f (Reading now) says = absurd says
fault_feeds g piece n f (Refused e) says = says.1
fault_feeds g piece n f Finished says = absurd says

-- ---- units of which some bytes were taken behind the header

module _ (h : Header) (count : ℕ) (t : Table) (has : HasHeaderBytes h count) (g : PartialUnit) (same : SameUnit (started h count t) g) (piece taken : List ℕ) (all : stream g ++ piece ≡ stream (started h count t) ++ taken) where
  -- the bytes behind the length field
  abbrev field_rest : List ℕ
  field_rest = (fields h.order h.format).spell (fields_of h) ++ taken

  split : stream (started h count t) ++ taken ≡ length_bytes h.order (h.format, count) ++ field_rest
  split = ap (λ (bs : List ℕ). bs ++ taken) (started_stream h count t) ∙ append_assoc (length_bytes h.order (h.format, count)) ((fields h.order h.format).spell (fields_of h)) taken

  total : length (stream (started h count t) ++ taken) ≡ header_size h + length taken
  total =
      let f : List ℕ = (fields h.order h.format).spell (fields_of h) in
      omega (arith, ap length split, length-append (length_bytes h.order (h.format, count)) field_rest, length-append f taken, initial-size h.order 0 h.format count)

  -- a unit that is cut off has bytes left
  pub cut_has_left : IsCutOff (started h count t) (stream (started h count t) ++ taken) → length taken < left_behind h count
  cut_has_left cut = elim (fewer_or_enough (length taken) (left_behind h count)) [
    | inl fewer ↦ fewer
    | inr enough ↦
        let size : length (length_bytes h.order (h.format, count)) ≡ length_size h.format = initial-size h.order 0 h.format count in
        let field : Taken (initial_length h.order 0) (stream (started h count t) ++ taken) length_limit (h.format, count) (length_size h.format) =
        record { rest = field_rest; fits = has.length_fits; split = split; is_size = size; within = omega (arith, initial_within h.order 0 h.format count, size) } in
        absurd (whole_never_cut (versions_for h.kind) h.order (stream (started h count t) ++ taken) ((h.format, count), field, omega (arith, total, enough, has.within)) (λ _ s. s ≡ t) cut.0 Truncated cut.1 refl)
  ]

  -- the length field of what the feed took
  field_first : (bytes : List ℕ) → (rest : List ℕ) × (stream g ++ bytes ≡ length_bytes h.order (h.format, count) ++ rest)
  field_first bytes =
      let l : List ℕ = length_bytes g.header.order (g.header.format, g.unit_length) in
      let f : List ℕ = (fields g.header.order g.header.format).spell (fields_of g.header) in
      let rest : List ℕ = f ++ (body_so_far g ++ (part g ++ bytes)) in (
        rest,
        append_assoc (before g) (part g) bytes
            ∙ append_assoc (l ++ f) (body_so_far g) (part g ++ bytes)
            ∙ append_assoc l f (body_so_far g ++ (part g ++ bytes))
            ∙ ap (λ (x : Header). length_bytes x.order (x.format, g.unit_length) ++ rest) same.0
            ∙ ap (λ (m : ℕ). length_bytes h.order (h.format, m) ++ rest) same.1,
      )

  -- a unit is all that was taken
  pub done_all : (n : ℕ) (u : WholeUnit) → length taken ≤ left_behind h count → SaysDone g piece n u → stream (started h count t) ++ taken ≡ bytes_of u
  done_all n u le says =
      let m : ℕ = length (body_bytes u) in
      let header_is : u.header ≡ h = says.header_is ∙ same.0 in
      let spelled : bytes_of u ≡ length_bytes h.order (h.format, m) ++ body_bytes u = ap (λ (x : Header). length_bytes x.order (x.format, m) ++ body_bytes u) header_is in
      let fits : (initial_length h.order 0).Fits (h.format, m) = subst (λ (x : Header). (initial_length x.order 0).Fits (x.format, m)) header_is says.fits.length_fits in
      let first = field_first (take n piece) in
      let one = same_length h.order (h.format, count) (h.format, m) first.0 (body_bytes u) has.length_fits fits (sym first.1 ∙ says.whole ∙ spelled) in
      let count_is : count ≡ m = ap (λ (x : Format × ℕ). x.1) one.0 in
      let size : length (bytes_of u) ≡ length_size h.format + m = omega (arith, ap length spelled, length-append (length_bytes h.order (h.format, m)) (body_bytes u), initial-size h.order 0 h.format m) in
      let long : length piece ≤ n =
      omega (arith, ap length says.whole, size, count_is, ap length all, total, le, has.within, length-append (stream g) piece, length-append (stream g) (take n piece), length-take n piece) in
      sym all ∙ ap (λ (bs : List ℕ). stream g ++ bs) (sym (take_all n piece long)) ∙ says.whole

  -- a fault of what was taken
  pub fault_all : (n : ℕ) (f : Fault) → SaysFault g piece n f → BreaksAt (started h count t) (stream (started h count t) ++ taken) f
  fault_all n f says = subst (λ (bs : List ℕ). BreaksAt (started h count t) bs f) all (same_breaks (started h count t) g same (stream g ++ piece) f (fault_of_all g piece n f says))

  -- another piece
  pub more_all : (now : PartialUnit) (n : ℕ) → SaysMore g piece n now → SameUnit (started h count t) now × (stream now ≡ stream (started h count t) ++ taken) × (length taken < left_behind h count)
  more_all now n says =
      let longer : stream now ≡ stream (started h count t) ++ taken = says.longer ∙ all in
      let cut = says.cut in
      let breaks = same_breaks (started h count t) g same (stream now) (record { section = Info; offset = cut.0; reason = Truncated }) (refl, cut.1) in (
        (says.same.0 ∙ same.0, says.same.1 ∙ same.1, says.same.2 ∙ same.2),
        longer,
        cut_has_left (subst (IsCutOff (started h count t)) longer (cut.0, breaks.1)),
      )

  -- the end of the input
  pub end_all : (f : Fault) → stream g ≡ stream (started h count t) ++ taken → EndsBody (Reading g) (Some f) → BreaksAt (started h count t) (stream (started h count t) ++ taken) f
  end_all f is ends = subst (λ (bs : List ℕ). BreaksAt (started h count t) bs f) is (same_breaks (started h count t) g same (stream g) f ends)
