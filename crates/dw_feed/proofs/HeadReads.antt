-- A header that is read in parts and pushed into its feed: how many bytes it wants, and what was taken.
use Rattle.std.proofs.Common.{◌≡◌, ◌⊎◌, ℕ, suc, ◌+◌, ◌-◌, ◌^◌, ◌≤◌, ◌<◌, Bool, true, false, List, [], ◌∷◌, ◌++◌, length, take, drop, Option, Some, refl, sym, ap, subst, ◌∙◌, append_assoc, append-nil, arith, inl, inr, length-append}
use Rattle.std.specs.Prelude.{◌==◌}
use Rattle.std.proofs.lemmas.Bool.{eqb-true}
use Rattle.std.proofs.lemmas.List.{take-append-drop, take-append-le, take_all, take_at, length-take}
use Rattle.std.specs.Io.KnownBytes.{Consumes, IsAtEnd}
use Rattle.dw_leb.specs.declared.errors.Fault.{Fault as TheFault}
use Rattle.dw_leb.specs.declared.errors.Reason.TheVariants.{Truncated}
use Rattle.dw_leb.specs.declared.errors.ReadError.TheVariants as reads
use Rattle.dw_leb.specs.declared.order.Order.{Order}
use Rattle.dw_leb.specs.Part.{optional}
use Rattle.dw_leb.specs.Number.{fixed, fixed_bytes, length_field, initial_length, length_limit, length_size}
use Rattle.dw_leb.specs.Digits.{length-fixed}
use Rattle.dw_leb.specs.DecideNumber.{initial-size, initial_within}
use Rattle.dw_leb.specs.Moments.{fewer_or_enough}
use Rattle.dw_leb.specs.NumberMoments.{reserved_judges, too_far_judges}
use Rattle.dw_header.specs.declared.versions.Versions.{Versions}
use Rattle.dw_header.specs.Header.{Header}
use Rattle.dw_header.specs.HeaderPlace.{HeaderAtUnder, HeaderFaultUnder, header_bytes}
use Rattle.dw_header.specs.Laws.{spelled_headers_stand, no_header_and_break, header_breaks_stay}
use Rattle.dw_feed.specs.declared.progress.Progress.{Progress}
use Rattle.dw_feed.specs.declared.progress.Progress.TheVariants.{More, Done, Fault}
use Rattle.dw_feed.specs.UnitNeverTruncated.{fields_never_truncated}
use Rattle.dw_feed.specs.Feed.{behind, StartsWith, escape, InUnit, Takes}
use Rattle.dw_unit.specs.Inside.{header_inside}
use Rattle.dw_unit.specs.UnitView.{FaultWithin}
use Rattle.dw_feed.specs.HeaderCut.{IsCut, cut_headers_are_short}
use Rattle.dw_feed.specs.HeadFeed.{HeadFeed, HeadState, Reading, Refused, Finished, IsHeader, Answers, FeedsHead, Ends, Wants}
use Rattle.dw_feed.specs.FeedReads.{TakesNoHeader}
use Rattle.dw_feed.specs.Cut.{escape_is}
use Rattle.dw_feed.specs.Taking.{starts_longer, left_of, left_at_end, takes_of, field_longer, taken_longer}

-- ---- how many bytes are wanted

-- fewer than four bytes are cut off ..
pub short_is_cut : (versions : Versions) (order : Order) (bytes : List ℕ) → length bytes < 4 → IsCut versions order bytes
short_is_cut versions order bytes short = (0, inl (inl (refl, 0, inl (inl (refl, inr (omega arith, short, refl))))))

-- .. and fewer than twelve that begin with ff ff ff ff
pub wide_is_cut : (versions : Versions) (order : Order) (rest : List ℕ) → length rest < 8 → IsCut versions order (escape ++ rest)
wide_is_cut versions order rest short =
    let four : length (fixed_bytes order 4 0xffffffff) ≡ 4 = length-fixed order 4 0xffffffff in (
      0,
      inl (inl (
        refl,
        length (fixed_bytes order 4 0xffffffff) + 0,
        inr (
          0xffffffff,
          (omega arith, refl),
          record {
            rest = rest;
            own = 0;
            split = ap (λ (bs : List ℕ). bs ++ rest) (sym (escape_is order));
            within = omega (arith, four);
            sum = refl;
            breaks = (refl, inr (omega (arith, four), short, refl));
          },
        ),
      )),
    )

pub no_bytes : (bytes : List ℕ) → length bytes < 1 → bytes ≡ []
no_bytes [] short = refl
no_bytes (b ∷ bytes) short = absurd (omega (arith, short))

-- ---- what is taken lies within the unit

-- where a length field is cut off, it isn't all there
pub cut_in_field : (order : Order) (bytes : List ℕ) (offset : ℕ) → (initial_length order 0).Break bytes length_limit offset Truncated → (length bytes < 4) ⊎ ((length bytes < 12) × (take 4 bytes ≡ escape))
cut_in_field order bytes offset (inr far) = absurd (too_far_judges 0 far.value far.refused)
cut_in_field order bytes offset (inl (here, own, inl (inl short))) = elim short.1 [
  | inl past ↦ absurd (let e : Truncated ≡ Rattle.dw_leb.specs.declared.errors.Reason.TheVariants.PastUnit = past.1 in cc)
  | inr cut ↦ inl cut.1
]
cut_in_field order bytes offset (inl (here, own, inl (inr bad))) = absurd (reserved_judges bad.value bad.refused)
cut_in_field order bytes offset (inl (here, own, inr (a, fits, after))) = by (a == 0xffffffff) refl after.breaks
  where
    by : (v : Bool) → (a == 0xffffffff) ≡ v → (optional v (fixed order 8)).Break after.rest (length_limit - length (fixed_bytes order 4 a)) after.own Truncated → (length bytes < 4) ⊎ ((length bytes < 12) × (take 4 bytes ≡ escape))
    by false e h = absurd h
    by true e h = elim h.1 [
      | inl past ↦ absurd (let q : Truncated ≡ Rattle.dw_leb.specs.declared.errors.Reason.TheVariants.PastUnit = past.1 in cc)
      | inr cut ↦
          let four : length (fixed_bytes order 4 a) ≡ 4 = length-fixed order 4 a in
          let len : length bytes ≡ length (fixed_bytes order 4 a) + length after.rest = ap length after.split ∙ length-append (fixed_bytes order 4 a) after.rest in
          inr (omega (arith, len, four, cut.1), ap (take 4) after.split ∙ take_at (fixed_bytes order 4 a) after.rest 4 four ∙ ap (fixed_bytes order 4) (eqb-true a 0xffffffff e) ∙ escape_is order)
    ]

unit_longer : (order : Order) (bytes rest : List ℕ) (n : ℕ) → InUnit order bytes n → InUnit order (bytes ++ rest) n
unit_longer order bytes rest n (inl field) = inl (field_longer bytes rest n field)
unit_longer order bytes rest n (inr (x, there, le)) = inr (x, taken_longer order bytes rest x (length_size x.0) there, le)

-- one byte more than is cut off
one_in_unit : (versions : Versions) (order : Order) (front : List ℕ) (n : ℕ) → n ≡ suc (length front) → IsCut versions order front → InUnit order front n
one_in_unit versions order front n one (offset, inl field) = elim (cut_in_field order front offset field) [
  | inl four ↦ inl (inl (omega (arith, four, one)))
  | inr twelve ↦ inl (inr (omega (arith, twelve.0, one), twelve.1))
]
one_in_unit versions order front n one (offset, inr (format, count, rest, own, fits, split, sum, breaks)) = elim (fewer_or_enough (length rest) count) [
  | inl fewer ↦
      let s : List ℕ = (length_field order).spell (format, count) in
      let size : length s ≡ length_size format = initial-size order 0 format count in
      inr (
        (format, count),
        record { rest = rest; fits = fits; split = split; is_size = size; within = omega (arith, initial_within order 0 format count, size) },
        omega (arith, one, fewer, size, ap length split, length-append s rest),
      )
  | inr enough ↦ absurd (fields_never_truncated versions order format rest count own Truncated enough breaks refl)
]

-- a list is empty, or has a last one
last_of : (b : ℕ) (bs : List ℕ) → (front : List ℕ) × (last : ℕ) × (b ∷ bs ≡ front ++ last ∷ [])
last_of b [] = ([], b, refl)
last_of b (c ∷ bs) = let l = last_of c bs in (b ∷ l.0, l.1, ap (λ (xs : List ℕ). b ∷ xs) l.2)

-- no more were taken than the feed wants
pub wanted_inside : (versions : Versions) (order : Order) (taken got : List ℕ) (n : ℕ) → InUnit order taken (length taken) → Wants versions order (Reading taken) n → length got ≤ n → InUnit order (taken ++ got) (length (taken ++ got))
wanted_inside versions order taken [] n inside wants le = subst (λ (bs : List ℕ). InUnit order bs (length bs)) (sym (append-nil taken)) inside
wanted_inside versions order taken (g ∷ gs) n inside wants le =
    let l = last_of g gs in
    let all : (taken ++ l.0) ++ l.1 ∷ [] ≡ taken ++ g ∷ gs = append_assoc taken l.0 (l.1 ∷ []) ∙ ap (λ (xs : List ℕ). taken ++ xs) (sym l.2) in
    let one : length (taken ++ g ∷ gs) ≡ suc (length (taken ++ l.0)) = omega (arith, ap length (sym all), length-append (taken ++ l.0) (l.1 ∷ [])) in
    let cut : IsCut versions order (taken ++ l.0) = wants.1 l.0 (omega (arith, le, ap length l.2, length-append l.0 (l.1 ∷ []))) in
    subst (λ (xs : List ℕ). InUnit order xs (length (taken ++ g ∷ gs))) all (unit_longer order (taken ++ l.0) (l.1 ∷ []) (length (taken ++ g ∷ gs)) (one_in_unit versions order (taken ++ l.0) (length (taken ++ g ∷ gs)) one cut))

-- a feed that wants more took bytes that are cut off
pub wants_cut : (versions : Versions) (order : Order) (taken : List ℕ) (n : ℕ) → Wants versions order (Reading taken) n → IsCut versions order taken
wants_cut versions order taken n wants = subst (IsCut versions order) (append-nil taken) (wants.1 [] wants.0)

-- ---- what the feed answers

module _ (versions : Versions) (order : Order) (feed : HeadFeed) (taken : List ℕ) (state_is : feed.state ≡ Reading taken) (order_is : feed.order ≡ order) (versions_is : feed.versions ≡ versions) where
  pub reading_wants : (n : ℕ) → Wants feed.versions feed.order feed.state n → Wants versions order (Reading taken) n
  reading_wants n wants = subst (λ (s : HeadState). Wants versions order s n) state_is (subst (λ (o : Order). Wants versions o feed.state n) order_is (subst (λ (v : Versions). Wants v feed.order feed.state n) versions_is wants))

  reading_answers : (piece : List ℕ) (n : ℕ) (a : Progress (Header × ℕ)) (new : HeadFeed) → FeedsHead feed piece n a new → Answers versions order (Reading taken) piece n a new.state
  reading_answers piece n a new says =
      subst (λ (s : HeadState). Answers versions order s piece n a new.state) state_is (subst (λ (o : Order). Answers versions o feed.state piece n a new.state) order_is (subst (λ (v : Versions). Answers v feed.order feed.state piece n a new.state) versions_is says.answers))

  -- the front of a buffer
  pub reading_pushed : (buf others : List ℕ) (got n : ℕ) (a b : Progress (Header × ℕ)) (new : HeadFeed) → got ≤ length buf → a ≡ b → FeedsHead feed (take got (buf ++ others)) n a new → Answers versions order (Reading taken) (take got buf) n b new.state
  reading_pushed buf others got n a b new le is says = subst (λ (x : Progress (Header × ℕ)). Answers versions order (Reading taken) (take got buf) n x new.state) is
      (subst (λ (p : List ℕ). Answers versions order (Reading taken) p n a new.state) (take-append-le got buf others le) (reading_answers (take got (buf ++ others)) n a new says))

  pub reading_ended : (f : TheFault) → Ends feed.versions feed.order feed.state (Some f) → HeaderFaultUnder versions order taken f
  reading_ended f ends = (subst (λ (s : HeadState). Ends versions order s (Some f)) state_is (subst (λ (o : Order). Ends versions o feed.state (Some f)) order_is (subst (λ (v : Versions). Ends v feed.order feed.state (Some f)) versions_is ends))).0

pub more_reads : (versions : Versions) (order : Order) (taken piece : List ℕ) (n : ℕ) (new : HeadState) → Answers versions order (Reading taken) piece n More new → (new ≡ Reading (taken ++ piece)) × IsCut versions order (taken ++ piece)
more_reads versions order taken piece n (Reading now) says = (ap (λ (bs : List ℕ). Reading bs) says.1, subst (IsCut versions order) says.1 says.2)
more_reads versions order taken piece n (Refused f) says = absurd says
more_reads versions order taken piece n Finished says = absurd says

-- a header isn't cut off
not_cut : (versions : Versions) (order : Order) (bytes : List ℕ) (h : Header) (n : ℕ) → IsHeader versions order bytes h n → IsCut versions order bytes → ⊥
not_cut versions order bytes h n is cut =
    let there : HeaderAtUnder versions h.order bytes h n = subst (λ (bs : List ℕ). HeaderAtUnder versions h.order bs h n) (append-nil (header_bytes h n) ∙ sym is.all) (spelled_headers_stand versions h n [] is.accepted is.fits) in
    no_header_and_break versions order bytes h n cut.0 Truncated (subst (λ (o : Order). HeaderAtUnder versions o bytes h n) is.order_is there) cut.1

pub done_reads : (versions : Versions) (order : Order) (taken piece : List ℕ) (n want : ℕ) (x : Header × ℕ) (new : HeadState) → Wants versions order (Reading taken) want → length piece ≤ want
    → Answers versions order (Reading taken) piece n (Done x) new → IsHeader versions order (taken ++ piece) x.0 x.1
done_reads versions order taken piece n want x (Reading now) wants le says = absurd says
done_reads versions order taken piece n want x (Refused f) wants le says = absurd says
done_reads versions order taken piece n want x Finished wants le says = elim (fewer_or_enough n (length piece)) [
  | inl fewer ↦ absurd (not_cut versions order (taken ++ take n piece) x.0 x.1 says.1 (wants.1 (take n piece) (omega (arith, fewer, le, length-take n piece))))
  | inr enough ↦ subst (λ (bs : List ℕ). IsHeader versions order (taken ++ bs) x.0 x.1) (take_all n piece enough) says.1
]

pub fault_reads : (versions : Versions) (order : Order) (taken piece rest : List ℕ) (n : ℕ) (f : TheFault) (new : HeadState) → Answers versions order (Reading taken) piece n (Fault f) new → HeaderFaultUnder versions order ((taken ++ piece) ++ rest) f
fault_reads versions order taken piece rest n f (Reading now) says = absurd says
fault_reads versions order taken piece rest n f Finished says = absurd says
fault_reads versions order taken piece rest n f (Refused g) says =
    let all : (taken ++ take n piece) ++ (drop n piece ++ rest) ≡ (taken ++ piece) ++ rest =
    sym (append_assoc (taken ++ take n piece) (drop n piece) rest)
    ∙ ap (λ (bs : List ℕ). bs ++ rest) (append_assoc taken (take n piece) (drop n piece) ∙ ap (λ (bs : List ℕ). taken ++ bs) (take-append-drop n piece)) in (
      says.2.0,
      subst (λ (bs : List ℕ). Rattle.dw_header.specs.HeaderPlace.HeaderBreaksUnder versions order bs f.offset f.reason) all
          (header_breaks_stay versions order (taken ++ take n piece) (drop n piece ++ rest) f.offset f.reason says.3 says.2.1),
    )

-- ---- what was taken where no header is read

module _ (versions : Versions) (order : Order) (before : List ℕ) (old new : Option (List ℕ)) (taken : List ℕ) (took : Consumes (behind before old) new taken) (inside : InUnit order taken (length taken)) (front : StartsWith before taken) where
  taken_inside : InUnit order (taken ++ left_of new) (length taken)
  taken_inside = unit_longer order taken (left_of new) (length taken) inside

  all_starts : StartsWith before (taken ++ left_of new)
  all_starts = starts_longer before taken (left_of new) front

  -- the reader failed
  pub takes_till_io : (all : List ℕ) × (h : Takes (behind before old) new all) × Unit {0} × InUnit order all (length h.taken) × StartsWith before all
  takes_till_io = (taken ++ left_of new, takes_of (behind before old) new taken took, tt, taken_inside, all_starts)

  -- the header has a fault
  pub takes_till_fault : (f : TheFault) → HeaderFaultUnder versions order (taken ++ left_of new) f → TakesNoHeader versions order before old new (reads.Fault f)
  takes_till_fault f fault = (taken ++ left_of new, takes_of (behind before old) new taken took, fault, taken_inside, all_starts)

-- the reader has no more
pub ends_in_header : (versions : Versions) (order : Order) (new : Option (List ℕ)) (taken : List ℕ) (f : TheFault) → IsAtEnd new → HeaderFaultUnder versions order taken f → HeaderFaultUnder versions order (taken ++ left_of new) f
ends_in_header versions order new taken f end fault = subst (λ (bs : List ℕ). HeaderFaultUnder versions order bs f) (sym (append-nil taken) ∙ ap (λ (bs : List ℕ). taken ++ bs) (sym (left_at_end new end))) fault

-- ---- how far a fault stands

-- a header's fault stands within the bytes that show it, and they are few
pub fault_near : (versions : Versions) (order : Order) (taken piece : List ℕ) (n : ℕ) (f : TheFault) (new : HeadState) → IsCut versions order taken → length piece ≤ 12 → Answers versions order (Reading taken) piece n (Fault f) new → FaultWithin (2 ^ 63) (reads.Fault f)
fault_near versions order taken piece n f (Reading now) cut le says = absurd says
fault_near versions order taken piece n f Finished cut le says = absurd says
fault_near versions order taken piece n f (Refused g) cut le says = λ info.
    omega (arith, header_inside versions order (taken ++ take n piece) f.offset f.reason says.2.1, length-append taken (take n piece), length-take n piece, le, cut_headers_are_short versions order taken cut)

pub end_near : (versions : Versions) (order : Order) (taken : List ℕ) (f : TheFault) → IsCut versions order taken → HeaderFaultUnder versions order taken f → FaultWithin (2 ^ 63) (reads.Fault f)
end_near versions order taken f cut fault = λ info. omega (arith, header_inside versions order taken f.offset f.reason fault.1, cut_headers_are_short versions order taken cut)
