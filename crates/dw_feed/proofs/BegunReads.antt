-- A unit of which bytes were taken, and are at hand: what the feed of its header answers to them.
use Rattle.std.proofs.Common.{◌≡◌, ◌≢◌, ℕ, ◌+◌, ◌^◌, ◌≤◌, List, [], ◌++◌, length, take, drop, Option, Some, None, refl, sym, ap, subst, ◌∙◌, append_assoc, append-nil, arith, inl, inr, length-append, length-take}
use Rattle.std.proofs.lemmas.List.{take-append-drop}
use Rattle.std.specs.Io.KnownBytes.{Consumes}
use Rattle.dw_leb.specs.declared.errors.Fault.{Fault as TheFault}
use Rattle.dw_leb.specs.declared.errors.Reason.TheVariants.{Truncated}
use Rattle.dw_leb.specs.declared.errors.ReadError.TheVariants as reads
use Rattle.dw_leb.specs.declared.errors.SectionId.{SectionId}
use Rattle.dw_leb.specs.declared.order.Order.{Order}
use Rattle.dw_leb.specs.declared.order.Format.{Format}
use Rattle.dw_leb.specs.Number.{length_field, initial_length, length_size}
use Rattle.dw_leb.specs.DecideNumber.{initial_end}
use Rattle.dw_header.specs.declared.versions.Versions.{Versions}
use Rattle.dw_header.specs.Header.{Header, fields, fields_of}
use Rattle.dw_header.specs.HeaderPlace.{HeaderBreaksUnder, HeaderFaultUnder}
use Rattle.dw_header.specs.Laws.{header_breaks_stay}
use Rattle.dw_unit.specs.Inside.{header_inside}
use Rattle.dw_unit.specs.Unit.{FailsUnder}
use Rattle.dw_unit.specs.UnitView.{FaultWithin}
use Rattle.dw_feed.specs.declared.progress.Progress.{Progress}
use Rattle.dw_feed.specs.declared.progress.Progress.TheVariants.{More, Done, Fault, NoMemory, Spent}
use Rattle.dw_feed.specs.Feed.{behind, InUnit, BeginsUnit, TakesNoUnitBehind}
use Rattle.dw_feed.specs.HeadFeed.{HeadFeed, HeadState, Reading, Refused, Finished, IsHeader, Answers, FeedsHead}
use Rattle.dw_feed.specs.FeedReads.{TakesHeaderWith}
use Rattle.dw_feed.specs.Taking.{left_of, takes_of, behind_taken, taken_longer}
use Rattle.dw_feed.specs.Cut.{same_length}

-- bytes that are in front of others, in front of what is left
front_taken : (front rest : List ℕ) (old : Option (List ℕ)) (bytes : List ℕ) → front ++ rest ≡ bytes → Consumes (behind bytes old) (behind rest old) front
front_taken front rest None bytes is = tt
front_taken front rest (Some left) bytes is = ap (λ (bs : List ℕ). bs ++ left) (sym is) ∙ append_assoc front rest left

module _ (versions : Versions) (order : Order) (bytes : List ℕ) (begun : BeginsUnit order bytes) where
  abbrev fresh : HeadFeed
  fresh = record { order = order; versions = versions; state = Reading [] }

  answers_of : (feed new : HeadFeed) (k : ℕ) (a b : Progress (Header × ℕ)) → feed ≡ fresh → a ≡ b → FeedsHead feed bytes k a new → FeedsHead fresh bytes k b new
  answers_of feed new k a b is same says = subst (λ (x : Progress (Header × ℕ)). FeedsHead fresh bytes k x new) same (subst (λ (x : HeadFeed). FeedsHead x bytes k a new) is says)

  pub begun_inside : InUnit order bytes (length bytes)
  begun_inside = inr begun

  -- it wants more
  pub begun_more : (feed new : HeadFeed) (k : ℕ) (a : Progress (Header × ℕ)) → feed ≡ fresh → a ≡ More → FeedsHead feed bytes k a new → new ≡ record { order = order; versions = versions; state = Reading bytes }
  begun_more feed new k a is same says =
      let h = answers_of feed new k a More is same says in
      ap (λ (o : Order). record { order = o; versions = new.versions; state = new.state }) h.order_is
      ∙ ap (λ (v : Versions). record { order = order; versions = v; state = new.state }) h.versions_is
      ∙ ap (λ (s : HeadState). record { order = order; versions = versions; state = s }) (by new.state h.answers)
    where
      by : (s : HeadState) → Answers versions order (Reading []) bytes k More s → s ≡ Reading bytes
      by (Reading now) h = ap (λ (x : List ℕ). Reading x) h.1
      by (Refused f) h = absurd h
      by Finished h = absurd h

  -- it has a fault
  head_fault : (k : ℕ) (f : TheFault) (s : HeadState) → Answers versions order (Reading []) bytes k (Fault f) s → HeaderFaultUnder versions order (take k bytes) f × (f.reason ≢ Truncated)
  head_fault k f (Reading now) h = absurd h
  head_fault k f (Refused g) h = (h.2, h.3)
  head_fault k f Finished h = absurd h

  pub begun_near : (feed new : HeadFeed) (k : ℕ) (a : Progress (Header × ℕ)) (f : TheFault) → feed ≡ fresh → a ≡ Fault f → FeedsHead feed bytes k a new → FaultWithin (2 ^ 63) (reads.Fault f)
  begun_near feed new k a f is same says = λ info.
      let h = head_fault k f new.state (answers_of feed new k a (Fault f) is same says).answers in
      omega (arith, header_inside versions order (take k bytes) f.offset f.reason h.0.1, length-take k bytes, begun.2, initial_end order 0 begun.0.0 begun.0.1 begun.1.fits)

  pub begun_fault : (feed new : HeadFeed) (k : ℕ) (a : Progress (Header × ℕ)) (f : TheFault) → feed ≡ fresh → a ≡ Fault f → FeedsHead feed bytes k a new → (section : List ℕ) (old : Option (List ℕ))
      → TakesNoUnitBehind versions section order bytes old old (reads.Fault f)
  begun_fault feed new k a f is same says section old =
      let h = head_fault k f new.state (answers_of feed new k a (Fault f) is same says).answers in
      let all : List ℕ = bytes ++ left_of old in
      let split : take k bytes ++ (drop k bytes ++ left_of old) ≡ all = sym (append_assoc (take k bytes) (drop k bytes) (left_of old)) ∙ ap (λ (x : List ℕ). x ++ left_of old) (take-append-drop k bytes) in
      let breaks : HeaderBreaksUnder versions order all f.offset f.reason = subst (λ (x : List ℕ). HeaderBreaksUnder versions order x f.offset f.reason) split (header_breaks_stay versions order (take k bytes) (drop k bytes ++ left_of old) f.offset f.reason h.1 h.0.1) in (
        all,
        takes_of (behind bytes old) old bytes (behind_taken bytes old),
        subst (λ (s : SectionId). FailsUnder versions order section all s f.offset f.reason) (sym h.0.0) (inl breaks),
        inr (begun.0, taken_longer order bytes (left_of old) begun.0 (length_size begun.0.0) begun.1, begun.2),
        (left_of old, refl),
      )

  -- it has the header
  pub begun_done : (feed new : HeadFeed) (k : ℕ) (a : Progress (Header × ℕ)) (x : Header × ℕ) → feed ≡ fresh → a ≡ Done x → FeedsHead feed bytes k a new → (old : Option (List ℕ)) → TakesHeaderWith versions order bytes (drop k bytes) old old x
  begun_done feed new k a x is same says old = by new.state (answers_of feed new k a (Done x) is same says).answers
    where
      split : take k bytes ++ drop k bytes ≡ bytes
      split = take-append-drop k bytes

      room : IsHeader versions order (take k bytes) x.0 x.1 → length bytes ≤ length_size x.0.format + x.1
      room i =
          let h : Header = x.0 in
          let own : List ℕ = (fields h.order h.format).spell (fields_of h) in
          let len : Order → List ℕ = λ o. (length_field o).spell (h.format, x.1) in
          let tail : List ℕ = drop k bytes in
          let there : len h.order ++ (own ++ tail) ≡ bytes = sym (append_assoc (len h.order) own tail) ∙ ap (λ (y : List ℕ). y ++ tail) (sym i.all) ∙ split in
          let here : len order ++ (own ++ tail) ≡ bytes = subst (λ (o : Order). len o ++ (own ++ tail) ≡ bytes) i.order_is there in
          let alone : (initial_length order 0).Fits (h.format, x.1) = subst (λ (o : Order). (initial_length o 0).Fits (h.format, x.1)) i.order_is i.fits.length_fits in
          let one = same_length order (h.format, x.1) begun.0 (own ++ tail) begun.1.rest alone begun.1.fits (here ∙ begun.1.split) in
          subst (λ (y : Format × ℕ). length bytes ≤ length_size y.0 + y.1) (sym one.0) begun.2

      of_header : IsHeader versions order (take k bytes) x.0 x.1 → TakesHeaderWith versions order bytes (drop k bytes) old old x
      of_header i = (
        take k bytes,
        i,
        front_taken (take k bytes) (drop k bytes) old bytes split,
        ([], split ∙ sym (append-nil bytes)),
        omega (arith, room i, ap length split, length-append (take k bytes) (drop k bytes)),
      )

      by : (s : HeadState) → Answers versions order (Reading []) bytes k (Done x) s → TakesHeaderWith versions order bytes (drop k bytes) old old x
      by (Reading now) h = absurd h
      by (Refused f) h = absurd h
      by Finished h = of_header h.1

  -- and there is nothing else that it answers
  pub begun_not_spent : (feed new : HeadFeed) (k : ℕ) (a : Progress (Header × ℕ)) → feed ≡ fresh → a ≡ Spent → FeedsHead feed bytes k a new → ⊥
  begun_not_spent feed new k a is same says = by new.state (answers_of feed new k a Spent is same says).answers
    where
      by : (s : HeadState) → Answers versions order (Reading []) bytes k Spent s → ⊥
      by (Reading now) h = h
      by (Refused f) h = h
      by Finished h = h

  pub begun_no_memory : (feed new : HeadFeed) (k : ℕ) (a : Progress (Header × ℕ)) → feed ≡ fresh → a ≡ NoMemory → FeedsHead feed bytes k a new → ⊥
  begun_no_memory feed new k a is same says = by new.state (answers_of feed new k a NoMemory is same says).answers
    where
      by : (s : HeadState) → Answers versions order (Reading []) bytes k NoMemory s → ⊥
      by (Reading now) h = h
      by (Refused f) h = h
      by Finished h = h
