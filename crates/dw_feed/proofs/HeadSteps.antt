-- A feed of a header, of which pieces are read at once, and where they have a fault byte by byte.
use Rattle.std.proofs.Common.{◌≡◌, ◌≢◌, ℕ, suc, ◌+◌, ◌-◌, ◌≤◌, List, [], ◌∷◌, ◌++◌, length, take, drop, refl, sym, ap, subst, ◌∙◌, append_assoc, arith, inl, inr, true≢false}
use Rattle.std.specs.Prelude.{min, Result, Ok, Err, IsOk, OnOk, ◌↔◌}
use Rattle.std.proofs.lemmas.Bool.{cases_lt}
use Rattle.std.proofs.lemmas.List.{length-append, length-take, take_at, take_all, take-append-le, take-append-drop, append_cancel_left, same_from_push}
use Rattle.dw_leb.specs.declared.errors.Reason.TheVariants.{Truncated}
use Rattle.dw_leb.specs.Number.{length_field}
use Rattle.dw_leb.specs.DecideNumber.{initial-size}
use Rattle.dw_header.specs.HeaderMoments.{header_front_waits}
use Rattle.dw_leb.specs.declared.errors.Fault.{Fault as TheFault}
use Rattle.dw_leb.specs.declared.order.Order.{Order}
use Rattle.dw_header.specs.declared.versions.Versions.{Versions}
use Rattle.dw_header.specs.Header.{Header, Accepts, fields, fields_of}
use Rattle.dw_header.specs.HeaderPlace.{HeaderFaultUnder, HeaderAtUnder, header_bytes, header_size}
use Rattle.dw_header.specs.Laws.{HasHeaderBytes, headers_are_spelled, headers_are_accepted, spelled_headers_stand, no_header_and_break}
use Rattle.dw_feed.specs.declared.progress.Progress.{Progress}
use Rattle.dw_feed.specs.declared.progress.Progress.TheVariants.{More, Done, Fault, NoMemory, Spent}
use Rattle.dw_feed.specs.HeaderCut.{IsCut, header_is_all, cut_headers_are_short}
use Rattle.dw_feed.specs.HeadFeed.{Reading, IsHeader, IsFirst, Answers}
use Rattle.dw_feed.specs.HeadFeedView.{state_of, ended, JudgedAs, ShowsHead}

-- bytes of which the last one ends a header
pub header_ends : (versions : Versions) (order : Order) (old : List ℕ) (b : ℕ) (h : Header) (n : ℕ) → IsCut versions order old → HeaderAtUnder versions order (old ++ b ∷ []) h n → IsHeader versions order (old ++ b ∷ []) h n
header_ends versions order old b h n cut stands =
    let s = headers_are_spelled versions order (old ++ b ∷ []) h n stands in
    record { order_is = s.0; accepted = headers_are_accepted versions order (old ++ b ∷ []) h n stands; fits = s.1; all = header_is_all versions order old b h n cut stands }

-- bytes that have a fault
pub fault_shows : (versions : Versions) (order : Order) (bytes : List ℕ) (f : TheFault) (answer : Progress (Header × ℕ)) → HeaderFaultUnder versions order bytes f → JudgedAs f answer → ShowsHead versions order bytes answer
fault_shows versions order bytes f More fault judged = (f.offset, subst (λ r. Rattle.dw_header.specs.HeaderPlace.HeaderBreaksUnder versions order bytes f.offset r) judged fault.1)
fault_shows versions order bytes f (Done x) fault judged = absurd judged
fault_shows versions order bytes f (Fault g) fault judged = (subst (HeaderFaultUnder versions order bytes) (sym judged.0) fault, λ e. judged.1 (ap (λ (h : TheFault). h.reason) (sym judged.0) ∙ e))
fault_shows versions order bytes f NoMemory fault judged = absurd judged
fault_shows versions order bytes f Spent fault judged = absurd judged

-- the whole piece was taken, and more are needed
pub all_taken : (versions : Versions) (order : Order) (old piece now : List ℕ) → now ≡ old ++ piece → IsCut versions order now → Answers versions order (Reading old) piece (length piece) More (state_of now (ended More))
all_taken versions order old piece now is cut = (refl, is, cut)

-- these and one byte more were taken, which stops the feed
abbrev pub Stops : Progress (Header × ℕ) → Type 0
Stops answer = answer ≢ More

pub one_stops : (versions : Versions) (order : Order) (old p rest : List ℕ) (b : ℕ) (now : List ℕ) (answer : Progress (Header × ℕ)) → Stops answer → IsCut versions order (old ++ p) → ShowsHead versions order ((old ++ p) ++ b ∷ []) answer
    → Answers versions order (Reading old) (p ++ b ∷ rest) (suc (length p)) answer (state_of now (ended answer))
one_stops versions order old p rest b now answer stops cut shows = by answer stops shows
  where
    same : (old ++ p) ++ b ∷ [] ≡ old ++ take (suc (length p)) (p ++ b ∷ rest)
    same =
        append_assoc old p (b ∷ [])
        ∙ ap (λ (x : List ℕ). old ++ x) (sym (take_at (p ++ b ∷ []) rest (suc (length p)) (length-append p (b ∷ []) ∙ (let n : length p + 1 ≡ suc (length p) = omega arith in n))))
        ∙ ap (λ (x : List ℕ). old ++ take (suc (length p)) x) (append_assoc p (b ∷ []) rest)

    within : suc (length p) ≤ length (p ++ b ∷ rest)
    within = omega (arith, length-append p (b ∷ rest))

    first : IsFirst versions order ((old ++ p) ++ b ∷ [])
    first front c e = subst (IsCut versions order) (same_from_push (old ++ p) front b c e).0 cut

    by : (answer : Progress (Header × ℕ)) → Stops answer → ShowsHead versions order ((old ++ p) ++ b ∷ []) answer → Answers versions order (Reading old) (p ++ b ∷ rest) (suc (length p)) answer (state_of now (ended answer))
    by More stops h = absurd (stops refl)
    by (Done x) stops h = (within, subst (λ (s : List ℕ). IsHeader versions order s x.0 x.1) same h, subst (IsFirst versions order) same first)
    by (Fault f) stops h = (within, refl, subst (λ (s : List ℕ). HeaderFaultUnder versions order s f) same h.0, h.1, subst (IsFirst versions order) same first)
    by NoMemory stops h = absurd h
    by Spent stops h = absurd h

-- ---- a piece that is read at once

-- the bytes of a header, of which the first ones were taken
module _ (versions : Versions) (order : Order) (old piece rest : List ℕ) (h : Header) (n : ℕ) (cut : IsCut versions order old) (order_is : h.order ≡ order) (accepted : Accepts versions h.kind) (has : HasHeaderBytes h n) (split : old ++ piece ≡ header_bytes h n ++ rest) where
  abbrev own : List ℕ
  own = header_bytes h n

  size_is : length own ≡ header_size h
  size_is = length-append ((length_field h.order).spell (h.format, n)) ((fields h.order h.format).spell (fields_of h)) ∙ ap (λ (m : ℕ). m + length ((fields h.order h.format).spell (fields_of h))) (initial-size h.order 0 h.format n)

  -- else it would stand at the front of what is cut off
  ends_behind : length old ≤ length own
  ends_behind = elim (cases_lt (length own) (length old)) [
    | inl less ↦
        let same : take (length own) old ≡ own = sym (take-append-le (length own) old piece (omega (arith, less))) ∙ ap (take (length own)) split ∙ take_at own rest (length own) refl in
        let whole : own ++ drop (length own) old ≡ old = ap (λ (y : List ℕ). y ++ drop (length own) old) (sym same) ∙ take-append-drop (length own) old in
        let there : HeaderAtUnder versions h.order (own ++ drop (length own) old) h n = spelled_headers_stand versions h n (drop (length own) old) accepted has in
        absurd (no_header_and_break versions order old h n cut.0 Truncated (subst (λ (o : Order). HeaderAtUnder versions o old h n) order_is (subst (λ (y : List ℕ). HeaderAtUnder versions h.order y h n) whole there)) cut.1)
    | inr le ↦ le
  ]

  -- those of the piece
  abbrev new : List ℕ
  new = drop (length old) own

  joined : old ++ new ≡ own
  joined =
      let front : take (length old) own ≡ old = sym (take-append-le (length old) own rest ends_behind) ∙ ap (take (length old)) (sym split) ∙ take_at old piece (length old) refl in
      ap (λ (y : List ℕ). y ++ new) (sym front) ∙ take-append-drop (length old) own

  piece_is : piece ≡ new ++ rest
  piece_is = append_cancel_left old piece (new ++ rest) (split ∙ ap (λ (y : List ℕ). y ++ rest) (sym joined) ∙ append_assoc old new rest)

  count : length old + length new ≡ header_size h
  count = sym (length-append old new) ∙ ap length joined ∙ size_is

  taken_is : old ++ take (header_size h - length old) piece ≡ own
  taken_is = ap (λ (y : List ℕ). old ++ take (header_size h - length old) y) piece_is ∙ ap (λ (y : List ℕ). old ++ y) (take_at new rest (header_size h - length old) (let q : length new ≡ header_size h - length old = omega (arith, count) in q)) ∙ joined

  answers_header : (now : List ℕ) → Answers versions order (Reading old) piece (header_size h - length old) (Done (h, n)) (state_of now (ended (Done (h, n))))
  answers_header now = (
    omega (arith, count, ap length piece_is, length-append new rest),
    record { order_is = order_is; accepted = accepted; fits = has; all = taken_is },
    λ front b e. subst (λ (o : Order). IsCut versions o front) order_is (header_front_waits versions h n accepted has front b [] (sym taken_is ∙ e)),
  )

-- A header that is read at the front of what was taken and of so many bytes of the piece ends in the piece.
module _ (versions : Versions) (order : Order) (old piece : List ℕ) (k : ℕ) (h : Header) (n : ℕ) (cut : IsCut versions order old) (stands : HeaderAtUnder versions order (old ++ take k piece) h n) where
  spelled : (h.order ≡ order) × HasHeaderBytes h n × ((rest : List ℕ) × (old ++ take k piece ≡ header_bytes h n ++ rest))
  spelled = headers_are_spelled versions order (old ++ take k piece) h n stands

  split_is : old ++ piece ≡ header_bytes h n ++ (spelled.2.0 ++ drop k piece)
  split_is =
      ap (λ (y : List ℕ). old ++ y) (sym (take-append-drop k piece))
      ∙ sym (append_assoc old (take k piece) (drop k piece))
      ∙ ap (λ (y : List ℕ). y ++ drop k piece) spelled.2.1
      ∙ append_assoc (header_bytes h n) spelled.2.0 (drop k piece)

  accepted_is : Accepts versions h.kind
  accepted_is = headers_are_accepted versions order (old ++ take k piece) h n stands

  pub header_past : length old ≤ header_size h
  header_past = omega (arith, count versions order old piece (spelled.2.0 ++ drop k piece) h n cut spelled.0 accepted_is spelled.1 split_is)

  pub header_taken : (now : List ℕ) → Answers versions order (Reading old) piece (header_size h - length old) (Done (h, n)) (state_of now (ended (Done (h, n))))
  header_taken = answers_header versions order old piece (spelled.2.0 ++ drop k piece) h n cut spelled.0 accepted_is spelled.1 split_is

-- The bytes that are put behind those that were taken are so many that they fit.
pub all_fit : {E : Type 0} (old piece now : List ℕ) (before k : ℕ) (r : Result (Unit {0}) E) → before ≡ length old → k ≡ min (length piece) (40 - before) → before ≤ 40 → IsOk r ↔ (length old + length (take k piece) ≤ 40) → OnOk r (now ≡ old ++ take k piece) → now ≡ old ++ take k piece
all_fit old piece now before k (Ok x) is k_is within fits put = put
all_fit old piece now before k (Err e) is k_is within fits put = absurd (true≢false (sym (fits.1 (omega (arith, is, k_is, within, length-take k piece)))))

-- what is cut off has fewer bytes than a header may have, so the whole piece was taken
pub piece_taken : (versions : Versions) (order : Order) (old piece now : List ℕ) (k : ℕ) → k ≡ min (length piece) (40 - length old) → now ≡ old ++ take k piece → IsCut versions order now → Answers versions order (Reading old) piece (length piece) More (state_of now (ended More))
piece_taken versions order old piece now k is taken cut =
    let short = cut_headers_are_short versions order now cut in
    let le : length piece ≤ k = omega (arith, is, short, ap length taken, length-append old (take k piece), length-take k piece) in
    all_taken versions order old piece now (taken ∙ ap (λ (y : List ℕ). old ++ y) (take_all k piece le)) cut
