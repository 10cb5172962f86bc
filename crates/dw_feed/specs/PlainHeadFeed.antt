-- A plain feed of a header: it keeps the bytes that it took, and reads them once the header stands. Its answers are
-- those that a feed of a header has to give.
use Rattle.std.proofs.Common.{◌≡◌, ◌⊎◌, ℕ, ◌-◌, ◌<◌, ◌≤◌, Bool, true, false, List, [], ◌∷◌, ◌++◌, length, take, drop, refl, sym, ap, subst, ◌∙◌, append_assoc, append-nil, arith, inl, inr, length-append, length-drop, take-append-drop}
use Rattle.std.specs.Prelude.{nat_lt}
use Rattle.std.proofs.lemmas.Bool.{ltb-true, ltb-false}
use Rattle.std.proofs.lemmas.List.{length-take-le, nil_from_length}
use Rattle.dw_leb.specs.declared.errors.SectionId.TheVariants.{Info}
use Rattle.dw_leb.specs.declared.order.Order.{Order}
use Rattle.dw_leb.specs.Number.{length_field}
use Rattle.dw_leb.specs.Reader.{Outcome, Found, Broken}
use Rattle.dw_leb.specs.Decide.{AreBytes, found_value}
use Rattle.dw_leb.specs.DecideNumber.{initial-size}
use Rattle.dw_header.specs.declared.versions.Versions.{Versions}
use Rattle.dw_header.specs.Header.{Header, fields, fields_of}
use Rattle.dw_header.specs.HeaderPlace.{HeaderAtUnder, HeaderFaultUnder, header_bytes}
use Rattle.dw_header.specs.ReadHeader.{Heading, read_head}
use Rattle.dw_header.specs.HeaderFound.{HeadSays, head_says, head_size}
use Rattle.dw_header.specs.Laws.{heading, head_take, headers_are_spelled, headers_are_accepted}
use Rattle.dw_leb.specs.Moments.{IsCut, fewer_or_enough, front_stands}
use Rattle.dw_header.specs.HeaderMoments.{head_moment, head_has, head_waits}
use Rattle.dw_leb.specs.ByteLists.{front_is_bytes}
use Rattle.dw_feed.specs.declared.progress.Progress.{Progress}
use Rattle.dw_feed.specs.declared.progress.Progress.TheVariants as answers
use Rattle.dw_feed.specs.HeadFeed.{HeadState, Reading, Refused, Finished, IsFirst, Answers}
use Rattle.dw_feed.specs.FeedSteps.{cut_end}

-- the feed after a piece
abbrev pub head_after : List ℕ → List ℕ → Progress Heading → HeadState
head_after taken piece answers.More = Reading (taken ++ piece)
head_after taken piece (answers.Done x) = Finished
head_after taken piece (answers.Fault f) = Refused f
head_after taken piece answers.NoMemory = Finished
head_after taken piece answers.Spent = Finished

-- what a call has to answer that takes n bytes of the piece
abbrev pub SaysHead : Versions → Order → List ℕ → List ℕ → ℕ → Progress Heading → Type 0
SaysHead versions order taken piece n answer =
    Answers versions order (Reading taken) piece n answer (head_after taken piece answer)

abbrev pub answer_head : Outcome Heading → Progress Heading
answer_head (Found x size) = answers.Done x
answer_head (Broken offset reason) = answers.Fault (record { section = Info; offset = offset; reason = reason })

-- the answer, and how many bytes of the piece are left over
abbrev pub head_if : Versions → Order → List ℕ → Bool → Progress Heading × ℕ
head_if versions order bytes true = (answers.More, 0)
head_if versions order bytes false =
    (answer_head (read_head versions order bytes), length bytes - head_moment versions order bytes 0)

abbrev pub feed_head : Versions → Order → List ℕ → List ℕ → Progress Heading × ℕ
feed_head versions order taken piece =
    head_if versions order (taken ++ piece)
    (nat_lt (length (taken ++ piece)) (head_moment versions order (taken ++ piece) 0))

-- of the header fewer bytes were taken before than it wants, or none
module _ (versions : Versions) (order : Order) (taken piece : List ℕ) (fit : AreBytes (taken ++ piece))
    (waiting : (length taken < head_moment versions order taken 0) ⊎ (taken ≡ [])) where
  abbrev all : List ℕ
  all = taken ++ piece

  abbrev wanted : ℕ
  wanted = head_moment versions order all 0

  abbrev own : List ℕ
  own = take wanted all

  parts : own ++ drop wanted all ≡ all
  parts = take-append-drop wanted all

  fit_own : AreBytes own
  fit_own = front_is_bytes own (drop wanted all) (subst AreBytes (sym parts) fit)

  short_says : length all < wanted → SaysHead versions order taken piece (length piece - 0) answers.More
  short_says short = (
    omega arith,
    refl,
    head_waits versions order all [] fit
        (omega (arith, short, ap (λ (bs : List ℕ). head_moment versions order bs 0) (append-nil all))),
  )

  module _ (enough : wanted ≤ length all) where
    own_long : length own ≡ wanted
    own_long = length-take-le wanted all enough

    own_read : read_head versions order own ≡ read_head versions order all
    own_read =
        front_stands _ _ (head_has versions order) own (drop wanted all) 0
        (omega (arith, own_long, ap (λ (bs : List ℕ). head_moment versions order bs 0) parts))
        ∙ ap (read_head versions order) parts

    own_first : IsFirst versions order own
    own_first front b e =
        let split : front ++ (b ∷ drop wanted all) ≡ all =
        sym (append_assoc front (b ∷ []) (drop wanted all))
        ∙ ap (λ (bs : List ℕ). bs ++ drop wanted all) (sym e) ∙ parts in
        head_waits versions order front (b ∷ drop wanted all) (front_is_bytes front (b ∷ []) (subst AreBytes e fit_own))
        (omega (
          arith,
          ap (λ (bs : List ℕ). head_moment versions order bs 0) split,
          own_long,
          ap length e,
          length-append front (b ∷ []),
        ))

    over : length all - wanted ≤ length piece
    over = by waiting
      where
        by : (length taken < head_moment versions order taken 0) ⊎ (taken ≡ []) → length all - wanted ≤ length piece
        by (inr new) = omega (arith, length-append taken piece, ap length new)
        by (inl short) = elim (fewer_or_enough (length taken) wanted) [
          | inl many ↦ omega (arith, many, length-append taken piece)
          | inr few ↦ absurd (omega (arith, short, (head_has versions order).early taken piece 0 few))
        ]

    taken_is : taken ++ take (length piece - (length all - wanted)) piece ≡ own
    taken_is =
        let left_over : length (drop wanted all) ≡ length all - wanted = length-drop wanted all in
        ap (λ (m : ℕ). taken ++ take (length piece - m) piece) (sym left_over)
        ∙ cut_end taken piece own (drop wanted all) (sym parts) (omega (arith, left_over, over))

    -- all of it is the header
    header_is : (h : Header) (m size : ℕ) → read_head versions order all ≡ Found (h, m) size
        → HeaderAtUnder versions order own h m → own ≡ header_bytes h m
    header_is h m size e there =
        let s = headers_are_spelled versions order own h m there in
        let rest : List ℕ = s.2.0 in
        let i : List ℕ = (length_field h.order).spell (h.format, m) in
        let f : List ℕ = (fields h.order h.format).spell (fields_of h) in
        let want : wanted ≡ size = (head_has versions order).whole all 0 (h, m) size e in
        let sized =
        found_value (heading h m) (heading h m) size _
        (sym e ∙ sym own_read ∙ head_take versions order own h m there) in
        let none_left : length rest ≡ 0 =
        omega (
          arith,
          own_long,
          want,
          sized.1,
          head_size versions order own h m there,
          initial-size h.order 0 h.format m,
          ap length s.2.1,
          length-append (i ++ f) rest,
          length-append i f,
        ) in
        s.2.1 ∙ ap (λ (bs : List ℕ). header_bytes h m ++ bs) (nil_from_length rest none_left)
        ∙ append-nil (header_bytes h m)

    read_says : (o : Outcome Heading) → read_head versions order all ≡ o → HeadSays versions order own o → (IsCut o → ⊥)
        → SaysHead versions order taken piece (length piece - (length all - wanted)) (answer_head o)
    read_says (Found x size) e h stands = (
      omega arith,
      record {
        order_is = h.0;
        accepted = headers_are_accepted versions order own x.0 x.1 h;
        fits = (headers_are_spelled versions order own x.0 x.1 h).1;
        all = taken_is ∙ header_is x.0 x.1 size e h;
      },
      subst (IsFirst versions order) (sym taken_is) own_first,
    )
    read_says (Broken offset reason) e h stands = (
      omega arith,
      refl,
      subst
          (λ (bs : List ℕ).
          HeaderFaultUnder versions order bs (record { section = Info; offset = offset; reason = reason }))
          (sym taken_is) (refl, h),
      (λ c. stands c),
      subst (IsFirst versions order) (sym taken_is) own_first,
    )

    enough_says :
        SaysHead versions order taken piece (length piece - (length all - wanted))
        (answer_head (read_head versions order all))
    enough_says =
        read_says (read_head versions order all) refl
        (subst (HeadSays versions order own) own_read (head_says versions order own fit_own))
        ((head_has versions order).stands all 0 enough)

  by_length : (v : Bool) → nat_lt (length all) wanted ≡ v
      → SaysHead versions order taken piece (length piece - (head_if versions order all v).1)
      (head_if versions order all v).0
  by_length true e = short_says (ltb-true _ _ e)
  by_length false e = enough_says (ltb-false _ _ e)

  pub every_head :
      SaysHead versions order taken piece (length piece - (feed_head versions order taken piece).1)
      (feed_head versions order taken piece).0
  every_head = by_length (nat_lt (length all) wanted) refl
