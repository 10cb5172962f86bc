-- A header that is cut off by the input's end has fewer than 40 bytes, and a proper front of a header is cut off.
use Rattle.std.proofs.Common.{Bool, true, false, ◌≡◌, ℕ, ◌+◌, ◌≤◌, ◌<◌, List, [], ◌∷◌, ◌++◌, length, take, drop, refl, sym, ap, subst, ◌∙◌, append-nil, arith, inl, inr}
use Rattle.std.specs.Prelude.{if◌then◌else◌, ◌==◌}
use Rattle.std.proofs.lemmas.List.{length-append, take-append-drop, take-append-le, take_at}
use Rattle.dw_leb.specs.declared.errors.Reason.{Reason}
use Rattle.dw_leb.specs.declared.errors.Reason.TheVariants.{Truncated}
use Rattle.dw_leb.specs.declared.order.Order.{Order}
use Rattle.dw_leb.specs.declared.order.Format.{Format}
use Rattle.dw_leb.specs.declared.order.Format.TheVariants.{Dwarf32, Dwarf64}
use Rattle.dw_leb.specs.Part.{Breaks, Part, ◌then◌, judged, optional}
use Rattle.dw_leb.specs.Number.{Short, fixed, initial_length, length_field, length_limit, length_size, offset_size, reserved, too_far}
use Rattle.dw_leb.specs.Digits.{length-fixed}
use Rattle.dw_leb.specs.DecideNumber.{initial-size}
use Rattle.dw_header.specs.declared.versions.Versions.{Versions}
use Rattle.dw_header.specs.Header.{Header, numbers, added_sizes, bad_type, bad_address_size, bad_version_under, five_part, four_part, fields_behind, fields_under}
use Rattle.dw_header.specs.HeaderPlace.{HeaderAtUnder, HeaderBreaksUnder, header_bytes}
use Rattle.dw_header.specs.Laws.{HasHeaderBytes, headers_are_spelled, headers_are_accepted, spelled_headers_stand, no_header_and_break}
use Rattle.dw_leb.specs.Moments.{Judges}
use Rattle.dw_leb.specs.NumberMoments.{reserved_judges, too_far_judges}
use Rattle.dw_header.specs.HeaderMoments.{type_judges, address_size_judges, version_judges}

-- what is cut off has fewer bytes than this
abbrev pub CutBelow : ℕ → Breaks → Type 0
CutBelow n P = (bytes : List ℕ) (lim offset : ℕ) → P bytes lim offset Truncated → length bytes < n

-- no spelling has more bytes than this
abbrev SpelledWithin : {X : Type 0} → ℕ → Part X → Type 0
SpelledWithin {X} n P = (x : X) → P.Fits x → length (P.spell x) ≤ n

pub short_cut : (n : ℕ) → CutBelow n (Short n)
short_cut n bytes lim offset h = elim h.1 [
  | inl past ↦ absurd (not_past past.1)
  | inr cut ↦ cut.1
]
  where
    not_past : Truncated ≡ Rattle.dw_leb.specs.declared.errors.Reason.TheVariants.PastUnit → ⊥
    not_past e = cc

fixed_within : (order : Order) (n : ℕ) → SpelledWithin n (fixed order n)
fixed_within order n x fits = omega (arith, length-fixed order n x)

pub judged_cut : {X : Type 0} (n : ℕ) (P : Part X) (meaning : X → _) → CutBelow n P.Break → Judges meaning
    → CutBelow n (judged P meaning).Break
judged_cut n P meaning it judges bytes lim offset h = elim h [
  | inl one ↦ it bytes lim offset one
  | inr two ↦ absurd (judges two.value two.refused)
]

then_cut : {A B : Type 0} (m n : ℕ) (P : Part A) (Q : A → Part B) → CutBelow m P.Break → SpelledWithin m P
    → ((a : A) → CutBelow n (Q a).Break) → CutBelow (m + n) (P then Q).Break
then_cut m n P Q first within second bytes lim offset h = elim h [
  | inl one ↦ omega (arith, first bytes lim offset one)
  | inr two ↦
      let a = two.2 in
      omega (
        arith,
        ap length a.split,
        length-append (P.spell two.0) a.rest,
        within two.0 two.1,
        second two.0 a.rest _ a.own a.breaks,
      )
]

optional_cut : {A : Type 0} (n : ℕ) (b : Bool) (P : Part A) → CutBelow n P.Break → CutBelow n (optional b P).Break
optional_cut n true P it bytes lim offset h = it bytes lim offset h
optional_cut n false P it bytes lim offset h = absurd h

more_cut : (m n : ℕ) (P : Breaks) → m ≤ n → CutBelow m P → CutBelow n P
more_cut m n P le it bytes lim offset h = omega (arith, le, it bytes lim offset h)

-- ---- header fields

abbrev total : List ℕ → ℕ
total [] = 0
total (n ∷ ns) = n + total ns

numbers_cut : (order : Order) (ns : List ℕ) → CutBelow (total ns) (numbers order ns).Break
numbers_cut order [] bytes lim offset h = absurd h
numbers_cut order (n ∷ ns) bytes lim offset h =
    then_cut n (total ns) (fixed order n) (λ _. numbers order ns) (short_cut n) (fixed_within order n)
    (λ _. numbers_cut order ns) bytes lim offset h

offset_most : (format : Format) → offset_size format ≤ 8
offset_most Dwarf32 = omega arith
offset_most Dwarf64 = omega arith

added_most : (format : Format) (kind : ℕ) → total (added_sizes format kind) ≤ 16
added_most format kind = by (kind == 2) (kind == 4)
  where
    by : (a b : Bool) → total (if a then 8 ∷ offset_size format ∷ [] else (if b then 8 ∷ [] else [])) ≤ 16
    by true b = omega (arith, offset_most format)
    by false true = omega arith
    by false false = omega arith

five_cut : (order : Order) (format : Format) → CutBelow 26 (five_part order format).Break
five_cut order format =
    then_cut 1 25 (judged (fixed order 1) bad_type)
    (λ kind.
    judged (fixed order 1) bad_address_size then
    λ _. fixed order (offset_size format) then λ _. numbers order (added_sizes format kind))
    (judged_cut 1 (fixed order 1) bad_type (short_cut 1) type_judges) (λ x fits. fixed_within order 1 x fits.0) λ kind.
    then_cut 1 24 (judged (fixed order 1) bad_address_size)
    (λ _. fixed order (offset_size format) then λ _. numbers order (added_sizes format kind))
    (judged_cut 1 (fixed order 1) bad_address_size (short_cut 1) address_size_judges)
    (λ x fits. fixed_within order 1 x fits.0) λ _.
    then_cut 8 16 (fixed order (offset_size format)) (λ _. numbers order (added_sizes format kind))
    (more_cut (offset_size format) 8 (Short (offset_size format)) (offset_most format) (short_cut (offset_size format)))
    (λ x fits. omega (arith, fixed_within order (offset_size format) x fits, offset_most format)) λ _.
    more_cut (total (added_sizes format kind)) 16 (numbers order (added_sizes format kind)).Break
    (added_most format kind) (numbers_cut order (added_sizes format kind))

four_cut : (order : Order) (format : Format) → CutBelow 9 (four_part order format).Break
four_cut order format =
    then_cut 8 1 (fixed order (offset_size format)) (λ _. judged (fixed order 1) bad_address_size)
    (more_cut (offset_size format) 8 (Short (offset_size format)) (offset_most format) (short_cut (offset_size format)))
    (λ x fits. omega (arith, fixed_within order (offset_size format) x fits, offset_most format)) λ _.
    judged_cut 1 (fixed order 1) bad_address_size (short_cut 1) address_size_judges

behind_cut : (order : Order) (format : Format) (four : Bool) → CutBelow 26 (fields_behind order format four).Break
behind_cut order format true = more_cut 9 26 (four_part order format).Break (omega arith) (four_cut order format)
behind_cut order format false = five_cut order format

fields_cut : (versions : Versions) (order : Order) (format : Format)
    → CutBelow 28 (fields_under versions order format).Break
fields_cut versions order format =
    then_cut 2 26 (judged (fixed order 2) (bad_version_under versions))
    (λ version. fields_behind order format (version == 4))
    (judged_cut 2 (fixed order 2) (bad_version_under versions) (short_cut 2) (version_judges versions))
    (λ x fits. fixed_within order 2 x fits.0) λ version.
    behind_cut order format (version == 4)

length_cut : (order : Order) → CutBelow 12 (initial_length order 0).Break
length_cut order = judged_cut 12 (length_field order) (too_far 0) field_cut (too_far_judges 0)
  where
    field_cut : CutBelow 12 (length_field order).Break
    field_cut bytes lim offset h =
        then_cut 4 8 (judged (fixed order 4) reserved) (λ x. optional (x == 0xffffffff) (fixed order 8))
        (judged_cut 4 (fixed order 4) reserved (short_cut 4) reserved_judges) (λ x fits. fixed_within order 4 x fits.0)
        (λ x. optional_cut 8 (x == 0xffffffff) (fixed order 8) (short_cut 8)) bytes lim h.1 h.2

length_most : (format : Format) → length_size format ≤ 12
length_most Dwarf32 = omega arith
length_most Dwarf64 = omega arith

-- ---- headers

-- cut off by the input's end
abbrev pub IsCut : Versions → Order → List ℕ → Type 0
IsCut versions order bytes = (offset : ℕ) × HeaderBreaksUnder versions order bytes offset Truncated

-- the header of a type unit of the 64-bit format has 40 bytes, and none has more
pub cut_headers_are_short : (versions : Versions) (order : Order) (bytes : List ℕ) → IsCut versions order bytes
    → length bytes < 40
cut_headers_are_short versions order bytes (offset, inl one) =
    omega (arith, length_cut order bytes length_limit offset one)
cut_headers_are_short versions order bytes (offset, inr (format, n, rest, own, fits, split, sum, breaks)) =
    let s : List ℕ = (length_field order).spell (format, n) in
    omega (
      arith,
      ap length split,
      length-append s rest,
      initial-size order 0 format n,
      length_most format,
      fields_cut versions order format rest n own breaks,
    )

-- bytes that begin with a header, and are cut off without their last one, are the header
pub header_is_all : (versions : Versions) (order : Order) (front : List ℕ) (b : ℕ) (h : Header) (n : ℕ)
    → IsCut versions order front → HeaderAtUnder versions order (front ++ b ∷ []) h n
    → front ++ b ∷ [] ≡ header_bytes h n
header_is_all versions order front b h n cut stands = by s.2.0 s.2.1
  where
    s : (h.order ≡ order) × HasHeaderBytes h n × ((rest : List ℕ) × (front ++ b ∷ [] ≡ header_bytes h n ++ rest))
    s = headers_are_spelled versions order (front ++ b ∷ []) h n stands

    by : (rest : List ℕ) → front ++ b ∷ [] ≡ header_bytes h n ++ rest → front ++ b ∷ [] ≡ header_bytes h n
    by [] e = e ∙ append-nil (header_bytes h n)
    by (x ∷ rest) e =
        let own : List ℕ = header_bytes h n in
        let le : length own ≤ length front =
        omega (arith, ap length e, length-append front (b ∷ []), length-append own (x ∷ rest)) in
        let same : take (length own) front ≡ own =
        sym (take-append-le (length own) front (b ∷ []) le) ∙ ap (take (length own)) e
        ∙ take_at own (x ∷ rest) (length own) refl in
        let split : own ++ drop (length own) front ≡ front =
        ap (λ (y : List ℕ). y ++ drop (length own) front) (sym same) ∙ take-append-drop (length own) front in
        let there : HeaderAtUnder versions h.order (own ++ drop (length own) front) h n =
        spelled_headers_stand versions h n (drop (length own) front)
        (headers_are_accepted versions order (front ++ b ∷ []) h n stands) s.1 in
        absurd
        (no_header_and_break versions order front h n cut.0 Truncated
        (subst (λ (o : Order). HeaderAtUnder versions o front h n) s.0
        (subst (λ (y : List ℕ). HeaderAtUnder versions h.order y h n) split there))
        cut.1)
