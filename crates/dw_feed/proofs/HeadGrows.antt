-- How many bytes a header that is cut off wants at the least: those of the field in which it is.
use Rattle.std.proofs.Common.{◌≡◌, ◌⊎◌, ℕ, ◌+◌, ◌-◌, ◌≤◌, ◌<◌, Bool, true, false, List, [], ◌∷◌, ◌++◌, length, take, drop, Some, None, refl, sym, ap, subst, ◌∙◌, append_assoc, append-nil, arith, inl, inr, length-append}
use Rattle.std.specs.Prelude.{◌==◌, if◌then◌else◌}
use Rattle.std.proofs.lemmas.Bool.{eqb-true}
use Rattle.std.proofs.lemmas.List.{take-append-drop, take_at}
use Rattle.dw_leb.specs.declared.errors.Reason.{Reason}
use Rattle.dw_leb.specs.declared.errors.Reason.TheVariants.{Truncated, BadVersion}
use Rattle.dw_leb.specs.declared.order.Order.{Order}
use Rattle.dw_leb.specs.declared.order.Format.{Format}
use Rattle.dw_leb.specs.declared.order.Format.TheVariants.{Dwarf32, Dwarf64}
use Rattle.dw_leb.specs.Part.{Breaks, Part, ◌then◌, judged}
use Rattle.dw_leb.specs.Number.{Short, fixed, fixed_bytes, length_field, initial_length, length_limit, length_size, offset_size}
use Rattle.dw_leb.specs.Digits.{length-fixed}
use Rattle.dw_leb.specs.DecideNumber.{initial-size, initial_within}
use Rattle.dw_leb.specs.Moments.{Judges}
use Rattle.dw_header.specs.declared.versions.Versions.{Versions}
use Rattle.dw_header.specs.declared.versions.Versions.TheVariants.{Five}
use Rattle.dw_header.specs.Header.{numbers, added_sizes, bad_type, bad_address_size, bad_version_under, five_part, fields_behind, fields_under}
use Rattle.dw_header.specs.HeaderMoments.{type_judges, address_size_judges, version_judges}
use Rattle.dw_feed.specs.Feed.{escape}
use Rattle.dw_feed.specs.HeaderCut.{IsCut, CutBelow, short_cut, judged_cut}
use Rattle.dw_feed.specs.HeadFeed.{Reading, Wants, AreSizes, FieldLacks, Lacks}
use Rattle.dw_feed.specs.Cut.{escape_is, no_escape}
use Rattle.dw_feed.proofs.HeadReads.{short_is_cut, wide_is_cut, no_bytes, cut_in_field}

-- Of what is cut off so many bytes are there at the least. It stays cut off where fewer follow than make so many.
abbrev Grows : ℕ → ℕ → Breaks → Type 0
Grows lo hi P = (bytes piece : List ℕ) (lim offset : ℕ) → lo ≤ length bytes → length (bytes ++ piece) < hi → P bytes lim offset Truncated → (at : ℕ) × P (bytes ++ piece) lim at Truncated

-- each spelling has so many bytes
abbrev SpelledIn : {X : Type 0} → ℕ → Part X → Type 0
SpelledIn {X} n P = (x : X) → P.Fits x → length (P.spell x) ≡ n

short_grows : (n : ℕ) → Grows 0 n (Short n)
short_grows n bytes piece lim offset le lt h = elim h.1 [
  | inl past ↦ absurd (let e : Truncated ≡ Rattle.dw_leb.specs.declared.errors.Reason.TheVariants.PastUnit = past.1 in cc)
  | inr cut ↦ (0, (refl, inr (cut.0, lt, refl)))
]

judged_grows : {X : Type 0} (lo hi : ℕ) (P : Part X) (meaning : X → _) → Grows lo hi P.Break → Judges meaning → Grows lo hi (judged P meaning).Break
judged_grows lo hi P meaning it judges bytes piece lim offset le lt h = elim h [
  | inl one ↦ let g = it bytes piece lim offset le lt one in (g.0, inl g.1)
  | inr two ↦ absurd (judges two.value two.refused)
]

-- in the first
then_first : {A B : Type 0} (lo m : ℕ) (P : Part A) (Q : A → Part B) → SpelledIn m P → Grows lo m P.Break → Grows lo m (P then Q).Break
then_first lo m P Q sized it bytes piece lim offset le lt h = elim h [
  | inl one ↦ let g = it bytes piece lim offset le lt one in (g.0, inl g.1)
  | inr two ↦
      let a = two.2 in
      absurd (omega (arith, lt, length-append bytes piece, ap length a.split, length-append (P.spell two.0) a.rest, sized two.0 two.1))
]

-- in the second
then_second : {A B : Type 0} (m lo hi : ℕ) (P : Part A) (Q : A → Part B) → SpelledIn m P → CutBelow m P.Break → ((a : A) → P.Fits a → Grows lo hi (Q a).Break) → Grows (m + lo) (m + hi) (P then Q).Break
then_second m lo hi P Q sized below it bytes piece lim offset le lt h = elim h [
  | inl one ↦ absurd (omega (arith, le, below bytes lim offset one))
  | inr two ↦
      let a = two.2 in
      let size : length (P.spell two.0) ≡ m = sized two.0 two.1 in
      let len : length bytes ≡ length (P.spell two.0) + length a.rest = ap length a.split ∙ length-append (P.spell two.0) a.rest in
      let g = it two.0 two.1 a.rest piece (lim - length (P.spell two.0)) a.own (omega (arith, le, len, size)) (omega (arith, lt, length-append bytes piece, length-append a.rest piece, len, size)) a.breaks in (
        length (P.spell two.0) + g.0,
        inr (two.0, two.1, record { rest = a.rest ++ piece; own = g.0; split = ap (λ (bs : List ℕ). bs ++ piece) a.split ∙ append_assoc (P.spell two.0) a.rest piece; within = a.within; sum = refl; breaks = g.1 }),
      )
]

fixed_in : (order : Order) (n : ℕ) → SpelledIn n (fixed order n)
fixed_in order n x fits = length-fixed order n x

-- ---- the fields

-- the numbers that a kind adds
first_grows : (order : Order) (format : Format) (kind : ℕ) → Grows 0 8 (numbers order (added_sizes format kind)).Break
first_grows order format kind = by (kind == 2) (kind == 4)
  where
    by : (a b : Bool) → Grows 0 8 (numbers order (if a then 8 ∷ offset_size format ∷ [] else (if b then 8 ∷ [] else []))).Break
    by true b bytes piece lim offset le lt h = then_first 0 8 (fixed order 8) (λ _. numbers order (offset_size format ∷ [])) (fixed_in order 8) (short_grows 8) bytes piece lim offset le lt h
    by false true bytes piece lim offset le lt h = then_first 0 8 (fixed order 8) (λ _. numbers order []) (fixed_in order 8) (short_grows 8) bytes piece lim offset le lt h
    by false false bytes piece lim offset le lt h = absurd h

second_grows : (order : Order) (format : Format) (kind : ℕ) → Grows (8 + 0) (8 + offset_size format) (numbers order (added_sizes format kind)).Break
second_grows order format kind = by (kind == 2) (kind == 4)
  where
    one : Grows 0 (offset_size format) (numbers order (offset_size format ∷ [])).Break
    one bytes piece lim offset le lt h = then_first 0 (offset_size format) (fixed order (offset_size format)) (λ _. numbers order []) (fixed_in order (offset_size format)) (short_grows (offset_size format)) bytes piece lim offset le lt h

    by : (a b : Bool) → Grows (8 + 0) (8 + offset_size format) (numbers order (if a then 8 ∷ offset_size format ∷ [] else (if b then 8 ∷ [] else []))).Break
    by true b bytes piece lim offset le lt h = then_second 8 0 (offset_size format) (fixed order 8) (λ _. numbers order (offset_size format ∷ [])) (fixed_in order 8) (short_cut 8) (λ _ _. one) bytes piece lim offset le lt h
    by false true bytes piece lim offset le lt h = then_second 8 0 (offset_size format) (fixed order 8) (λ _. numbers order []) (fixed_in order 8) (short_cut 8) (λ _ _ bs p l o x y z. absurd z) bytes piece lim offset le lt h
    by false false bytes piece lim offset le lt h = absurd h

-- behind the type and the address size
module _ (order : Order) (format : Format) (lo hi : ℕ) where
  five_behind : ((kind : ℕ) → Grows lo hi (fixed order (offset_size format) then λ _. numbers order (added_sizes format kind)).Break) → Grows (1 + (1 + lo)) (1 + (1 + hi)) (five_part order format).Break
  five_behind it =
      then_second 1 (1 + lo) (1 + hi) (judged (fixed order 1) bad_type) (λ kind. judged (fixed order 1) bad_address_size then λ _. fixed order (offset_size format) then λ _. numbers order (added_sizes format kind))
      (λ x fits. fixed_in order 1 x fits.0) (judged_cut 1 (fixed order 1) bad_type (short_cut 1) type_judges) λ kind _.
      then_second 1 lo hi (judged (fixed order 1) bad_address_size) (λ _. fixed order (offset_size format) then λ _. numbers order (added_sizes format kind))
      (λ x fits. fixed_in order 1 x fits.0) (judged_cut 1 (fixed order 1) bad_address_size (short_cut 1) address_size_judges) λ _ _. it kind

  -- and the version, which is 5
  fields_behind_version : ((kind : ℕ) → Grows lo hi (fixed order (offset_size format) then λ _. numbers order (added_sizes format kind)).Break) → Grows (2 + (1 + (1 + lo))) (2 + (1 + (1 + hi))) (fields_under Five order format).Break
  fields_behind_version it =
      then_second 2 (1 + (1 + lo)) (1 + (1 + hi)) (judged (fixed order 2) (bad_version_under Five)) (λ version. fields_behind order format (version == 4))
      (λ x fits. fixed_in order 2 x fits.0) (judged_cut 2 (fixed order 2) (bad_version_under Five) (short_cut 2) (version_judges Five)) λ version fits. by version (version == 5) refl fits.1
    where
      by : (version : ℕ) (v : Bool) → (version == 5) ≡ v → (if v then None else Some BadVersion) ≡ None → Grows (1 + (1 + lo)) (1 + (1 + hi)) (fields_behind order format (version == 4)).Break
      by version true e n = subst (λ (x : ℕ). Grows (1 + (1 + lo)) (1 + (1 + hi)) (fields_behind order format (x == 4)).Break) (sym (eqb-true version 5 e)) (five_behind it)
      by version false e n = absurd (let q : Some BadVersion ≡ None = n in cc)

version_grows : (versions : Versions) (order : Order) (format : Format) → Grows 0 2 (fields_under versions order format).Break
version_grows versions order format =
    then_first 0 2 (judged (fixed order 2) (bad_version_under versions)) (λ version. fields_behind order format (version == 4)) (λ x fits. fixed_in order 2 x fits.0)
    (judged_grows 0 2 (fixed order 2) (bad_version_under versions) (short_grows 2) (version_judges versions))

offset_grows : (order : Order) (format : Format) → Grows (2 + (1 + (1 + 0))) (2 + (1 + (1 + offset_size format))) (fields_under Five order format).Break
offset_grows order format = fields_behind_version order format 0 (offset_size format) λ kind.
    then_first 0 (offset_size format) (fixed order (offset_size format)) (λ _. numbers order (added_sizes format kind)) (fixed_in order (offset_size format)) (short_grows (offset_size format))

added_grows : (order : Order) (format : Format) (lo hi : ℕ) → ((kind : ℕ) → Grows lo hi (numbers order (added_sizes format kind)).Break) → Grows (2 + (1 + (1 + (offset_size format + lo)))) (2 + (1 + (1 + (offset_size format + hi)))) (fields_under Five order format).Break
added_grows order format lo hi it = fields_behind_version order format (offset_size format + lo) (offset_size format + hi) λ kind.
    then_second (offset_size format) lo hi (fixed order (offset_size format)) (λ _. numbers order (added_sizes format kind)) (fixed_in order (offset_size format)) (short_cut (offset_size format)) (λ _ _. it kind)

-- ---- headers

-- where a length field is whole, it has that size
same_sizes : (order : Order) (taken rest : List ℕ) (format : Format) (n size offset : ℕ) → (initial_length order 0).Fits (format, n) → taken ≡ (length_field order).spell (format, n) ++ rest → AreSizes taken size offset → (size ≡ length_size format) × (offset ≡ offset_size format)
same_sizes order taken rest Dwarf32 n size offset fits split (inl four) = (four.0, four.1)
same_sizes order taken rest Dwarf32 n size offset fits split (inr wide) =
    let len : length ((length_field order).spell (Dwarf32, n)) ≡ 4 = initial-size order 0 Dwarf32 n in
    absurd (no_escape order taken n (record { rest = rest; fits = fits; split = split; is_size = len; within = omega (arith, initial_within order 0 Dwarf32 n, len) }) wide.3)
same_sizes order taken rest Dwarf64 n size offset fits split (inr wide) = (wide.0, wide.1)
same_sizes order taken rest Dwarf64 n size offset fits split (inl four) =
    let first : List ℕ = fixed_bytes order 4 0xffffffff in
    let len : length first ≡ 4 = length-fixed order 4 0xffffffff in
    let all : taken ≡ first ++ (fixed_bytes order 8 n ++ rest) = split ∙ append_assoc first (fixed_bytes order 8 n) rest in
    elim four.2 [
      | inl short ↦ absurd (omega (arith, short, ap length all, length-append first (fixed_bytes order 8 n ++ rest), len))
      | inr ne ↦ absurd (ne (ap (take 4) all ∙ take_at first (fixed_bytes order 8 n ++ rest) 4 len ∙ escape_is order))
    ]

module _ (versions : Versions) (order : Order) (taken : List ℕ) (size offset : ℕ) (sizes : AreSizes taken size offset) (whole : size ≤ length taken) where
  -- its length field isn't cut off
  field_whole : (at : ℕ) → (initial_length order 0).Break taken length_limit at Truncated → ⊥
  field_whole at field = by (cut_in_field order taken at field) sizes
    where
      by : (length taken < 4) ⊎ ((length taken < 12) × (take 4 taken ≡ escape)) → AreSizes taken size offset → ⊥
      by (inl short) (inl four) = omega (arith, short, four.0, whole)
      by (inl short) (inr wide) = omega (arith, short, wide.0, whole)
      by (inr cut) (inl four) = elim four.2 [ inl short ↦ omega (arith, short, four.0, whole) | inr ne ↦ ne cut.1 ]
      by (inr cut) (inr wide) = omega (arith, cut.0, wide.0, whole)

  -- its fields lack so many bytes
  abbrev FieldsGrow : ℕ → Type 0
  FieldsGrow end = (format : Format) → offset ≡ offset_size format → (lo : ℕ) × (lo ≤ length taken - size) × Grows lo end (fields_under versions order format).Break

  grows_on : (end : ℕ) (piece : List ℕ) → FieldsGrow end → length taken - size + length piece < end → IsCut versions order taken → IsCut versions order (taken ++ piece)
  grows_on end piece grow short (at, inl field) = absurd (field_whole at field)
  grows_on end piece grow short (at, inr (format, n, rest, own, fits, split, sum, breaks)) =
      let s : List ℕ = (length_field order).spell (format, n) in
      let same = same_sizes order taken rest format n size offset fits split sizes in
      let len : length taken ≡ length s + length rest = ap length split ∙ length-append s rest in
      let first : length s ≡ length_size format = initial-size order 0 format n in
      let it = grow format same.1 in
      let g = it.2 rest piece n own (omega (arith, it.1, len, first, same.0)) (omega (arith, short, length-append rest piece, len, first, same.0)) breaks in
      (length s + g.0, inr (format, n, rest ++ piece, g.0, fits, ap (λ (bs : List ℕ). bs ++ piece) split ∙ append_assoc s rest piece, refl, g.1))

  field_wants : (n : ℕ) → FieldLacks versions offset (length taken - size) n → IsCut versions order taken → (piece : List ℕ) → length piece < n → IsCut versions order (taken ++ piece)
  field_wants n (inl version) cut piece short = grows_on 2 piece (λ format is. (0, omega arith, version_grows versions order format)) (omega (arith, version, short)) cut
  field_wants n (inr (inl one)) cut piece short = subst (IsCut versions order) (sym (append-nil taken) ∙ ap (λ (bs : List ℕ). taken ++ bs) (sym (no_bytes piece (omega (arith, short, one))))) cut
  field_wants n (inr (inr (five, some, field))) cut piece short = by field
    where
      at_five : (lo end : ℕ) (format : Format) → Grows lo end (fields_under Five order format).Break → Grows lo end (fields_under versions order format).Break
      at_five lo end format it = subst (λ (v : Versions). Grows lo end (fields_under v order format).Break) (sym five) it

      by : (length taken - size + n ≡ 4 + offset) ⊎ ((4 + offset ≤ length taken - size) × (length taken - size + n ≡ 12 + offset)) ⊎ ((12 + offset ≤ length taken - size) × (length taken - size + n ≡ 12 + offset + offset)) → IsCut versions order (taken ++ piece)
      by (inl e) = grows_on (4 + offset) piece (λ format is. (
        4,
        some,
        subst (λ (end : ℕ). Grows 4 end (fields_under versions order format).Break) (let q : 2 + (1 + (1 + offset_size format)) ≡ 4 + offset = omega (arith, is) in q)
            (at_five 4 (2 + (1 + (1 + offset_size format))) format (offset_grows order format)),
      )) (omega (arith, e, short)) cut
      by (inr (inl e)) = grows_on (12 + offset) piece (λ format is. (
        2 + (1 + (1 + (offset_size format + 0))),
        omega (arith, is, e.0),
        subst (λ (end : ℕ). Grows (2 + (1 + (1 + (offset_size format + 0)))) end (fields_under versions order format).Break) (let q : 2 + (1 + (1 + (offset_size format + 8))) ≡ 12 + offset = omega (arith, is) in q)
            (at_five (2 + (1 + (1 + (offset_size format + 0)))) (2 + (1 + (1 + (offset_size format + 8)))) format (added_grows order format 0 8 (first_grows order format))),
      )) (omega (arith, e.1, short)) cut
      by (inr (inr e)) = grows_on (12 + offset + offset) piece (λ format is. (
        2 + (1 + (1 + (offset_size format + (8 + 0)))),
        omega (arith, is, e.0),
        subst (λ (end : ℕ). Grows (2 + (1 + (1 + (offset_size format + (8 + 0))))) end (fields_under versions order format).Break) (let q : 2 + (1 + (1 + (offset_size format + (8 + offset_size format)))) ≡ 12 + offset + offset = omega (arith, is) in q)
            (at_five (2 + (1 + (1 + (offset_size format + (8 + 0))))) (2 + (1 + (1 + (offset_size format + (8 + offset_size format))))) format (added_grows order format (8 + 0) (8 + offset_size format) (second_grows order format))),
      )) (omega (arith, e.1, short)) cut

pub lacks_wants : (versions : Versions) (order : Order) (taken : List ℕ) (n : ℕ) → 0 < n → IsCut versions order taken → Lacks versions taken n → Wants versions order (Reading taken) n
lacks_wants versions order taken n some cut (size, offset, sizes, inr (whole, field)) = (some, field_wants versions order taken size offset sizes whole n field cut)
lacks_wants versions order taken n some cut (size, offset, inl four, inl e) = (some, λ piece short. short_is_cut versions order (taken ++ piece) (omega (arith, short, four.0, e, length-append taken piece)))
lacks_wants versions order taken n some cut (size, offset, inr wide, inl e) = (
  some,
  λ piece short.
      let split : escape ++ (drop 4 taken ++ piece) ≡ taken ++ piece =
      sym (append_assoc escape (drop 4 taken) piece) ∙ ap (λ (bs : List ℕ). bs ++ piece) (ap (λ (bs : List ℕ). bs ++ drop 4 taken) (sym wide.3) ∙ take-append-drop 4 taken) in
      let sum : length escape + length (drop 4 taken ++ piece) ≡ length (taken ++ piece) = sym (length-append escape (drop 4 taken ++ piece)) ∙ ap length split in
      subst (IsCut versions order) split (wide_is_cut versions order (drop 4 taken ++ piece) (omega (arith, sum, length-append taken piece, short, wide.0, e))),
)
