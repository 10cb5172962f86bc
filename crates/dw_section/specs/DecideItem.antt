-- Items: the plain reader takes what fits, faults where it fails, and does nothing else.
use Rattle.std.proofs.Common.{Bool, true, false, ◌≡◌, ◌≢◌, ℕ, ◌+◌, ◌≤◌, List, ◌++◌, length, take, drop, Option, refl, sym, ap, subst, ◌∙◌, append_assoc, arith, inl, inr}
use Rattle.std.specs.Prelude.{nat_le, ◌==◌, ◌&&◌, if◌then◌else◌}
use Rattle.std.proofs.lemmas.Bool.{leb-true, leb-false, le-leb, lt-leb}
use Rattle.std.proofs.lemmas.List.{take_at, drop_at, length-append, length-take-le, take-append-drop}
use Rattle.dw_leb.specs.declared.errors.Reason.{Reason}
use Rattle.dw_leb.specs.declared.errors.Reason.TheVariants.{Truncated}
use Rattle.dw_leb.specs.declared.errors.SectionId.{SectionId}
use Rattle.dw_leb.specs.declared.errors.SectionId.TheVariants.{Info, Abbrev}
use Rattle.dw_leb.specs.declared.order.Order.{Order}
use Rattle.dw_leb.specs.declared.order.Format.{Format}
use Rattle.dw_leb.specs.Part.{◌then◌, optional}
use Rattle.dw_leb.specs.Number.{fixed, length_field, initial_length, length_limit, length_size}
use Rattle.dw_leb.specs.Reader.{Outcome, Found, Broken}
use Rattle.dw_leb.specs.ReadNumber.{read_length}
use Rattle.dw_leb.specs.Decide.{Decides, Says, AreBytes, AreBytes-behind, then_decides, optional_decides}
use Rattle.dw_leb.specs.PartLaws.{Stays, then_stays, optional_stays}
use Rattle.dw_leb.specs.Digits.{fixed_decides, Short_stays}
use Rattle.dw_leb.specs.DecideNumber.{initial_length_decides, initial_length_stays, initial_within, initial-size}
use Rattle.dw_header.specs.declared.versions.Versions.{Versions}
use Rattle.dw_unit.specs.Unit.{WholeUnit, body_bytes, bytes_of}
use Rattle.dw_unit.specs.ReadUnit.{Answer, Unit, Fault, read_unit_under}
use Rattle.dw_unit.specs.DecideUnit.{AnswerSays, unit_take, unit_fault, unit_says, fault_stays}
use Rattle.dw_section.specs.Item.{Item, Known, Other, item_bytes, VersionAndType, least_length, version_and_type, is_known, ShowsKind, HasInitialLength, OtherFits, KnownFits, ItemFits, HoldsTable, IsKnown, ItemFails}
use Rattle.dw_section.specs.ItemPlace.{shows_more, unit_shows, known_there, other_there}
use Rattle.dw_section.specs.ReadSection.{read_version_and_type, ItemAnswer, IsItem, IsFault, answer_known, answer_other, answer_kind, answer_version_and_type, answer_begin, read_item}

-- ---- what shows the kind

pub version_and_type_decides : (versions : Versions) (order : Order) (n : ℕ)
    → Decides (version_and_type versions order n) (read_version_and_type versions order n)
version_and_type_decides versions order n =
    optional_decides (nat_le (least_length versions) n) _ _
    (then_decides _ _ _ _ (fixed_decides order 2)
    (λ version. optional_decides (version == 5 && nat_le 3 n) (fixed order 1) _ (fixed_decides order 1)))

pub version_and_type_stay : (versions : Versions) (order : Order) (n : ℕ)
    → Stays (version_and_type versions order n).Break
version_and_type_stay versions order n =
    optional_stays (nat_le (least_length versions) n)
    (fixed order 2 then λ version. optional (version == 5 && nat_le 3 n) (fixed order 1))
    (then_stays (fixed order 2) (λ version. optional (version == 5 && nat_le 3 n) (fixed order 1)) (Short_stays 2)
    (λ version. optional_stays (version == 5 && nat_le 3 n) (fixed order 1) (Short_stays 1)))

-- ---- behind a length at a start

abbrev len_bytes : Order → Format → ℕ → List ℕ
len_bytes order format n = (length_field order).spell (format, n)

module _ (versions : Versions) (order : Order) (abbreviations : List ℕ) (start : ℕ) (bytes : List ℕ) (format : Format)
    (n : ℕ) (rest : List ℕ) (begins : HasInitialLength order start bytes format n rest) where
  begin_at : read_item versions order abbreviations start bytes
      ≡ answer_version_and_type versions order abbreviations start bytes format n
      (read_version_and_type versions order n rest n)
  unfolding read_item
  begin_at =
      let s : List ℕ = len_bytes order format n in
      let d : drop (length s) bytes ≡ rest = ap (drop (length s)) begins.split ∙ drop_at s rest (length s) refl in
      ap (answer_begin versions order abbreviations start bytes)
      (ap (λ (b : List ℕ). read_length order start b length_limit) begins.split
      ∙ (initial_length_decides order start).takes (format, n) rest length_limit begins.fits
      (initial_within order start format n))
      ∙ ap
      (λ (b : List ℕ).
      answer_version_and_type versions order abbreviations start bytes format n
      (read_version_and_type versions order n b n))
      d

  kind_at : (known : Bool) → ShowsKind versions order n rest known
      → read_item versions order abbreviations start bytes
      ≡ answer_kind versions order abbreviations start bytes format n known
  kind_at known t =
      begin_at
      ∙ ap
      (λ (b : List ℕ).
      answer_version_and_type versions order abbreviations start bytes format n
      (read_version_and_type versions order n b n))
      t.taken.split
      ∙ ap (answer_version_and_type versions order abbreviations start bytes format n)
      ((version_and_type_decides versions order n).takes t.seen t.taken.rest n t.taken.fits
      (omega (arith, t.taken.is_size, t.taken.within)))
      ∙ ap (answer_kind versions order abbreviations start bytes format n) t.is

-- ---- what fits is read

known_own : (versions : Versions) (abbreviations : List ℕ) (start : ℕ) (u : WholeUnit) (more : List ℕ)
    → KnownFits versions u.header.order start u → HoldsTable abbreviations (Known u)
    → read_item versions u.header.order abbreviations start (bytes_of u ++ more)
    ≡ IsItem (Known u) (length (bytes_of u))
known_own versions abbreviations start u more h place =
    let order : Order = u.header.order in
    let n : ℕ = length (body_bytes u) in
    let begins : HasInitialLength order start (bytes_of u ++ more) u.header.format n (body_bytes u ++ more) =
    record
    { fits = h.length_fits; split = append_assoc (len_bytes order u.header.format n) (body_bytes u) more } in
    kind_at versions order abbreviations start (bytes_of u ++ more) u.header.format n (body_bytes u ++ more) begins true
    (unit_shows versions u more h.accepted)
    ∙ ap (answer_known start) (unit_take versions abbreviations order (bytes_of u ++ more) u (length (bytes_of u))
    (record {
      table_at = place;
      front = record
          { order_is = refl; accepted = h.accepted; fits = h.fits; rest = more; split = refl; is_size = refl };
    }))

other_take : (versions : Versions) (order : Order) (abbreviations : List ℕ) (start : ℕ) (bytes more : List ℕ)
    → OtherFits versions order start bytes
    → read_item versions order abbreviations start (bytes ++ more) ≡ IsItem (Other bytes) (length bytes)
other_take versions order abbreviations start bytes more h =
    let n : ℕ = length h.content in
    let s : List ℕ = len_bytes order h.format n in
    let begins : HasInitialLength order start (bytes ++ more) h.format n (h.content ++ more) =
    record {
      fits = h.begins.fits;
      split = ap (λ (b : List ℕ). b ++ more) h.begins.split ∙ append_assoc s h.content more;
    } in
    let size : length bytes ≡ length_size h.format + n =
    ap length h.begins.split ∙ length-append s h.content
    ∙ ap (λ (m : ℕ). m + n) (initial-size order 0 h.format n) in
    let yes : nat_le (length_size h.format + n) (length (bytes ++ more)) ≡ true =
    le-leb (length_size h.format + n) (length (bytes ++ more)) (omega (arith, size, length-append bytes more)) in
    kind_at versions order abbreviations start (bytes ++ more) h.format n (h.content ++ more) begins false
    (shows_more versions order n h.content more false h.kind)
    ∙ rw yes
    (ap (λ (b : List ℕ). IsItem (Other b) (length_size h.format + n))
    (take_at bytes more (length_size h.format + n) size)
    ∙ ap (λ (m : ℕ). IsItem (Other bytes) m) (sym size))

pub item_take : (versions : Versions) (order : Order) (abbreviations : List ℕ) (start : ℕ) (x : Item) (more : List ℕ)
    → ItemFits versions order start x → HoldsTable abbreviations x
    → read_item versions order abbreviations start (item_bytes x ++ more) ≡ IsItem x (length (item_bytes x))
item_take versions order abbreviations start (Known u) more h place =
    subst
    (λ (o : Order).
    KnownFits versions o start u
    → read_item versions o abbreviations start (bytes_of u ++ more) ≡ IsItem (Known u) (length (bytes_of u)))
    h.order_is (λ k. known_own versions abbreviations start u more k place) h
item_take versions order abbreviations start (Other bytes) more h place =
    other_take versions order abbreviations start bytes more h

-- ---- what fails is refused, with that fault

pub item_fault : (versions : Versions) (order : Order) (abbreviations : List ℕ) (start : ℕ) (bytes : List ℕ)
    (s : SectionId) (offset : ℕ) (reason : Reason) → ItemFails versions order abbreviations start bytes s offset reason
    → read_item versions order abbreviations start bytes ≡ IsFault s offset reason
unfolding read_item
item_fault versions order abbreviations start bytes Info offset reason (inl (own, sum, breaks)) =
    ap (answer_begin versions order abbreviations start bytes)
    ((initial_length_decides order start).faults bytes length_limit own reason breaks)
    ∙ ap (λ (m : ℕ). IsFault Info m reason) (sym sum)
item_fault versions order abbreviations start bytes Info offset reason
    (inr (inl (format, n, rest, own, begins, sum, breaks))) =
    begin_at versions order abbreviations start bytes format n rest begins
    ∙ ap (answer_version_and_type versions order abbreviations start bytes format n)
    ((version_and_type_decides versions order n).faults rest n own reason breaks)
    ∙ ap (λ (m : ℕ). IsFault Info m reason) (sym sum)
item_fault versions order abbreviations start bytes Info offset reason
    (inr (inr (inl (format, n, rest, begins, shows, cut, sum, why)))) =
    let s : List ℕ = len_bytes order format n in
    let no : nat_le (length_size format + n) (length bytes) ≡ false =
    lt-leb (length_size format + n) (length bytes)
    (omega (arith, cut, ap length begins.split, length-append s rest, initial-size order 0 format n)) in
    kind_at versions order abbreviations start bytes format n rest begins false shows
    ∙ rw (no, why) (ap (λ (m : ℕ). IsFault Info m Truncated) (sym sum))
item_fault versions order abbreviations start bytes Info offset reason
    (inr (inr (inr ((format, n, rest, begins, shows), (own, sum, fails))))) =
    kind_at versions order abbreviations start bytes format n rest begins true shows
    ∙ ap (answer_known start) (unit_fault versions order abbreviations bytes Info own reason fails)
    ∙ ap (λ (m : ℕ). IsFault Info m reason) (sym sum)
item_fault versions order abbreviations start bytes Abbrev offset reason ((format, n, rest, begins, shows), fails) =
    kind_at versions order abbreviations start bytes format n rest begins true shows
    ∙ ap (answer_known start) (unit_fault versions order abbreviations bytes Abbrev offset reason fails)

-- ---- and nothing else

-- what a reader's answer says of the bytes
abbrev pub ItemSays : Versions → Order → List ℕ → ℕ → List ℕ → ItemAnswer → Type 0
ItemSays versions order abbreviations start bytes (IsItem x size) =
    ItemFits versions order start x × HoldsTable abbreviations x
    × ((rest : List ℕ) × (bytes ≡ item_bytes x ++ rest) × (length (item_bytes x) ≡ size))
ItemSays versions order abbreviations start bytes (IsFault s offset reason) =
    ItemFails versions order abbreviations start bytes s offset reason

module _ (versions : Versions) (order : Order) (abbreviations : List ℕ) (start : ℕ) (bytes : List ℕ) (format : Format)
    (n : ℕ) (rest : List ℕ) (begins : HasInitialLength order start bytes format n rest) where
  known_says : ShowsKind versions order n rest true → (a : Answer) → AnswerSays versions order abbreviations bytes a
      → ItemSays versions order abbreviations start bytes (answer_known start a)
  known_says shows (Fault Info own reason) h = inr (inr (inr ((format, n, rest, begins, shows), (own, refl, h))))
  known_says shows (Fault Abbrev offset reason) h = ((format, n, rest, begins, shows), h)
  known_says shows (Unit u size) h = (
    known_there versions order start bytes format n rest u size begins h.front,
    h.table_at,
    (h.front.rest, h.front.split, h.front.is_size),
  )

  size_is : length bytes ≡ length_size format + length rest
  size_is =
      ap length begins.split ∙ length-append (len_bytes order format n) rest
      ∙ ap (λ (m : ℕ). m + length rest) (initial-size order 0 format n)

  other_says : ShowsKind versions order n rest false
      → ItemSays versions order abbreviations start bytes (answer_other start bytes (length_size format) n)
  other_says shows = by (nat_le (length_size format + n) (length bytes)) refl
    where
      by : (v : Bool) → nat_le (length_size format + n) (length bytes) ≡ v
          → ItemSays versions order abbreviations start bytes
          (if v then IsItem (Other (take (length_size format + n) bytes)) (length_size format + n)
          else IsFault Info (start + length_size format) Truncated)
      by false e = inr (inr (inl (format, n, rest, begins, shows, omega (arith, size_is, leb-false _ _ e), refl, refl)))
      by true e =
          let m : ℕ = length_size format + n in
          let le : m ≤ length bytes = leb-true _ _ e in (
            other_there versions order start bytes format n rest begins shows (omega (arith, size_is, le)),
            tt,
            (drop m bytes, sym (take-append-drop m bytes), length-take-le m bytes le),
          )

  version_and_type_say : AreBytes abbreviations → AreBytes bytes → (o : Outcome (Option VersionAndType))
      → Says (version_and_type versions order n) rest n o
      → ItemSays versions order abbreviations start bytes
      (answer_version_and_type versions order abbreviations start bytes format n o)
  version_and_type_say fit_s fit (Broken own reason) h = inr (inl (format, n, rest, own, begins, refl, h))
  version_and_type_say fit_s fit (Found m size) h = by (is_known versions m) refl
    where
      by : (v : Bool) → is_known versions m ≡ v
          → ItemSays versions order abbreviations start bytes
          (answer_kind versions order abbreviations start bytes format n v)
      by true e =
          known_says (record { seen = m; size = size; taken = h; is = e })
          (read_unit_under versions order abbreviations bytes)
          (unit_says versions order abbreviations bytes fit_s fit)
      by false e = other_says (record { seen = m; size = size; taken = h; is = e })

begin_says : (versions : Versions) (order : Order) (abbreviations : List ℕ) (start : ℕ) (bytes : List ℕ)
    → AreBytes abbreviations → AreBytes bytes → (o : Outcome (Format × ℕ))
    → Says (initial_length order start) bytes length_limit o
    → ItemSays versions order abbreviations start bytes (answer_begin versions order abbreviations start bytes o)
begin_says versions order abbreviations start bytes fit_s fit (Broken own reason) h = inl (own, refl, h)
begin_says versions order abbreviations start bytes fit_s fit (Found x size) h =
    let s : List ℕ = len_bytes order x.0 x.1 in
    let d : drop size bytes ≡ h.rest = ap (λ (t : List ℕ). drop size t) h.split ∙ drop_at s h.rest size h.is_size in
    let begins : HasInitialLength order start bytes x.0 x.1 h.rest = record { fits = h.fits; split = h.split } in
    rw d
    (version_and_type_say versions order abbreviations start bytes x.0 x.1 h.rest begins fit_s fit
    (read_version_and_type versions order x.1 h.rest x.1)
    ((version_and_type_decides versions order x.1).says h.rest x.1 (AreBytes-behind s h.rest (rw h.split at fit))))

-- the reader's answer is always right
pub item_says : (versions : Versions) (order : Order) (abbreviations : List ℕ) (start : ℕ) (bytes : List ℕ)
    → AreBytes abbreviations → AreBytes bytes
    → ItemSays versions order abbreviations start bytes (read_item versions order abbreviations start bytes)
unfolding read_item
item_says versions order abbreviations start bytes fit_s fit =
    begin_says versions order abbreviations start bytes fit_s fit (read_length order start bytes length_limit)
    ((initial_length_decides order start).says bytes length_limit fit)

-- ---- faults that stay

pub begins_stay : (order : Order) (start : ℕ) (bytes more : List ℕ) (format : Format) (n : ℕ) (rest : List ℕ)
    → HasInitialLength order start bytes format n rest
    → HasInitialLength order start (bytes ++ more) format n (rest ++ more)
begins_stay order start bytes more format n rest h =
    record {
      fits = h.fits;
      split = ap (λ (b : List ℕ). b ++ more) h.split ∙ append_assoc (len_bytes order format n) rest more;
    }

pub known_stays : (versions : Versions) (order : Order) (start : ℕ) (bytes more : List ℕ)
    → IsKnown versions order start bytes → IsKnown versions order start (bytes ++ more)
known_stays versions order start bytes more (format, n, rest, begins, shows) = (
  format,
  n,
  rest ++ more,
  begins_stay order start bytes more format n rest begins,
  shows_more versions order n rest more true shows,
)

-- a fault other than Truncated in the section's own bytes stays whatever bytes follow
pub item_stays : (versions : Versions) (order : Order) (abbreviations : List ℕ) (start : ℕ) (bytes more : List ℕ)
    (s : SectionId) (offset : ℕ) (reason : Reason) → (s ≡ Info → reason ≢ Truncated)
    → ItemFails versions order abbreviations start bytes s offset reason
    → ItemFails versions order abbreviations start (bytes ++ more) s offset reason
item_stays versions order abbreviations start bytes more Info offset reason ne (inl (own, sum, breaks)) =
    inl (own, sum, initial_length_stays order start bytes more length_limit own reason (ne refl) breaks)
item_stays versions order abbreviations start bytes more Info offset reason ne
    (inr (inl (format, n, rest, own, begins, sum, breaks))) =
    inr
    (inl (
      format,
      n,
      rest ++ more,
      own,
      begins_stay order start bytes more format n rest begins,
      sum,
      version_and_type_stay versions order n rest more n own reason (ne refl) breaks,
    ))
item_stays versions order abbreviations start bytes more Info offset reason ne
    (inr (inr (inl (format, n, rest, begins, shows, cut, sum, why)))) =
    absurd (ne refl why)
item_stays versions order abbreviations start bytes more Info offset reason ne
    (inr (inr (inr (known, (own, sum, fails))))) =
    inr
    (inr
    (inr (
      known_stays versions order start bytes more known,
      (own, sum, fault_stays versions order abbreviations bytes more Info own reason ne fails),
    )))
item_stays versions order abbreviations start bytes more Abbrev offset reason ne (known, fails) = (
  known_stays versions order start bytes more known,
  fault_stays versions order abbreviations bytes more Abbrev offset reason ne fails,
)
