-- Bytes that hold a whole unit are never cut off; whole length fields.
use Rattle.std.proofs.Common.{◌≡◌, ◌≢◌, ℕ, ◌+◌, ◌-◌, ◌^◌, ◌<◌, ◌≤◌, Bool, true, false, List, [], ◌∷◌, ◌++◌, length, take, drop, Some, None, refl, sym, ap, subst, ◌∙◌, append_assoc, append-nil, arith, inl, inr, ◌⊎◌}
use Rattle.std.specs.Prelude.{◌==◌}
use Rattle.std.proofs.lemmas.Bool.{eqb-true}
use Rattle.std.proofs.lemmas.List.{length-append, take-append-drop}
use Rattle.dw_leb.specs.declared.errors.Reason.{Reason}
use Rattle.dw_leb.specs.declared.errors.Reason.TheVariants.{Truncated}
use Rattle.dw_leb.specs.declared.errors.SectionId.{SectionId}
use Rattle.dw_leb.specs.declared.errors.SectionId.TheVariants.{Info}
use Rattle.dw_leb.specs.declared.order.Order.{Order}
use Rattle.dw_leb.specs.declared.order.Order.TheVariants.{Little, Big}
use Rattle.dw_leb.specs.declared.order.Format.{Format}
use Rattle.dw_leb.specs.declared.order.Format.TheVariants.{Dwarf32, Dwarf64}
use Rattle.dw_leb.specs.Part.{Taken, optional}
use Rattle.dw_leb.specs.Number.{length_field, initial_length, length_limit, length_size, fixed, fixed_bytes}
use Rattle.dw_leb.specs.PartLaws.{one_front, no_break}
use Rattle.dw_leb.specs.Digits.{fixed_decides, length-fixed}
use Rattle.dw_leb.specs.DecideNumber.{initial_length_decides, initial-size, initial_within}
use Rattle.dw_leb.specs.ReadNumber.{read_length, read_fixed}
use Rattle.dw_header.specs.declared.versions.Versions.{Versions}
use Rattle.dw_header.specs.Header.{fields, fields_of, context_of}
use Rattle.dw_abbrev.specs.Table.{Table, TableAt}
use Rattle.dw_header.specs.HeaderPlace.{HeaderBreaksUnder}
use Rattle.dw_header.specs.HeaderFound.{head_size}
use Rattle.dw_unit.specs.Unit.{BodyBreaksUnder, FailsUnder, left_behind}
use Rattle.dw_unit.specs.DecideUnit.{fault_stays}
use Rattle.dw_feed.specs.Feed.{escape, InField, IsField}
use Rattle.dw_feed.specs.Laws.{HoldsUnit}
use Rattle.dw_leb.specs.NumberMoments.{reserved_judges, too_far_judges}
use Rattle.dw_feed.specs.UnitNeverTruncated.{fields_never_truncated, entries_never_truncated}

abbrev pub length_bytes : Order → Format × ℕ → List ℕ
length_bytes order x = (length_field order).spell x

-- a field's front has one length
pub same_length : (order : Order) (x y : Format × ℕ) (a b : List ℕ) → (initial_length order 0).Fits x
    → (initial_length order 0).Fits y → length_bytes order x ++ a ≡ length_bytes order y ++ b → (x ≡ y) × (a ≡ b)
same_length order x y a b p q e =
    one_front (initial_length order 0) (read_length order 0) (initial_length_decides order 0) x y a b p q e

module _ (versions : Versions) (order : Order) (bytes : List ℕ) (h : HoldsUnit order bytes) where
  -- what stands behind a length field is at least as long as it tells
  behind_length : (format : Format) (n : ℕ) (rest : List ℕ) → (initial_length order 0).Fits (format, n)
      → bytes ≡ length_bytes order (format, n) ++ rest → n ≤ length rest
  behind_length format n rest fits split =
      let x : Format × ℕ = h.0 in
      let same = same_length order x (format, n) h.1.rest rest h.1.fits fits (sym h.1.split ∙ split) in
      let count : x.1 ≡ n = ap (λ (y : Format × ℕ). y.1) same.0 in
      let left : length h.1.rest ≡ length rest = ap length same.1 in
      let sum : length bytes ≡ length (length_bytes order x) + length h.1.rest =
      ap length h.1.split ∙ length-append (length_bytes order x) h.1.rest in
      omega (arith, h.2, h.1.is_size)

  -- bytes that hold the whole unit are never cut, whatever tables are taken
  pub whole_never_cut : (IsTable : ℕ → Table → Type 0) (offset : ℕ) (reason : Reason)
      → HeaderBreaksUnder versions order bytes offset reason
      ⊎ BodyBreaksUnder versions order IsTable bytes offset reason
      → reason ≢ Truncated
  whole_never_cut IsTable offset reason (inl (inl one)) =
      absurd
      (no_break (initial_length order 0) (read_length order 0) (initial_length_decides order 0) h.0 h.1.rest
      length_limit offset reason h.1.fits (initial_within order 0 h.0.0 h.0.1) (rw h.1.split at one))
  whole_never_cut IsTable offset reason (inl (inr (format, n, rest, own, fits, split, sum, breaks))) =
      fields_never_truncated versions order format rest n own reason (behind_length format n rest fits split) breaks
  whole_never_cut IsTable offset reason (inr b) =
      let head = b.stands.2 in
      let f : List ℕ = (fields order b.header.format).spell (fields_of b.header) in
      let left : b.count ≤ length (f ++ b.stands.1) =
      behind_length b.header.format b.count (f ++ b.stands.1) head.length_fits head.split in
      let sized = head_size versions order bytes b.header b.count b.stands in
      let enough : left_behind b.header b.count ≤ length b.stands.1 =
      omega (arith, left, sized, length-append f b.stands.1, initial-size order 0 b.header.format b.count) in
      entries_never_truncated (context_of b.header) b.table b.stands.1 (left_behind b.header b.count) b.own reason
      enough b.breaks

  pub whole_never_truncated : (abbreviations : List ℕ) (offset : ℕ) (reason : Reason)
      → FailsUnder versions order abbreviations bytes Info offset reason → reason ≢ Truncated
  whole_never_truncated abbreviations offset reason fails = whole_never_cut (TableAt abbreviations) offset reason fails

  pub whole_fault : (abbreviations tail : List ℕ) (s : SectionId) (offset : ℕ) (reason : Reason)
      → FailsUnder versions order abbreviations bytes s offset reason
      → FailsUnder versions order abbreviations (bytes ++ tail) s offset reason
  whole_fault abbreviations tail s offset reason fails =
      fault_stays versions order abbreviations bytes tail s offset reason
      (λ info.
      whole_never_truncated abbreviations offset reason
      (subst (λ (z : SectionId). FailsUnder versions order abbreviations bytes z offset reason) info fails))
      fails

no_rest : (b s rest : List ℕ) → b ≡ s ++ rest → length b ≤ length s → b ≡ s
no_rest b s [] e le = e ∙ append-nil s
no_rest b s (x ∷ rest) e le = absurd (omega (arith, le, ap length e, length-append s (x ∷ rest)))

-- ---- length fields

pub escape_is : (order : Order) → fixed_bytes order 4 0xffffffff ≡ escape
escape_is Little = refl
escape_is Big = refl

second_never_truncated : (order : Order) (bytes rest : List ℕ) (own a : ℕ) (v : Bool) → (a == 0xffffffff) ≡ v
    → IsField bytes → bytes ≡ fixed_bytes order 4 a ++ rest → length (fixed_bytes order 4 a) ≡ 4
    → (lim : ℕ) → 8 ≤ lim → (reason : Reason) → (optional v (fixed order 8)).Break rest lim own reason
    → reason ≢ Truncated
second_never_truncated order bytes rest own a false e is split size lim enough reason h = absurd h
second_never_truncated order bytes rest own a true e is split size lim enough reason h = elim h.1 [
  | inl past ↦ absurd (omega (arith, past.0))
  | inr cut ↦ elim is [
    | inl four ↦
        let len : length bytes ≡ length (fixed_bytes order 4 a) + length rest =
        ap length split ∙ length-append (fixed_bytes order 4 a) rest in
        absurd
        (four.1
        (no_rest bytes (fixed_bytes order 4 a) rest split (omega (arith, four.0))
        ∙ ap (fixed_bytes order 4) (eqb-true a 0xffffffff e) ∙ escape_is order))
    | inr twelve ↦
        let len : length bytes ≡ length (fixed_bytes order 4 a) + length rest =
        ap length split ∙ length-append (fixed_bytes order 4 a) rest in
        absurd (omega (arith, cut.1, twelve))
  ]
]

-- a whole length field is not cut
pub field_never_truncated : (order : Order) (start : ℕ) (bytes : List ℕ) (offset : ℕ) (reason : Reason) → IsField bytes
    → (initial_length order start).Break bytes length_limit offset reason → reason ≢ Truncated
field_never_truncated order start bytes offset reason is (inr far) =
    λ e. too_far_judges start far.value (far.refused ∙ ap (λ (r : Reason). Some r) e)
field_never_truncated order start bytes offset reason is (inl (here, own, inl (inl short))) = elim short.1 [
  | inl past ↦ λ e. cc
  | inr cut ↦ elim is [
    | inl four ↦ absurd (omega (arith, cut.1, four.0))
    | inr twelve ↦ absurd (omega (arith, cut.1, twelve))
  ]
]
field_never_truncated order start bytes offset reason is (inl (here, own, inl (inr bad))) =
    λ e. reserved_judges bad.value (bad.refused ∙ ap (λ (r : Reason). Some r) e)
field_never_truncated order start bytes offset reason is (inl (here, own, inr (a, fits, after))) =
    let size : length (fixed_bytes order 4 a) ≡ 4 = length-fixed order 4 a in
    second_never_truncated order bytes after.rest after.own a (a == 0xffffffff) refl is after.split size
    (length_limit - length (fixed_bytes order 4 a)) (omega arith) reason after.breaks

-- a length of the 32-bit format doesn't begin with ff ff ff ff
pub no_escape : (order : Order) (bytes : List ℕ) (n : ℕ)
    → Taken (initial_length order 0) bytes length_limit (Dwarf32, n) 4 → take 4 bytes ≡ escape → ⊥
no_escape order bytes n h e =
    let more : List ℕ = (optional (n == 0xffffffff) (fixed order 8)).spell None in
    let fits : 0xffffffff < 256 ^ 4 = omega arith in
    let front : fixed_bytes order 4 n ++ (more ++ h.rest) ≡ fixed_bytes order 4 0xffffffff ++ drop 4 bytes =
    sym (append_assoc (fixed_bytes order 4 n) more h.rest) ∙ sym h.split ∙ sym (take-append-drop 4 bytes)
    ∙ ap (λ (t : List ℕ). t ++ drop 4 bytes) (e ∙ sym (escape_is order)) in
    let same : n ≡ 0xffffffff =
    (one_front (fixed order 4) (read_fixed order 4) (fixed_decides order 4) n 0xffffffff (more ++ h.rest)
    (drop 4 bytes) h.fits.0.0.0 fits front).0 in
    absurd (subst (λ (m : ℕ). (optional (m == 0xffffffff) (fixed order 8)).Fits None) same h.fits.0.1)

-- a length field that is read is all of the field
pub field_size : (order : Order) (bytes : List ℕ) (format : Format) (n : ℕ) → InField bytes (length bytes)
    → Taken (initial_length order 0) bytes length_limit (format, n) (length_size format)
    → length bytes ≡ length_size format
field_size order bytes Dwarf64 n inside h =
    by inside (ap length h.split ∙ length-append (length_bytes order (Dwarf64, n)) h.rest)
  where
    by : InField bytes (length bytes) → length bytes ≡ length (length_bytes order (Dwarf64, n)) + length h.rest
        → length bytes ≡ 12
    by (inl four) len = absurd (omega (arith, four, len, h.is_size))
    by (inr twelve) len = omega (arith, twelve.0, len, h.is_size)
field_size order bytes Dwarf32 n inside h =
    by inside (ap length h.split ∙ length-append (length_bytes order (Dwarf32, n)) h.rest)
  where
    by : InField bytes (length bytes) → length bytes ≡ length (length_bytes order (Dwarf32, n)) + length h.rest
        → length bytes ≡ 4
    by (inl four) len = omega (arith, four, len, h.is_size)
    by (inr twelve) len = absurd (no_escape order bytes n h twelve.1)
