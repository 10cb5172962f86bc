-- Where the input holds all that the unit has left, no field is cut by the input's end: numbers, values, lists of
-- items.
use Rattle.std.proofs.Common.{Bool, true, false, cond, ◌≡◌, ◌≢◌, ℕ, ◌+◌, ◌-◌, ◌^◌, ◌≤◌, min, List, [], ◌∷◌, ◌++◌, length, Option, Some, None, refl, sym, ap, ◌∙◌, arith, inl, inr}
use Rattle.std.specs.Prelude.{if◌then◌else◌, nat_le, nat_lt, ◌==◌, ◌||◌}
use Rattle.std.proofs.lemmas.Bool.{eqb-false}
use Rattle.std.proofs.lemmas.List.{length-append}
use Rattle.dw_leb.specs.declared.errors.Reason.{Reason}
use Rattle.dw_leb.specs.declared.errors.Reason.TheVariants.{Truncated, PastUnit, LebTooLong, LebTooBig, UnknownForm, BadIndirect}
use Rattle.dw_leb.specs.Part.{Breaks, Part, After, Refused, ◌then◌, judged, whole, viewed, nothing, refused, optional}
use Rattle.dw_leb.specs.Repeat.{BreaksBehind, item_bytes, repeated}
use Rattle.dw_leb.specs.Number.{Short, fixed, content, text, unended, unmarked, groups, Signed, uleb_groups, UlebHolds, above_u64, uleb, sleb_groups, SlebHolds, outside_i64, sleb, extent}
use Rattle.dw_form.specs.declared.shape.Ctx.{Ctx}
use Rattle.dw_form.specs.declared.shape.Shape.{Shape}
use Rattle.dw_form.specs.declared.shape.Shape.TheVariants as shapes
use Rattle.dw_form.specs.Form.{Value, shape, constant, shaped, shaped_if, formed, bad_inner, by_indirection, attribute}
use Rattle.dw_leb.specs.Moments.{Judges, refuses_where, refuses_unless}

-- bytes that reach the unit's end don't break as cut by the input's end
abbrev pub NeverTruncated : Breaks → Type 0
NeverTruncated P =
    (bytes : List ℕ) (lim offset : ℕ) (reason : Reason) → lim ≤ length bytes → P bytes lim offset reason
    → reason ≢ Truncated

-- ---- the combinators

pub After_never_truncated : (s : List ℕ) (P : Breaks) → NeverTruncated P → NeverTruncated (After s P)
After_never_truncated s P it bytes lim offset reason le h =
    let len : length bytes ≡ length s + length h.rest = ap length h.split ∙ length-append s h.rest in
    it h.rest (lim - length s) h.own reason (omega (arith, h.within)) h.breaks

pub Refused_never_truncated : {X : Type 0} (P : Part X) (meaning : X → Option Reason) → Judges meaning
    → NeverTruncated (Refused P meaning)
Refused_never_truncated P meaning judges bytes lim offset reason le h =
    λ e. judges h.value (h.refused ∙ ap (λ (r : Reason). Some r) e)

pub then_never_truncated : {A B : Type 0} (P : Part A) (Q : A → Part B) → NeverTruncated P.Break
    → ((a : A) → NeverTruncated (Q a).Break) → NeverTruncated (P then Q).Break
then_never_truncated P Q first second bytes lim offset reason le h = elim h [
  | inl one ↦ first bytes lim offset reason le one
  | inr two ↦ After_never_truncated (P.spell two.0) (Q two.0).Break (second two.0) bytes lim offset reason le two.2
]

pub judged_never_truncated : {X : Type 0} (P : Part X) (meaning : X → Option Reason) → NeverTruncated P.Break
    → Judges meaning → NeverTruncated (judged P meaning).Break
judged_never_truncated P meaning it judges bytes lim offset reason le h = elim h [
  | inl one ↦ it bytes lim offset reason le one
  | inr two ↦ Refused_never_truncated P meaning judges bytes lim offset reason le two
]

pub whole_never_truncated : {X : Type 0} (P : Part X) → NeverTruncated P.Break → NeverTruncated (whole P).Break
whole_never_truncated P it bytes lim offset reason le h = it bytes lim h.1 reason le h.2

pub nothing_never_truncated : NeverTruncated nothing.Break
nothing_never_truncated bytes lim offset reason le h = absurd h

pub refused_never_truncated : (X : Type 0) (why : Reason) → why ≢ Truncated → NeverTruncated (refused {X = X} why).Break
refused_never_truncated X why ne bytes lim offset reason le h = λ e. ne (sym h.1 ∙ e)

pub optional_never_truncated : {A : Type 0} (b : Bool) (P : Part A) → NeverTruncated P.Break
    → NeverTruncated (optional b P).Break
optional_never_truncated true P it = it
optional_never_truncated false P it = nothing_never_truncated

module _ {H B : Type 0} (head : List (H × B) → Part H) (ends : H → Bool) (body : H → Part B) where
  behind_never_truncated : ((before : List (H × B)) → NeverTruncated (head before).Break)
      → ((h : H) → NeverTruncated (body h).Break) → (before xs : List (H × B))
      → NeverTruncated (BreaksBehind head ends body before xs)
  behind_never_truncated sh sb before [] bytes lim offset reason le h = elim h [
    | inl one ↦ sh before bytes lim offset reason le one
    | inr two ↦ After_never_truncated ((head before).spell two.0) (body two.0).Break (sb two.0) bytes lim offset reason
        le two.3
  ]
  behind_never_truncated sh sb before (x ∷ xs) bytes lim offset reason le h =
      After_never_truncated (item_bytes head ends body before x) (BreaksBehind head ends body (before ++ x ∷ []) xs)
      (behind_never_truncated sh sb (before ++ x ∷ []) xs) bytes lim offset reason le h.1

  pub repeated_never_truncated : ((before : List (H × B)) → NeverTruncated (head before).Break)
      → ((h : H) → NeverTruncated (body h).Break) → NeverTruncated (repeated head ends body).Break
  repeated_never_truncated sh sb bytes lim offset reason le h =
      behind_never_truncated sh sb [] h.0 bytes lim offset reason le h.1

-- ---- numbers and texts

pub Short_never_truncated : (n : ℕ) → NeverTruncated (Short n)
Short_never_truncated n bytes lim offset reason le h = elim h.1 [
  | inl past ↦ λ e. cc
  | inr cut ↦ absurd (omega (arith, cut.0, cut.1))
]

unended_never_truncated : (m lim : ℕ) → m ≡ lim → unended m lim ≢ Truncated
unended_never_truncated m lim e = by (m == lim) refl
  where
    by : (v : Bool) → (m == lim) ≡ v → cond v PastUnit Truncated ≢ Truncated
    by true t = λ q. cc
    by false t = absurd (eqb-false m lim t e)

unmarked_never_truncated : (m lim : ℕ) → m ≡ lim → unmarked m lim ≢ Truncated
unmarked_never_truncated m lim e = by (nat_le 16 m)
  where
    by : (v : Bool) → cond v LebTooLong (unended m lim) ≢ Truncated
    by true = λ q. cc
    by false = unended_never_truncated m lim e

pub text_never_truncated : NeverTruncated text.Break
text_never_truncated bytes lim offset reason le h =
    let m : min (length bytes) lim ≡ lim = omega arith in
    λ e. unended_never_truncated (min (length bytes) lim) lim m (sym h.2 ∙ e)

pub groups_never_truncated : NeverTruncated groups.Break
groups_never_truncated bytes lim offset reason le h =
    let m : min (length bytes) lim ≡ lim = omega arith in
    λ e. unmarked_never_truncated (min (length bytes) lim) lim m (sym h.2 ∙ e)

pub uleb_never_truncated : NeverTruncated uleb.Break
uleb_never_truncated =
    judged_never_truncated (viewed uleb_groups UlebHolds groups) above_u64 groups_never_truncated
    (λ u. refuses_unless (nat_lt u.value (2 ^ 64)) LebTooBig (λ e. cc))

pub sleb_never_truncated : NeverTruncated sleb.Break
sleb_never_truncated =
    judged_never_truncated (viewed sleb_groups SlebHolds groups) outside_i64 groups_never_truncated
    (λ s. refuses_unless (nat_lt (extent s.value) (2 ^ 63)) LebTooBig (λ e. cc))

-- ---- values

constant_never_truncated : (c : Option Signed) → NeverTruncated (constant c).Break
constant_never_truncated None = refused_never_truncated Value BadIndirect (λ e. cc)
constant_never_truncated (Some c) = nothing_never_truncated

shaped_never_truncated : (k : Ctx) (c : Option Signed) (s : Shape) → NeverTruncated (shaped k c s).Break
unfolding shaped
shaped_never_truncated k c (shapes.Fixed n) = Short_never_truncated n
shaped_never_truncated k c shapes.Uleb = uleb_never_truncated
shaped_never_truncated k c shapes.Sleb = sleb_never_truncated
shaped_never_truncated k c (shapes.Counted n) =
    then_never_truncated (fixed k.order n) content (Short_never_truncated n) Short_never_truncated
shaped_never_truncated k c shapes.CountedUleb =
    then_never_truncated uleb (λ u. content u.value) uleb_never_truncated (λ u. Short_never_truncated u.value)
shaped_never_truncated k c shapes.Text = text_never_truncated
shaped_never_truncated k c shapes.Present = nothing_never_truncated
shaped_never_truncated k c shapes.Implicit = constant_never_truncated c
shaped_never_truncated k c shapes.Indirect = refused_never_truncated Value BadIndirect (λ e. cc)

shaped_if_never_truncated : (k : Ctx) (c : Option Signed) (s : Option Shape) → NeverTruncated (shaped_if k c s).Break
shaped_if_never_truncated k c None = refused_never_truncated Value UnknownForm (λ e. cc)
shaped_if_never_truncated k c (Some s) = shaped_never_truncated k c s

indirection_never_truncated : (k : Ctx) (c : Option Signed) (form : ℕ) (b : Bool)
    → NeverTruncated (by_indirection k c form b).Break
indirection_never_truncated k c form true =
    then_never_truncated (judged uleb bad_inner) (λ u. formed k None u.value)
    (judged_never_truncated uleb bad_inner uleb_never_truncated
    (λ u. refuses_where (u.value == 0x16 || u.value == 0x21) BadIndirect (λ e. cc)))
    (λ u. shaped_if_never_truncated k None (shape u.value k.address_size k.format))
indirection_never_truncated k c form false = shaped_if_never_truncated k c (shape form k.address_size k.format)

pub attribute_never_truncated : (k : Ctx) (form : ℕ) (c : Option Signed) → NeverTruncated (attribute k form c).Break
unfolding attribute
attribute_never_truncated k form c =
    whole_never_truncated (by_indirection k c form (form == 0x16)) (indirection_never_truncated k c form (form == 0x16))
