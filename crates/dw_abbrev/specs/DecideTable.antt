-- Tables: the reader decides the part, and the place in a section.
use Rattle.std.proofs.Common.{◌≡◌, ℕ, zero, suc, ◌+◌, ◌-◌, ◌<◌, ◌≤◌, Bool, true, false, cond, List, [], ◌∷◌, ◌++◌, length, drop, Option, Some, None, refl, sym, ap, ◌∙◌, arith, inl, inr}
use Rattle.std.specs.Prelude.{if◌then◌else◌, nat_lt, ◌==◌, map}
use Rattle.std.proofs.lemmas.Bool.{eqb-true, eqb-false, ltb-true, ltb-false, lt-ltb, le-ltb, and_parts}
use Rattle.std.proofs.lemmas.List.{length-append, length-drop}
use Rattle.dw_leb.specs.Constants.{DW_FORM_implicit_const}
use Rattle.dw_leb.specs.declared.errors.Reason.{Reason}
use Rattle.dw_leb.specs.declared.errors.Reason.TheVariants.{AbbrevOffset, BadChildren}
use Rattle.dw_leb.specs.Part.{Part, ◌then◌, judged, optional}
use Rattle.dw_leb.specs.declared.order.Order.TheVariants.{Little}
use Rattle.dw_leb.specs.Number.{Unsigned, Signed, uleb, sleb, fixed}
use Rattle.dw_leb.specs.Repeat.{ItemsFit}
use Rattle.dw_leb.specs.Reader.{Outcome, Found, Broken, Reader, ◌and_then◌, checked, read_optional}
use Rattle.dw_leb.specs.ReadNumber.{read_uleb, read_sleb, read_fixed}
use Rattle.dw_leb.specs.Decide.{Decides, Says, AreBytes, found, broken, IsView, then_decides, judged_decides, seen_decides, optional_decides}
use Rattle.dw_leb.specs.DecideRepeat.{repeated_decides, items_end}
use Rattle.dw_leb.specs.Digits.{fixed_decides}
use Rattle.dw_leb.specs.DecideNumber.{uleb_decides, sleb_decides, uleb_some}
use Rattle.dw_abbrev.specs.Table.{Pair, Declaration, Table, is_null, half, is_end, too_many, pairs, bad_flag, described, Described, repeats, declarations, pair_parts, zero_of, declaration_parts, table_parts, table, unbounded, TableAt, TableBreaks}
use Rattle.dw_abbrev.specs.ReadTable.{read_pairs, read_described, read_declarations, pair_from, declaration_from, table_from, read_table, placed, read_table_at}

pub null_is : (u : Unsigned) → is_null u ≡ true → zero_of u.width ≡ u
null_is u e =
    let z : u.value ≡ 0 = eqb-true u.value 0 e in ap (λ (v : ℕ). (record { value = v; width = u.width })) (sym z)

abbrev two : Part (Unsigned × Unsigned)
two = uleb then λ _. uleb

abbrev read_two : Reader (Unsigned × Unsigned)
read_two = read_uleb and_then λ _. read_uleb

abbrev pub Item : Type 0
Item = (Unsigned × Unsigned) × Option Signed

abbrev pub pair_head : List Item → Part (Unsigned × Unsigned)
pair_head before = judged (judged two half) (too_many (length before))

abbrev pub pair_rest : Unsigned × Unsigned → Part (Option Signed)
pair_rest x = optional (x.1.value == DW_FORM_implicit_const) sleb

pairs_decides : Decides pairs read_pairs
pairs_decides =
    repeated_decides pair_head is_end pair_rest (λ before. checked (checked read_two half) (too_many (length before)))
    (λ x. read_optional (x.1.value == DW_FORM_implicit_const) read_sleb)
    (λ before.
    judged_decides (judged two half) (checked read_two half) (too_many (length before))
    (judged_decides two read_two half
    (then_decides uleb (λ _. uleb) read_uleb (λ _. read_uleb) uleb_decides (λ _. uleb_decides))))
    (λ x. optional_decides (x.1.value == DW_FORM_implicit_const) sleb read_sleb sleb_decides)
    (λ before h fits. omega (arith, uleb_some h.0 fits.0.0.0, length-append (uleb.spell h.0) (uleb.spell h.1)))

pub described_decides : Decides described read_described
described_decides =
    then_decides _ _ _ _ uleb_decides
    (λ _.
    then_decides _ _ _ _ (judged_decides (fixed Little 1) (read_fixed Little 1) bad_flag (fixed_decides Little 1))
    (λ _. pairs_decides))

abbrev pub code_head : List (Unsigned × Described) → Part Unsigned
code_head before = judged uleb (repeats before)

declarations_decides : Decides declarations read_declarations
declarations_decides =
    repeated_decides code_head is_null (λ _. described) (λ before. checked read_uleb (repeats before))
    (λ _. read_described)
    (λ before. judged_decides uleb read_uleb (repeats before) uleb_decides) (λ _. described_decides)
    (λ before h fits. uleb_some h fits.0)

-- ---- the same with names

pairs_back : (ps : List Pair) → map pair_from (map pair_parts ps) ≡ ps
pairs_back [] = refl
pairs_back (p ∷ ps) = ap (λ (xs : List Pair). p ∷ xs) (pairs_back ps)

pairs_there : (xs : List Item) → map pair_parts (map pair_from xs) ≡ xs
pairs_there [] = refl
pairs_there (x ∷ xs) = ap (λ (ys : List Item). x ∷ ys) (pairs_there xs)

flag_back : (b : Bool) → (if (if b then 1 else 0) == 0 then false else true) ≡ b
flag_back true = refl
flag_back false = refl

flag_there : (x : ℕ) → bad_flag x ≡ None → (if (if x == 0 then false else true) then 1 else 0) ≡ x
flag_there x e = by (nat_lt x 2) refl e
  where
    at : (v : Bool) → (x == 0) ≡ v → x < 2 → (if (if v then false else true) then 1 else 0) ≡ x
    at true z lt = sym (eqb-true x 0 z)
    at false z lt = omega (arith, eqb-false x 0 z, lt)

    by : (v : Bool) → nat_lt x 2 ≡ v → cond v None (Some BadChildren) ≡ None
        → (if (if x == 0 then false else true) then 1 else 0) ≡ x
    by true lt h = at (x == 0) refl (ltb-true x 2 lt)
    by false lt h = absurd cc

declaration_back : (d : Declaration) → declaration_from (declaration_parts d) ≡ d
declaration_back d = rw (flag_back d.children, pairs_back d.pairs) refl

declaration_there : (x : Unsigned × Described) → described.Fits x.1 → declaration_parts (declaration_from x) ≡ x
declaration_there x fits =
    let ends = and_parts _ _ (items_end pair_head is_end pair_rest [] x.1.1.1.0 x.1.1.1.1 fits.1.1) in
    rw (flag_there x.1.1.0 fits.1.0.1, pairs_there x.1.1.1.0, null_is x.1.1.1.1.0 ends.0, null_is x.1.1.1.1.1 ends.1)
    refl

pub declarations_back : (ds : List Declaration) → map declaration_from (map declaration_parts ds) ≡ ds
declarations_back [] = refl
declarations_back (d ∷ ds) = rw (declaration_back d, declarations_back ds) refl

declarations_there : (before xs : List (Unsigned × Described)) (end : Unsigned)
    → ItemsFit code_head is_null (λ _. described) before xs end → map declaration_parts (map declaration_from xs) ≡ xs
declarations_there before [] end fits = refl
declarations_there before (x ∷ xs) end fits =
    rw (declaration_there x fits.0.2, declarations_there (before ++ x ∷ []) xs end fits.1) refl

table_view : IsView declarations table_parts table_from
table_view = record {
  back = λ t a e fits. let c : (map declaration_parts t.declarations, zero_of t.last_zero) ≡ a = cc in
      ap table_from (sym c)
      ∙ ap (λ (ds : List Declaration). (record { declarations = ds; last_zero = t.last_zero }))
      (declarations_back t.declarations);
  there =
      λ a fits.
      rw (
        declarations_there [] a.0 a.1 fits,
        null_is a.1 (items_end code_head is_null (λ _. described) [] a.0 a.1 fits),
      )
      refl;
}

pub table_decides : Decides table read_table
unfolding table read_table
table_decides = seen_decides declarations read_declarations table_parts table_from table_view declarations_decides

-- ---- at a place

pub table_take : (abbreviations : List ℕ) (offset : ℕ) (t : Table) → TableAt abbreviations offset t
    → read_table_at abbreviations offset ≡ found t (length (table.spell t))
unfolding read_table_at
table_take abbreviations offset t h =
    let len : length (drop offset abbreviations) ≡ length (table.spell t) + length h.rest =
    ap length h.split ∙ length-append (table.spell t) h.rest in
    let len2 : length (drop offset abbreviations) ≡ length abbreviations - offset = length-drop offset abbreviations in
    let within : length (table.spell t) ≤ unbounded abbreviations = omega arith in
    rw (lt-ltb offset (length abbreviations) h.inside)
    (ap (λ (b : List ℕ). placed offset (read_table b (unbounded abbreviations))) h.split
    ∙ ap (placed offset) (table_decides.takes t h.rest (unbounded abbreviations) h.fits within))

pub table_fault : (abbreviations : List ℕ) (offset at : ℕ) (reason : Reason)
    → TableBreaks abbreviations offset at reason → read_table_at abbreviations offset ≡ broken Table at reason
unfolding read_table_at
table_fault abbreviations offset at reason h = elim h [
  | inl past ↦ rw (le-ltb offset (length abbreviations) (omega (arith, past.0)), past.1, past.2) refl
  | inr own ↦ rw (lt-ltb offset (length abbreviations) own.0)
      (ap (placed offset)
      (table_decides.faults (drop offset abbreviations) (unbounded abbreviations) own.1.0 reason own.1.2)
      ∙ ap (λ (n : ℕ). broken Table n reason) (sym own.1.1))
]

abbrev pub TableSays : List ℕ → ℕ → Outcome Table → Type 0
TableSays abbreviations offset (Found t size) = TableAt abbreviations offset t
TableSays abbreviations offset (Broken at reason) = TableBreaks abbreviations offset at reason

pub AreBytes-drop : (n : ℕ) (bytes : List ℕ) → AreBytes bytes → AreBytes (drop n bytes)
AreBytes-drop zero bytes h = h
AreBytes-drop (suc n) [] h = tt
AreBytes-drop (suc n) (b ∷ bytes) h = AreBytes-drop n bytes h.1

pub table_says : (abbreviations : List ℕ) (offset : ℕ) → AreBytes abbreviations
    → TableSays abbreviations offset (read_table_at abbreviations offset)
unfolding read_table_at
table_says abbreviations offset fit = by (nat_lt offset (length abbreviations)) refl
  where
    in_place : offset < length abbreviations → (o : Outcome Table)
        → Says table (drop offset abbreviations) (unbounded abbreviations) o
        → TableSays abbreviations offset (placed offset o)
    in_place lt (Found t size) h = record { inside = lt; fits = h.fits; rest = h.rest; split = h.split }
    in_place lt (Broken own reason) h = inr (lt, (own, refl, h))

    by : (v : Bool) → nat_lt offset (length abbreviations) ≡ v
        → TableSays abbreviations offset
        (if v then placed offset (read_table (drop offset abbreviations) (unbounded abbreviations))
        else Broken offset AbbrevOffset)
    by true e =
        in_place (ltb-true _ _ e) (read_table (drop offset abbreviations) (unbounded abbreviations))
        (table_decides.says (drop offset abbreviations) (unbounded abbreviations)
        (AreBytes-drop offset abbreviations fit))
    by false e = inl (omega (arith, ltb-false _ _ e), refl, refl)
