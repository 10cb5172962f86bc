-- Which attributes have the name of an earlier one, and which are looked at: a flag for each up to the last of these,
-- as declarations tell it.
use Rattle.std.specs.Prelude.{◌≡◌, ◌==◌, ◌||◌, ◌&&◌, not, ℕ, Bool, false, List, [], ◌∷◌, ◌++◌, is_some, nat_eq, Vec}
use Rattle.std.specs.declared.alloc.Global.{Global}
use Rattle.std.specs.List.{AllByRecursion, list_any}
use Rattle.dw_leb.specs.Constants.{DW_AT_sibling, DW_FORM_indirect, DW_FORM_ref1, DW_FORM_ref2, DW_FORM_ref4}
use Rattle.dw_leb.specs.Constants.{DW_FORM_ref8, DW_FORM_ref_udata}
use Rattle.dw_form.specs.Form.{at_number}
use Rattle.dw_abbrev.specs.Table.{Pair, Table, declared}
use Rattle.dw_tree.specs.Tree.{declared_pairs}
use Rattle.dw_tree.specs.Lent.{LentAttribute, EntryAt, attributes_of}
use Rattle.dw_section.specs.Reference.{ref_forms}
use Rattle.dw_strings.specs.Text.{stored_forms}
use Rattle.dw_check.specs.Findings.{is_named_among, is_sibling}

-- of pairs behind others of these names
abbrev pub repeats_behind : List ℕ → List Pair → List Bool
repeats_behind names [] = []
repeats_behind names (p ∷ ps) = list_any (nat_eq p.name.value) names ∷ repeats_behind (names ++ p.name.value ∷ []) ps

-- whether values of a name and a form can have findings by themselves: a sibling, a reference, a text that a number
-- names, or what its value tells, as an indirect value does
abbrev pub is_looked_at : ℕ → ℕ → Bool
is_looked_at name form =
    name == DW_AT_sibling ||
    (form == DW_FORM_indirect || (is_some (at_number form ref_forms) || is_some (at_number form stored_forms)))

-- whether values of a name and a form can be references to entries of their unit that are looked up: under ref1, ref2,
-- ref4, ref8, ref_udata, or what an indirect value is
abbrev pub refers_within : ℕ → ℕ → Bool
refers_within name form =
    not (name == DW_AT_sibling) &&
    (form == DW_FORM_ref1 ||
    (form == DW_FORM_ref2 ||
    (form == DW_FORM_ref4 ||
    (form == DW_FORM_ref8 || (form == DW_FORM_ref_udata || form == DW_FORM_indirect)))))

-- Repeats for pairs behind others of these names: each says whether one of those before it has its name. The pairs at
-- the end that have no flag aren't looked at, and none of those before one of them has its name.
abbrev pub AreRepeatsFor : List ℕ → List Pair → List Bool → Type 0
AreRepeatsFor names [] repeats = Unit {0}
AreRepeatsFor names (p ∷ ps) [] =
    (is_looked_at p.name.value p.form.value ≡ false)
    × ((list_any (nat_eq p.name.value) names ≡ false) × AreRepeatsFor (names ++ p.name.value ∷ []) ps [])
AreRepeatsFor names (p ∷ ps) (m ∷ repeats) =
    (m ≡ list_any (nat_eq p.name.value) names) × AreRepeatsFor (names ++ p.name.value ∷ []) ps repeats

-- the repeats that are kept are those of their codes
abbrev pub AreRepeats : Table → List (ℕ × Vec Bool Global) → Type 0
AreRepeats t kept = AllByRecursion (λ m. AreRepeatsFor [] (declared_pairs (declared t m.0)) m.1.items) kept

-- it is no sibling, no reference, and no text that a number names
abbrev pub IsPlain : LentAttribute → Type 0
IsPlain a =
    (is_sibling a ≡ false)
    × ((is_some (at_number a.form ref_forms) ≡ false) × (is_some (at_number a.form stored_forms) ≡ false))

-- Repeats for attributes behind others: each says whether one of those before it has its name. The attributes at the
-- end that have no flag are plain, and none of those before one of them has its name.
abbrev pub AreRepeatsOf : List LentAttribute → List LentAttribute → List Bool → Type 0
AreRepeatsOf before [] repeats = Unit {0}
AreRepeatsOf before (a ∷ others) [] =
    IsPlain a × ((is_named_among a.name before ≡ false) × AreRepeatsOf (before ++ a ∷ []) others [])
AreRepeatsOf before (a ∷ others) (m ∷ repeats) =
    (m ≡ is_named_among a.name before) × AreRepeatsOf (before ++ a ∷ []) others repeats

-- what are repeats for a code of a table are repeats for the attributes of the entry
abbrev pub RepeatsInItsEntries : Table → ℕ → EntryAt → Type 0
RepeatsInItsEntries t code e =
    (repeats : List Bool) → AreRepeatsFor [] (declared_pairs (declared t code)) repeats
    → AreRepeatsOf [] (attributes_of e) repeats
