-- What is written by structure is the spelling.
use Rattle.dw_abbrev.specs.declared.pair.Pair.{Pair as RustPair}
use Rattle.dw_abbrev.specs.PairView.{pair_of}
use Rattle.std.proofs.Common.{◌≡◌, ◌+◌, ◌<◌, ℕ, suc, zero, Bool, true, false, List, [], ◌∷◌, ◌++◌, length, drop, get_or, Option, Some, None, refl, sym, ap, ◌∙◌, append_assoc, arith}
use Rattle.std.specs.Prelude.{map, ◌==◌}
use Rattle.dw_leb.specs.Part.{optional}
use Rattle.dw_leb.specs.Number.{Unsigned, Signed, uleb, sleb}
use Rattle.dw_leb.specs.Repeat.{items_bytes, ItemsFit}
use Rattle.dw_abbrev.specs.DecideTable.{Item, pair_head, pair_rest, code_head}
use Rattle.dw_abbrev.specs.Table.{Pair, Declaration, Table, Described, is_end, is_null, described, pair_parts, declaration_parts, zero_of, table}
use Rattle.dw_abbrev.specs.Spelling.{constant_bytes, pair_bytes, pairs_bytes, flag_bytes, zeros_bytes, declaration_bytes, declarations_bytes, table_bytes}

constant_spelled : (v : Bool) (o : Option Signed) → (optional v sleb).Fits o → (optional v sleb).spell o ≡ constant_bytes o
constant_spelled true None h = absurd h
constant_spelled true (Some s) h = refl
constant_spelled false None h = refl
constant_spelled false (Some s) h = absurd h

pair_spelled : (p : Pair) → (pair_rest (p.name, p.form)).Fits p.constant → (uleb.spell p.name ++ uleb.spell p.form) ++ (pair_rest (p.name, p.form)).spell p.constant ≡ pair_bytes p
pair_spelled p h =
    ap (λ (s : List ℕ). (uleb.spell p.name ++ uleb.spell p.form) ++ s) (constant_spelled (p.form.value == 0x21) p.constant h)
    ∙ append_assoc (uleb.spell p.name) (uleb.spell p.form) (constant_bytes p.constant)

pairs_spelled : (before : List Item) (ps : List Pair) (n f : Unsigned) → ItemsFit pair_head is_end pair_rest before (map pair_parts ps) (n, f)
    → items_bytes pair_head is_end pair_rest before (map pair_parts ps) (n, f) ≡ pairs_bytes ps ++ (uleb.spell n ++ uleb.spell f)
pairs_spelled before [] n f fits = refl
pairs_spelled before (p ∷ ps) n f fits =
    ap (λ (s : List ℕ). s ++ items_bytes pair_head is_end pair_rest (before ++ pair_parts p ∷ []) (map pair_parts ps) (n, f)) (pair_spelled p fits.0.2)
    ∙ ap (λ (s : List ℕ). pair_bytes p ++ s) (pairs_spelled (before ++ pair_parts p ∷ []) ps n f fits.1)
    ∙ sym (append_assoc (pair_bytes p) (pairs_bytes ps) (uleb.spell n ++ uleb.spell f))

pub declaration_spelled : (d : Declaration) → described.Fits (declaration_parts d).1 → uleb.spell d.code ++ described.spell (declaration_parts d).1 ≡ declaration_bytes d
declaration_spelled d fits =
    let rest = pairs_bytes d.pairs ++ zeros_bytes d in
    ap (λ (s : List ℕ). uleb.spell d.code ++ (uleb.spell d.tag ++ (flag_bytes d.children ++ s))) (pairs_spelled [] d.pairs (zero_of d.name_zero) (zero_of d.form_zero) fits.1.1)
    ∙ sym (append_assoc (uleb.spell d.code) (uleb.spell d.tag ++ flag_bytes d.children) rest ∙ ap (λ (s : List ℕ). uleb.spell d.code ++ s) (append_assoc (uleb.spell d.tag) (flag_bytes d.children) rest))

declarations_spelled : (before : List (Unsigned × Described)) (ds : List Declaration) (end : Unsigned) → ItemsFit code_head is_null (λ _. described) before (map declaration_parts ds) end
    → items_bytes code_head is_null (λ _. described) before (map declaration_parts ds) end ≡ declarations_bytes ds ++ uleb.spell end
declarations_spelled before [] end fits = refl
declarations_spelled before (d ∷ ds) end fits =
    ap (λ (s : List ℕ). s ++ items_bytes code_head is_null (λ _. described) (before ++ declaration_parts d ∷ []) (map declaration_parts ds) end) (declaration_spelled d fits.0.2)
    ∙ ap (λ (s : List ℕ). declaration_bytes d ++ s) (declarations_spelled (before ++ declaration_parts d ∷ []) ds end fits.1)
    ∙ sym (append_assoc (declaration_bytes d) (declarations_bytes ds) (uleb.spell end))

pub table_spelled : (t : Table) → table.Fits t → table.spell t ≡ table_bytes t
unfolding table
table_spelled t fits = declarations_spelled [] t.declarations (zero_of t.last_zero) fits

-- the next of the pairs that are left
pub pairs_left : (ps : List RustPair) (i : ℕ) (p : RustPair) → i < length ps → p ≡ get_or ps i p → pairs_bytes (map pair_of (drop i ps)) ≡ pair_bytes (pair_of p) ++ pairs_bytes (map pair_of (drop (suc i) ps))
pairs_left [] i p lt e = absurd (omega (arith, lt))
pairs_left (q ∷ ps) zero p lt e = ap (λ (r : RustPair). pair_bytes (pair_of r) ++ pairs_bytes (map pair_of ps)) (sym e)
pairs_left (q ∷ ps) (suc i) p lt e = pairs_left ps i p (omega (arith, lt)) e

pub pairs_left_behind : (ps : List RustPair) (i : ℕ) (p : RustPair) → i < length ps → p ≡ get_or ps i p → pairs_bytes (map pair_of (drop i ps)) ≡ pair_bytes (pair_of p) ++ pairs_bytes (map pair_of (drop (i + 1) ps))
pairs_left_behind ps i p lt e = let one : i + 1 ≡ suc i = omega arith in rw one (pairs_left ps i p lt e)
