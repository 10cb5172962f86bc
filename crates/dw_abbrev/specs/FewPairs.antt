-- A declaration of a table that has a spelling has at most 1,024 pairs.
use Rattle.std.proofs.Common.{◌≡◌, ℕ, ◌+◌, ◌<◌, ◌≤◌, Bool, true, false, List, [], ◌∷◌, ◌++◌, length, Some, None, refl, arith, length-append}
use Rattle.std.proofs.lemmas.Bool.{ltb-true}
use Rattle.std.proofs.lemmas.List.{length-map}
use Rattle.std.specs.Prelude.{IfSome, nat_lt, ◌==◌, ◌||◌, if◌then◌else◌, map}
use Rattle.dw_leb.specs.declared.errors.Reason.TheVariants.{TooManyPairs}
use Rattle.dw_leb.specs.Number.{Unsigned}
use Rattle.dw_leb.specs.Repeat.{ItemsFit}
use Rattle.dw_abbrev.specs.Table.{Declaration, Table, is_null, is_end, too_many, most_pairs, described, Described, pair_parts, zero_of, declaration_parts, table, declared_in, declared}
use Rattle.dw_abbrev.specs.DecideTable.{Item, pair_head, pair_rest, code_head}

abbrev pub FewPairs : Table → Type 0
FewPairs t = (code : ℕ) → IfSome (declared t code) (λ d. length d.pairs ≤ most_pairs)

-- a pair that isn't the ending one has fewer than 1,024 before it
fewer_before : (n : ℕ) (x : Unsigned × Unsigned) → is_end x ≡ false → too_many n x ≡ None → n < most_pairs
fewer_before n x e h = by (is_end x) (nat_lt n most_pairs) e refl h
  where
    by : (end few : Bool) → end ≡ false → nat_lt n most_pairs ≡ few
        → (if end || few then None else Some TooManyPairs) ≡ None → n < most_pairs
    by true few e f h = absurd cc
    by false true e f h = ltb-true n most_pairs f
    by false false e f h = absurd cc

few_items : (before xs : List Item) (end : Unsigned × Unsigned) → ItemsFit pair_head is_end pair_rest before xs end
    → length before ≤ most_pairs → length before + length xs ≤ most_pairs
few_items before [] end h m = omega (arith, m)
few_items before (x ∷ xs) end h m =
    let n = fewer_before (length before) x.0 h.0.1 h.0.0.1 in
    let l : length (before ++ x ∷ []) ≡ length before + 1 = length-append before (x ∷ []) in
    omega (arith, l, few_items (before ++ x ∷ []) xs end h.1 (omega (arith, l, n)))

few_declared : (before : List (Unsigned × Described)) (ds : List Declaration) (end : Unsigned)
    → ItemsFit code_head is_null (λ _. described) before (map declaration_parts ds) end
    → (code : ℕ) → IfSome (declared_in ds code) (λ d. length d.pairs ≤ most_pairs)
few_declared before [] end h code = tt
few_declared before (d ∷ ds) end h code =
    by (code == d.code.value) (few_declared (before ++ declaration_parts d ∷ []) ds end h.1 code)
  where
    by : (b : Bool) → IfSome (declared_in ds code) (λ d. length d.pairs ≤ most_pairs)
        → IfSome (if b then Some d else declared_in ds code) (λ d. length d.pairs ≤ most_pairs)
    by true others =
        let few =
        few_items [] (map pair_parts d.pairs) (zero_of d.name_zero, zero_of d.form_zero) h.0.2.1.1
        (omega arith) in
        omega (arith, few, length-map d.pairs pair_parts)
    by false others = others

pub few_pairs : (t : Table) → table.Fits t → FewPairs t
unfolding table
few_pairs t fits = few_declared [] t.declarations (zero_of t.last_zero) fits
