-- How many entries and values a tree under construction has.
use Rattle.std.proofs.Common.{◌≡◌, ℕ, suc, ◌+◌, ◌-◌, ◌*◌, ◌≤◌, Bool, true, false, List, [], ◌∷◌, ◌++◌, length, Option, Some, None, refl, sym, ap, subst, arith}
use Rattle.std.specs.Prelude.{IfSome, ◌==◌}
use Rattle.std.specs.List.{AllByRecursion}
use Rattle.std.proofs.lemmas.Bool.{eqb-true}
use Rattle.dw_leb.specs.Number.{Unsigned}
use Rattle.dw_form.specs.declared.shape.Ctx.{Ctx}
use Rattle.dw_form.specs.Form.{Attribute}
use Rattle.dw_abbrev.specs.Table.{Pair, Declaration, Table, most_pairs, declared}
use Rattle.dw_abbrev.specs.FewPairs.{FewPairs}
use Rattle.dw_tree.specs.Tree.{leaf, values, declared_pairs}
use Rattle.dw_tree.specs.Row.{Token, leaf_row, branch_row, null_row}
use Rattle.dw_tree.specs.Place.{Spot, UnfinishedEntry, Place, spot_after, rows_before, rows_before-push}
use Rattle.dw_tree.specs.Steps.{settled, settle}
use Rattle.dw_tree.specs.DraftInvariant.{TokenFits}

-- the entries among rows, and their values
abbrev pub count_entries : List Token → ℕ
count_entries [] = 0
count_entries (leaf_row code vs ∷ xs) = 1 + count_entries xs
count_entries (branch_row code vs ∷ xs) = 1 + count_entries xs
count_entries (null_row w ∷ xs) = count_entries xs

abbrev pub count_values : List Token → ℕ
count_values [] = 0
count_values (leaf_row code vs ∷ xs) = length vs + count_values xs
count_values (branch_row code vs ∷ xs) = length vs + count_values xs
count_values (null_row w ∷ xs) = count_values xs

-- the unfinished entry, where there is one, and its values
abbrev pub unfinished_entries : Option UnfinishedEntry → ℕ
unfinished_entries None = 0
unfinished_entries (Some r) = 1

abbrev pub unfinished_values : Option UnfinishedEntry → ℕ
unfinished_values None = 0
unfinished_values (Some r) = length r.values

-- all entries, and all values but a partial one
abbrev pub entries_counted : Place → ℕ
entries_counted p = count_entries (rows_before p.spot.above p.spot.left) + unfinished_entries p.unfinished

abbrev pub values_counted : Place → ℕ
values_counted p = count_values (rows_before p.spot.above p.spot.left) + unfinished_values p.unfinished

-- ---- they are few

pub few_entries : (xs : List Token) → count_entries xs ≤ length xs
few_entries [] = omega arith
few_entries (leaf_row code vs ∷ xs) = omega (arith, few_entries xs)
few_entries (branch_row code vs ∷ xs) = omega (arith, few_entries xs)
few_entries (null_row w ∷ xs) = omega (arith, few_entries xs)

pub few_declared : (t : Table) → FewPairs t → (code : ℕ) → length (declared_pairs (declared t code)) ≤ most_pairs
few_declared t few code = by (declared t code) (few code)
  where
    by : (o : Option Declaration) → IfSome o (λ d. length d.pairs ≤ most_pairs) → length (declared_pairs o) ≤ most_pairs
    by None h = omega arith
    by (Some d) h = h

pub value_count : (k : Ctx) (ps : List Pair) (vs : List Attribute) → (values k ps).Fits vs → length vs ≡ length ps
value_count k [] [] fits = refl
value_count k [] (v ∷ vs) fits = absurd fits
value_count k (p ∷ ps) [] fits = absurd fits
value_count k (p ∷ ps) (v ∷ vs) fits = ap suc (value_count k ps vs fits.1)

pub few_values : (k : Ctx) (t : Table) → FewPairs t → (xs : List Token) → AllByRecursion (TokenFits k t) xs
    → count_values xs ≤ 1024 * count_entries xs
few_values k t few [] h = omega arith
few_values k t few (leaf_row code vs ∷ xs) h =
    omega (
      arith,
      few_values k t few xs h.1,
      few_declared t few code.value,
      value_count k (declared_pairs (declared t code.value)) vs h.0.0.values_fit,
    )
few_values k t few (branch_row code vs ∷ xs) h =
    omega (
      arith,
      few_values k t few xs h.1,
      few_declared t few code.value,
      value_count k (declared_pairs (declared t code.value)) vs h.0.0.values_fit,
    )
few_values k t few (null_row w ∷ xs) h = few_values k t few xs h.1

-- ---- what a draft counts: its entries, and the values that their declarations ask for

abbrev pub asked_by : Table → Option UnfinishedEntry → ℕ
asked_by t None = 0
asked_by t (Some r) = length (declared_pairs (declared t r.code.value))

pub record AreCounted (t : Table) (p : Place) (entries asked : ℕ) : Type 0 where
  pub entries_are : entries ≡ entries_counted p
  pub asked_are : asked ≡ count_values (rows_before p.spot.above p.spot.left) + asked_by t p.unfinished

entries_joined : (xs ys : List Token) → count_entries (xs ++ ys) ≡ count_entries xs + count_entries ys
entries_joined [] ys = omega arith
entries_joined (leaf_row code vs ∷ xs) ys = omega (arith, entries_joined xs ys)
entries_joined (branch_row code vs ∷ xs) ys = omega (arith, entries_joined xs ys)
entries_joined (null_row w ∷ xs) ys = entries_joined xs ys

values_joined : (xs ys : List Token) → count_values (xs ++ ys) ≡ count_values xs + count_values ys
values_joined [] ys = omega arith
values_joined (leaf_row code vs ∷ xs) ys = omega (arith, values_joined xs ys)
values_joined (branch_row code vs ∷ xs) ys = omega (arith, values_joined xs ys)
values_joined (null_row w ∷ xs) ys = values_joined xs ys

-- the innermost open entry is closed: its null is no entry and has no values
pub closed_counted : (t : Table) (xs : List Token) (w entries asked : ℕ)
    → xs ≡ rows_before (spot_after xs).above (spot_after xs).left
    → xs ++ null_row w ∷ []
    ≡ rows_before (spot_after (xs ++ null_row w ∷ [])).above (spot_after (xs ++ null_row w ∷ [])).left
    → AreCounted t (record { spot = spot_after xs; unfinished = None }) entries asked
    → AreCounted t (record { spot = spot_after (xs ++ null_row w ∷ []); unfinished = None }) entries asked
closed_counted t xs w entries asked old new are = record {
  entries_are =
      omega (arith, are.entries_are, ap count_entries old, ap count_entries new, entries_joined xs (null_row w ∷ []));
  asked_are =
      omega (arith, are.asked_are, ap count_values old, ap count_values new, values_joined xs (null_row w ∷ []));
}

-- an entry that its declaration asks for so many values
module _ (t : Table) (s : Spot) (code : Unsigned) (d : Declaration) (known : declared t code.value ≡ Some d) where
  asks : length (declared_pairs (declared t code.value)) ≡ length d.pairs
  asks = ap (λ (o : Option Declaration). length (declared_pairs o)) known

  -- with these values, where it may have all
  settles : (vs : List Attribute) (entries asked : ℕ) → entries ≡ count_entries (rows_before s.above s.left) + 1
      → asked ≡ count_values (rows_before s.above s.left) + length d.pairs
      → AreCounted t (settle t s code vs) entries asked
  settles vs entries asked e a =
      rw known (by (length vs == length d.pairs) d.children (eqb-true (length vs) (length d.pairs)))
    where
      xs : List Token
      xs = rows_before s.above s.left

      by : (whole children : Bool) → (whole ≡ true → length vs ≡ length d.pairs)
          → AreCounted t (settled whole children s code vs) entries asked
      by true true all = record {
        entries_are = omega (arith, e, entries_joined xs (branch_row code vs ∷ []));
        asked_are = omega (arith, a, all refl, values_joined xs (branch_row code vs ∷ []));
      }
      by true false all =
          let is = rows_before-push s.above s.left (leaf code vs) in
          record {
            entries_are = omega (arith, e, ap count_entries is, entries_joined xs (leaf_row code vs ∷ []));
            asked_are = omega (arith, a, all refl, ap count_values is, values_joined xs (leaf_row code vs ∷ []));
          }
      by false children all = record { entries_are = e; asked_are = omega (arith, a, asks) }

  -- it begins
  pub begun_counted : (vs : List Attribute) (entries asked n : ℕ) (p : Place) → p ≡ settle t s code vs
      → length d.pairs ≡ n → AreCounted t (record { spot = s; unfinished = None }) entries asked
      → AreCounted t p (entries + 1) (asked + n)
  begun_counted vs entries asked n p is many are =
      subst (λ (q : Place). AreCounted t q (entries + 1) (asked + n)) (sym is)
      (settles vs (entries + 1) (asked + n) (omega (arith, are.entries_are)) (omega (arith, are.asked_are, many)))

  module _ (ws : List Attribute) (entries asked : ℕ)
      (are : AreCounted t
      (record { spot = s; unfinished = Some (record { code = code; values = ws; partial = None }) }) entries asked)
    where
      -- it is given a value more
      pub given_counted : (vs : List Attribute) (p : Place) → p ≡ settle t s code vs → AreCounted t p entries asked
      given_counted vs p is =
          subst (λ (q : Place). AreCounted t q entries asked) (sym is)
          (settles vs entries asked are.entries_are (omega (arith, are.asked_are, asks)))

      -- it is taken back
      pub undone_counted : (n : ℕ) → length d.pairs ≡ n
          → AreCounted t (record { spot = s; unfinished = None }) (entries - 1) (asked - n)
      undone_counted n many =
          record { entries_are = omega (arith, are.entries_are); asked_are = omega (arith, are.asked_are, asks, many) }
