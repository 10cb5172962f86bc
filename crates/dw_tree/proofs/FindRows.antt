-- The entry at an offset, by its row.
use Rattle.std.proofs.Common.{◌≡◌, ◌≢◌, ℕ, zero, suc, ◌+◌, ◌<◌, ◌≤◌, Bool, true, false, List, [], ◌∷◌, length, get_or, refl, sym, ◌∙◌, ap, subst, arith, Some, None}
use Rattle.std.specs.Prelude.{◌==◌, if◌then◌else◌}
use Rattle.std.proofs.lemmas.Bool.{ne_eqb, eq-eqb}
use Rattle.std.proofs.lemmas.List.{length-append}
use Rattle.dw_leb.specs.Number.{uleb, Unsigned}
use Rattle.dw_leb.specs.DecideNumber.{uleb_some}
use Rattle.dw_form.specs.declared.shape.Ctx.{Ctx}
use Rattle.dw_form.specs.Form.{Attribute}
use Rattle.dw_abbrev.specs.Table.{Table, declared, zero_of}
use Rattle.dw_tree.specs.declared.tree.EntryTree.TheInside.{Inside}
use Rattle.dw_tree.specs.declared.row.Row.{Row}
use Rattle.dw_tree.specs.declared.row.RowKind.{RowKind}
use Rattle.dw_tree.specs.declared.row.RowKind.TheVariants.{Leaf, Branch, Null}
use Rattle.dw_tree.specs.Tree.{values, declared_pairs}
use Rattle.dw_tree.specs.Row.{Token, leaf_row, branch_row, null_row, row_bytes}
use Rattle.dw_tree.specs.Steps.{TreeAt}
use Rattle.dw_tree.specs.TreeView.{tree_at, tokens_in, IsTree}
use Rattle.dw_tree.specs.Flat.{IsEntry, IsNull}
use Rattle.dw_tree.specs.DraftInvariant.{Stand, TokenFits, level_after}
use Rattle.dw_tree.specs.Lent.{EntryAt, find_at, from_offset, entries_of, entries_from, entry_at_row}
use Rattle.dw_tree.proofs.EntryRows.{Stands, chain_row, next_of, skips, none_left, row_offset}
use Rattle.dw_tree.proofs.AllEntries.{all_entries}

-- an element that is there doesn't depend on the default
pub same_default : {X : Type 0} (xs : List X) (i : ℕ) (d e : X) → i < length xs → get_or xs i d ≡ get_or xs i e
same_default [] i d e h = absurd (omega (arith, h))
same_default (x ∷ xs) zero d e h = refl
same_default (x ∷ xs) (suc i) d e h = same_default xs i d e (omega (arith, h))

-- ---- offsets grow, since each row has a byte

module _ (k : Ctx) (t : Table) where
  entry_some : (code : Unsigned) (vs : List Attribute) → uleb.Fits code → 0 < length (row_bytes k t (leaf_row code vs))
  entry_some code vs fits = omega (arith, uleb_some code fits, length-append (uleb.spell code) ((values k (declared_pairs (declared t code.value))).spell vs))

  pub row_some : (x : Token) → TokenFits k t x → 0 < length (row_bytes k t x)
  row_some (leaf_row code vs) fits = entry_some code vs fits.0.code_fits
  row_some (branch_row code vs) fits = entry_some code vs fits.0.code_fits
  row_some (null_row w) fits = uleb_some (zero_of w) fits

  none_before : (at depth : ℕ) (rows : List Row) (xs : List Token) (i : ℕ) (d : Row) → i < length rows → Stand k t at depth rows xs → at ≤ (get_or rows i d).offset
  none_before at depth [] xs i d l h = absurd (omega (arith, l))
  none_before at depth (r ∷ rows) [] i d l h = absurd h
  none_before at depth (r ∷ rows) (x ∷ xs) zero d l h = omega (arith, h.0.0)
  none_before at depth (r ∷ rows) (x ∷ xs) (suc i) d l h =
      let b = none_before (at + length (row_bytes k t x)) (level_after depth x) rows xs i d (omega (arith, l)) h.1 in omega (arith, b)

  grow : (at depth : ℕ) (rows : List Row) (xs : List Token) (i j : ℕ) (d : Row) → i < j → j < length rows → Stand k t at depth rows xs → (get_or rows i d).offset < (get_or rows j d).offset
  grow at depth [] xs i j d o l h = absurd (omega (arith, l))
  grow at depth (r ∷ rows) [] i j d o l h = absurd h
  grow at depth (r ∷ rows) (x ∷ xs) i zero d o l h = absurd (omega (arith, o))
  grow at depth (r ∷ rows) (x ∷ xs) zero (suc j) d o l h =
      let b = none_before (at + length (row_bytes k t x)) (level_after depth x) rows xs j d (omega (arith, l)) h.1 in omega (arith, b, h.0.0, row_some x h.0.2)
  grow at depth (r ∷ rows) (x ∷ xs) (suc i) (suc j) d o l h = grow (at + length (row_bytes k t x)) (level_after depth x) rows xs i j d (omega (arith, o)) (omega (arith, l)) h.1

-- ---- the entries from that of an offset on

passed : (o : ℕ) (x : EntryAt) (xs : List EntryAt) → x.offset ≢ o → from_offset o (x ∷ xs) ≡ from_offset o xs
passed o x xs n = rw (ne_eqb x.offset o n) refl

taken : (o : ℕ) (x : EntryAt) (xs : List EntryAt) → x.offset ≡ o → from_offset o (x ∷ xs) ≡ x ∷ xs
taken o x xs e = rw (eq-eqb x.offset o e) refl

-- the first of them is the one at the offset
found : (o : ℕ) (xs : List EntryAt) (x : EntryAt) (ys : List EntryAt) → from_offset o xs ≡ x ∷ ys → find_at o xs ≡ Some x
found o [] x ys e = absurd cc
found o (z ∷ xs) x ys e = by (z.offset == o) e (found o xs x ys)
  where
    by : (v : Bool) → (if v then z ∷ xs else from_offset o xs) ≡ x ∷ ys → (from_offset o xs ≡ x ∷ ys → find_at o xs ≡ Some x) → (if v then Some z else find_at o xs) ≡ Some x
    by true f rest = cc
    by false f rest = rest f

not_found : (o : ℕ) (xs : List EntryAt) → from_offset o xs ≡ [] → find_at o xs ≡ None
not_found o [] e = refl
not_found o (z ∷ xs) e = by (z.offset == o) e (not_found o xs)
  where
    by : (v : Bool) → (if v then z ∷ xs else from_offset o xs) ≡ [] → (from_offset o xs ≡ [] → find_at o xs ≡ None) → (if v then Some z else find_at o xs) ≡ None
    by true f rest = absurd cc
    by false f rest = rest f

module _ (a : Inside) (i : IsTree a) (v : TreeAt) (e : tree_at a ≡ v) where
  abbrev rows : List Row
  rows = a.rows.items

  pub offsets_grow : (m n : ℕ) (d : Row) → m < n → n < length rows → (get_or rows m d).offset < (get_or rows n d).offset
  offsets_grow m n d o l = grow a.context a.table.value a.start 1 rows (tokens_in a) m n d o l i.stand

  module _ (o : ℕ) where
    -- no entry begins at the offset in this row
    abbrev pub Passes : ℕ → Row → Type 0
    Passes n d = IsEntry (get_or rows n d).kind → (get_or rows n d).offset ≢ o

    pub stands : (n : ℕ) (d : Row) → n < length rows → IsEntry (get_or rows n d).kind → Stands v n
    stands n d l is = (chain_row a i v e n d l is).stands_here

    entry_passes : (n : ℕ) (d : Row) → n < length rows → IsEntry (get_or rows n d).kind → Passes n d → from_offset o (entries_from v n) ≡ from_offset o (entries_from v (suc n))
    entry_passes n d l is p =
        ap (from_offset o) (next_of a i v e n d l is (stands n d l is))
        ∙ passed o (entry_at_row v n) (entries_from v (suc n)) (λ same. p is (row_offset a i v e n d l ∙ same))

    row_passes : (n : ℕ) (d : Row) → n < length rows → Passes n d → from_offset o (entries_from v n) ≡ from_offset o (entries_from v (suc n))
    row_passes n d l p = by (get_or rows n d).kind refl
      where
        by : (k : RowKind) → (get_or rows n d).kind ≡ k → from_offset o (entries_from v n) ≡ from_offset o (entries_from v (suc n))
        by Leaf is = entry_passes n d l (subst IsEntry (sym is) tt) p
        by Branch is = entry_passes n d l (subst IsEntry (sym is) tt) p
        by Null is =
            let one : suc n ≡ n + 1 = omega arith in
            ap (from_offset o) (skips a i v e 1 n d (omega (arith, l)) (λ j x y. let here : n ≡ j = omega (arith, x, y) in subst (λ (m : ℕ). IsNull (get_or rows m d).kind) here (subst IsNull (sym is) tt)))
            ∙ ap (λ (m : ℕ). from_offset o (entries_from v m)) (sym one)

    -- so the search may begin behind rows that it passes
    rows_pass : (n : ℕ) (d : Row) → n ≤ length rows → ((j : ℕ) → j < n → Passes j d) → from_offset o (entries_of v) ≡ from_offset o (entries_from v n)
    rows_pass zero d l p = ap (from_offset o) (sym (all_entries v))
    rows_pass (suc n) d l p = rows_pass n d (omega (arith, l)) (λ j b. p j (omega (arith, b))) ∙ row_passes n d (omega (arith, l)) (p n (omega arith))

    all_pass : (d : Row) → ((j : ℕ) → j < length rows → Passes j d) → from_offset o (entries_of v) ≡ []
    all_pass d p = rows_pass (length rows) d (omega arith) p ∙ ap (from_offset o) (none_left a i v e (length rows) refl)

    -- no row begins at the offset
    pub none_begins : ((j : ℕ) (d : Row) → j < length rows → (get_or rows j d).offset ≢ o) → from_offset o (entries_of v) ≡ []
    none_begins none = by rows refl
      where
        by : (rs : List Row) → rs ≡ rows → from_offset o (entries_of v) ≡ []
        by [] same = ap (from_offset o) (sym (all_entries v) ∙ none_left a i v e 0 (ap length same))
        by (r ∷ rs) same = all_pass r (λ j l is. none j r l)

    pub no_row : ((j : ℕ) (d : Row) → j < length rows → (get_or rows j d).offset ≢ o) → find_at o (entries_of v) ≡ None
    no_row none = not_found o (entries_of v) (none_begins none)

    -- one does
    module _ (n : ℕ) (d : Row) (l : n < length rows) (here : (get_or rows n d).offset ≡ o) where
      before : (j : ℕ) → j < n → (get_or rows j d).offset ≢ o
      before j b same = let g = offsets_grow j n d b l in omega (arith, g, here, same)

      behind : (j : ℕ) → n < j → j < length rows → (get_or rows j d).offset ≢ o
      behind j b m same = let g = offsets_grow n j d b m in omega (arith, g, here, same)

      pub null_begins : IsNull (get_or rows n d).kind → from_offset o (entries_of v) ≡ []
      null_begins is = all_pass d (λ j m en same. others j m en same)
        where
          not_both : (k : RowKind) → IsNull k → IsEntry k → ⊥
          not_both Leaf x y = x
          not_both Branch x y = x
          not_both Null x y = y

          others : (j : ℕ) → j < length rows → Passes j d
          others j m en same =
              let low : j < n → ⊥ = λ b. before j b same in
              let high : n < j → ⊥ = λ b. behind j b m same in
              let equal : n ≡ j → ⊥ = λ q. not_both (get_or rows n d).kind is (subst (λ (q : ℕ). IsEntry (get_or rows q d).kind) (sym q) en) in
              equal (omega (arith, low, high))

      pub entry_begins : IsEntry (get_or rows n d).kind → from_offset o (entries_of v) ≡ entries_from v n
      entry_begins is =
          let next = next_of a i v e n d l is (stands n d l is) in
          rows_pass n d (omega (arith, l)) (λ j b en. before j b)
          ∙ (ap (from_offset o) next
          ∙ (taken o (entry_at_row v n) (entries_from v (suc n)) (sym (row_offset a i v e n d l) ∙ here) ∙ sym next))

      pub entry_there : IsEntry (get_or rows n d).kind → find_at o (entries_of v) ≡ Some (entry_at_row v n)
      entry_there is = found o (entries_of v) (entry_at_row v n) (entries_from v (suc n)) (entry_begins is ∙ next_of a i v e n d l is (stands n d l is))

      pub null_row_there : IsNull (get_or rows n d).kind → find_at o (entries_of v) ≡ None
      null_row_there is = not_found o (entries_of v) (null_begins is)
