-- A tree with a number put, by its rows and their heads.
use Rattle.std.proofs.Common.{◌≡◌, ◌≢◌, ℕ, zero, suc, ◌+◌, ◌<◌, ◌≤◌, ◌^◌, List, [], ◌∷◌, ◌++◌, length, get_or, take, drop, map, refl, sym, ◌∙◌, ap, ap₂, subst, arith, length-append, append-nil, take-append-drop, inl, inr, Bool, true, false, Some}
use Rattle.std.specs.Prelude.{◌==◌, if◌then◌else◌}
use Rattle.std.specs.List.{AllByRecursion}
use Rattle.std.proofs.lemmas.Bool.{ne_eqb, eq-eqb}
use Rattle.std.proofs.lemmas.List.{drop_at}
use Rattle.dw_leb.specs.Number.{Unsigned, uleb}
use Rattle.dw_form.specs.declared.shape.Ctx.{Ctx}
use Rattle.dw_form.specs.Form.{Attribute}
use Rattle.dw_form.specs.Head.{Lies}
use Rattle.dw_abbrev.specs.Table.{Table, declared}
use Rattle.dw_tree.specs.declared.row.Row.{Row}
use Rattle.dw_tree.specs.Tree.{Tree, leaf, branch, Forest, none, more, values, declared_pairs}
use Rattle.dw_tree.specs.Spelling.{entry_bytes, tree_bytes}
use Rattle.dw_tree.specs.Row.{Token, leaf_row, branch_row, null_row, rows_of, all_rows, row_bytes, rows_bytes, rest_of, head_of, tree_of_rows}
use Rattle.dw_tree.specs.RowBytes.{bytes_append, rows_are_tree}
use Rattle.dw_tree.specs.PoolBytes.{joined, held, row_values}
use Rattle.dw_tree.specs.RowHeads.{heads, row_heads, rows_heads, rows_heads-from, held-append, Account}
use Rattle.dw_tree.specs.Flat.{pairs_at, tokens_at, RowIs, RowsAre, IsEntry, RowReads}
use Rattle.dw_tree.specs.DraftInvariant.{EntryFits, TokenFits, LevelFits, level_after, Stand, EndsAt, HaveEnds}
use Rattle.dw_tree.specs.Lent.{EntryAt, entries_in}
use Rattle.dw_tree.specs.Put.{Edit, put_first, put_here, put_tree, put_forest}
use Rattle.dw_tree.specs.Patch.{Patch, patch_in, moved}
use Rattle.dw_tree.proofs.RowTokens.{tokens_are, rows_read}
use Rattle.dw_tree.proofs.Spelled.{all_tokens_fit}
use Rattle.dw_tree.proofs.FindRows.{row_some}
use Rattle.dw_tree.proofs.Patches.{AllKept, values_kept, Patched, patched_behind, values_patched}

module _ (k : Ctx) (t : Table) (e : Edit) where
  -- ---- rows, the first of which begins here

  abbrev pub put_row : ℕ → Token → Token
  put_row here (leaf_row code vs) = leaf_row code (put_here k t e here code vs)
  put_row here (branch_row code vs) = branch_row code (put_here k t e here code vs)
  put_row here (null_row w) = null_row w

  abbrev pub put_rows : ℕ → List Token → List Token
  put_rows here [] = []
  put_rows here (x ∷ xs) = put_row here x ∷ put_rows (here + length (row_bytes k t x)) xs

  pub put_append : (here : ℕ) (xs ys : List Token) → put_rows here (xs ++ ys) ≡ put_rows here xs ++ put_rows (here + length (rows_bytes k t xs)) ys
  put_append here [] ys =
      let same : here ≡ here + 0 = omega arith in
      ap (λ (n : ℕ). put_rows n ys) same
  put_append here (x ∷ xs) ys =
      let next = here + length (row_bytes k t x) in
      let sum : next + length (rows_bytes k t xs) ≡ here + length (row_bytes k t x ++ rows_bytes k t xs) = omega (arith, length-append (row_bytes k t x) (rows_bytes k t xs)) in
      ap (λ (zs : List Token). put_row here x ∷ zs) (put_append next xs ys ∙ ap (λ (n : ℕ). put_rows next xs ++ put_rows n ys) sum)

  mutual
    pub rows_put : (x : Tree) (here : ℕ) → rows_of (put_tree k t e here x) ≡ put_rows here (rows_of x)
    rows_put (leaf code vs) here = refl
    rows_put (branch code vs ts w) here =
        let inner = here + length (entry_bytes k t code vs) in
        ap (λ (ys : List Token). branch_row code (put_here k t e here code vs) ∷ (ys ++ null_row w ∷ [])) (all_put ts inner)
        ∙ ap (λ (ys : List Token). branch_row code (put_here k t e here code vs) ∷ ys) (sym (put_append inner (all_rows ts) (null_row w ∷ [])))

    pub all_put : (ts : Forest) (here : ℕ) → all_rows (put_forest k t e here ts) ≡ put_rows here (all_rows ts)
    all_put none here = refl
    all_put (more x ts) here =
        ap₂ (λ (xs ys : List Token). xs ++ ys) (rows_put x here) (all_put ts (here + length (tree_bytes k t x)))
        ∙ (ap (λ (b : List ℕ). put_rows here (rows_of x) ++ put_rows (here + length b) (all_rows ts)) (sym (rows_are_tree k t x))
        ∙ sym (put_append here (rows_of x) (all_rows ts)))

  -- ---- what a row keeps

  pub record RowKept (x y : Token) : Type 0 where
    pub fits : TokenFits k t y
    pub size : length (row_bytes k t y) ≡ length (row_bytes k t x)
    pub content : joined (row_values y) ≡ joined (row_values x)
    pub heads_size : (start : ℕ) → length (row_heads k t start y) ≡ length (row_heads k t start x)

  entry_kept : (here : ℕ) (code : Unsigned) (vs : List Attribute) → (values k (declared_pairs (declared t code.value))).Fits vs → AllKept k (declared_pairs (declared t code.value)) vs (put_here k t e here code vs)
  entry_kept here code vs fits = by (here == e.offset)
    where
      by : (b : Bool) → AllKept k (declared_pairs (declared t code.value)) vs (if b then put_first k e.name e.number (declared_pairs (declared t code.value)) vs else vs)
      by true = values_kept k e.name e.number (declared_pairs (declared t code.value)) vs fits
      by false = record { fits = fits; size = refl; content = refl; heads_size = λ start. refl }

  bytes_kept : (code : Unsigned) (vs ws : List Attribute) → AllKept k (declared_pairs (declared t code.value)) vs ws → length (entry_bytes k t code ws) ≡ length (entry_bytes k t code vs)
  bytes_kept code vs ws h =
      let part = values k (declared_pairs (declared t code.value)) in
      omega (arith, h.size, length-append (uleb.spell code) (part.spell ws), length-append (uleb.spell code) (part.spell vs))

  fits_kept : (code : Unsigned) (vs ws : List Attribute) → AllKept k (declared_pairs (declared t code.value)) vs ws → EntryFits k t code vs → EntryFits k t code ws
  fits_kept code vs ws h f = record { code_fits = f.code_fits; not_null = f.not_null; known = f.known; values_fit = h.fits }

  pub row_kept : (here : ℕ) (x : Token) → TokenFits k t x → RowKept x (put_row here x)
  row_kept here (leaf_row code vs) f =
      let h = entry_kept here code vs f.0.values_fit in
      let ws = put_here k t e here code vs in
      record { fits = (fits_kept code vs ws h f.0, f.1); size = bytes_kept code vs ws h; content = h.content; heads_size = h.heads_size }
  row_kept here (branch_row code vs) f =
      let h = entry_kept here code vs f.0.values_fit in
      let ws = put_here k t e here code vs in
      record { fits = (fits_kept code vs ws h f.0, f.1); size = bytes_kept code vs ws h; content = h.content; heads_size = h.heads_size }
  row_kept here (null_row w) f = record { fits = f; size = refl; content = refl; heads_size = λ start. refl }

  row_is_put : (first : ℕ) (r : Row) (here : ℕ) (x : Token) → RowIs first r x → RowIs first r (put_row here x)
  row_is_put first r here (leaf_row code vs) h = h
  row_is_put first r here (branch_row code vs) h = h
  row_is_put first r here (null_row w) h = h

  level_put : (here : ℕ) (x : Token) (depth : ℕ) → level_after depth (put_row here x) ≡ level_after depth x
  level_put here (leaf_row code vs) depth = refl
  level_put here (branch_row code vs) depth = refl
  level_put here (null_row w) depth = refl

  level_fits_put : (here : ℕ) (x : Token) (depth : ℕ) → LevelFits x depth → LevelFits (put_row here x) depth
  level_fits_put here (leaf_row code vs) depth h = h
  level_fits_put here (branch_row code vs) depth h = h
  level_fits_put here (null_row w) depth h = h

  -- ---- what rows keep

  pub stand_put : (here at depth : ℕ) (rows : List Row) (xs : List Token) → Stand k t at depth rows xs → Stand k t at depth rows (put_rows here xs)
  stand_put here at depth [] [] h = tt
  stand_put here at depth [] (x ∷ xs) h = absurd h
  stand_put here at depth (r ∷ rows) [] h = absurd h
  stand_put here at depth (r ∷ rows) (x ∷ xs) h =
      let kept = row_kept here x h.0.2 in
      let own = length (row_bytes k t x) in
      let ys = put_rows (here + own) xs in
      let next = stand_put (here + own) (at + own) (level_after depth x) rows xs h.1 in (
        (h.0.0, h.0.1, kept.fits, level_fits_put here x depth h.0.3),
        subst (λ (n : ℕ). Stand k t (at + n) (level_after depth (put_row here x)) rows ys) (sym kept.size) (subst (λ (d : ℕ). Stand k t (at + own) d rows ys) (sym (level_put here x depth)) next),
      )

  pub rows_are_put : (here first start : ℕ) (rows : List Row) (xs : List Token) → AllByRecursion (TokenFits k t) xs → RowsAre k t first start rows xs → RowsAre k t first start rows (put_rows here xs)
  rows_are_put here first start [] [] fits h = tt
  rows_are_put here first start [] (x ∷ xs) fits h = absurd h
  rows_are_put here first start (r ∷ rows) [] fits h = absurd h
  rows_are_put here first start (r ∷ rows) (x ∷ xs) fits h =
      let kept = row_kept here x fits.0 in
      let ys = put_rows (here + length (row_bytes k t x)) xs in
      let next = rows_are_put (here + length (row_bytes k t x)) (first + length (row_heads k t start x)) (start + length (joined (row_values x))) rows xs fits.1 h.1 in (
        row_is_put first r here x h.0,
        subst (λ (n : ℕ). RowsAre k t (first + n) (start + length (joined (row_values (put_row here x)))) rows ys) (sym (kept.heads_size start))
            (subst (λ (b : List ℕ). RowsAre k t (first + length (row_heads k t start x)) (start + length b) rows ys) (sym kept.content) next),
      )

  pub held_put : (here : ℕ) (xs : List Token) → AllByRecursion (TokenFits k t) xs → held (put_rows here xs) ≡ held xs
  held_put here [] fits = refl
  held_put here (x ∷ xs) fits = ap₂ (λ (a b : List ℕ). a ++ b) (row_kept here x fits.0).content (held_put (here + length (row_bytes k t x)) xs fits.1)

  pub bytes_put : (here : ℕ) (xs : List Token) → AllByRecursion (TokenFits k t) xs → length (rows_bytes k t (put_rows here xs)) ≡ length (rows_bytes k t xs)
  bytes_put here [] fits = refl
  bytes_put here (x ∷ xs) fits =
      let ys = put_rows (here + length (row_bytes k t x)) xs in
      let ih = bytes_put (here + length (row_bytes k t x)) xs fits.1 in
      omega (arith, ih, (row_kept here x fits.0).size, length-append (row_bytes k t (put_row here x)) (rows_bytes k t ys), length-append (row_bytes k t x) (rows_bytes k t xs))

  length_put : (here : ℕ) (xs : List Token) → length (put_rows here xs) ≡ length xs
  length_put here [] = refl
  length_put here (x ∷ xs) = ap suc (length_put (here + length (row_bytes k t x)) xs)

  drop_put : (i here : ℕ) (xs : List Token) → drop i (put_rows here xs) ≡ put_rows (here + length (rows_bytes k t (take i xs))) (drop i xs)
  drop_put zero here xs =
      let same : here ≡ here + 0 = omega arith in
      ap (λ (n : ℕ). put_rows n xs) same
  drop_put (suc i) here [] = refl
  drop_put (suc i) here (x ∷ xs) =
      let next = here + length (row_bytes k t x) in
      let sum : next + length (rows_bytes k t (take i xs)) ≡ here + length (row_bytes k t x ++ rows_bytes k t (take i xs)) = omega (arith, length-append (row_bytes k t x) (rows_bytes k t (take i xs))) in
      drop_put i next xs ∙ ap (λ (n : ℕ). put_rows n (drop i xs)) sum

  parts_size : (i : ℕ) (xs : List Token) → length (rows_bytes k t xs) ≡ length (rows_bytes k t (take i xs)) + length (rows_bytes k t (drop i xs))
  parts_size i xs =
      ap (λ (ys : List Token). length (rows_bytes k t ys)) (sym (take-append-drop i xs))
      ∙ (ap length (bytes_append k t (take i xs) (drop i xs)) ∙ length-append (rows_bytes k t (take i xs)) (rows_bytes k t (drop i xs)))

  -- a tree that stands in the rows stands there with the number put
  ends_put : (here : ℕ) (xs : List Token) (i end : ℕ) → EndsAt xs i end → EndsAt (put_rows here xs) i end
  ends_put here xs i end h =
      let at = here + length (rows_bytes k t (take i xs)) in
      let own = length (rows_bytes k t (rows_of h.tree)) in
      let behind = drop end xs in
      let tail = ap (λ (ys : List Token). length (rows_bytes k t ys)) h.whole ∙ (ap length (bytes_append k t (rows_of h.tree) behind) ∙ length-append (rows_bytes k t (rows_of h.tree)) (rows_bytes k t behind)) in
      let sum : at + own ≡ here + length (rows_bytes k t (take end xs)) = omega (arith, parts_size i xs, parts_size end xs, tail) in
      record {
        tree = put_tree k t e at h.tree;
        whole = drop_put i here xs ∙ (ap (put_rows at) h.whole ∙ (put_append at (rows_of h.tree) behind
            ∙ ap₂ (λ (a b : List Token). a ++ b) (sym (rows_put h.tree at)) (ap (λ (n : ℕ). put_rows n behind) sum ∙ sym (drop_put end here xs))));
        within = omega (arith, h.within, length_put here xs);
      }

  pub have_ends_put : (here : ℕ) (rows : List Row) (xs : List Token) → HaveEnds rows xs [] → HaveEnds rows (put_rows here xs) []
  have_ends_put here rows xs h i d l is = elim (h i d l is) [ inl w ↦ absurd w | inr w ↦ inr (ends_put here xs i (get_or rows i d).end w) ]

  -- every entry begins where it did
  pub offsets_put : (here offset depth : ℕ) (xs : List Token) → AllByRecursion (TokenFits k t) xs → map (λ (x : EntryAt). x.offset) (entries_in k t (put_rows here xs) offset depth) ≡ map (λ (x : EntryAt). x.offset) (entries_in k t xs offset depth)
  offsets_put here offset depth [] fits = refl
  offsets_put here offset depth (leaf_row code vs ∷ xs) fits =
      let own = length (row_bytes k t (leaf_row code vs)) in
      let ys = put_rows (here + own) xs in
      ap (λ (n : ℕ). offset ∷ map (λ (x : EntryAt). x.offset) (entries_in k t ys (offset + n) depth)) (row_kept here (leaf_row code vs) fits.0).size
      ∙ ap (λ (ns : List ℕ). offset ∷ ns) (offsets_put (here + own) (offset + own) depth xs fits.1)
  offsets_put here offset depth (branch_row code vs ∷ xs) fits =
      let own = length (row_bytes k t (branch_row code vs)) in
      let ys = put_rows (here + own) xs in
      ap (λ (n : ℕ). offset ∷ map (λ (x : EntryAt). x.offset) (entries_in k t ys (offset + n) (suc depth))) (row_kept here (branch_row code vs) fits.0).size
      ∙ ap (λ (ns : List ℕ). offset ∷ ns) (offsets_put (here + own) (offset + own) (suc depth) xs fits.1)
  offsets_put here offset depth (null_row w ∷ xs) fits = offsets_put (here + length (row_bytes k t (null_row w))) (offset + length (row_bytes k t (null_row w))) (level_after depth (null_row w)) xs fits.1

  -- ---- rows that begin elsewhere stay

  row_stays : (here : ℕ) (x : Token) → here ≢ e.offset → put_row here x ≡ x
  row_stays here (leaf_row code vs) n = ap (λ (b : Bool). leaf_row code (if b then put_first k e.name e.number (declared_pairs (declared t code.value)) vs else vs)) (ne_eqb here e.offset n)
  row_stays here (branch_row code vs) n = ap (λ (b : Bool). branch_row code (if b then put_first k e.name e.number (declared_pairs (declared t code.value)) vs else vs)) (ne_eqb here e.offset n)
  row_stays here (null_row w) n = refl

  none_behind : (here : ℕ) (xs : List Token) → e.offset < here → put_rows here xs ≡ xs
  none_behind here [] l = refl
  none_behind here (x ∷ xs) l = ap₂ (λ (y : Token) (ys : List Token). y ∷ ys) (row_stays here x (λ same. absurd (omega (arith, l, same)))) (none_behind (here + length (row_bytes k t x)) xs (omega (arith, l)))

  none_before : (here : ℕ) (xs : List Token) → AllByRecursion (TokenFits k t) xs → here + length (rows_bytes k t xs) ≤ e.offset → put_rows here xs ≡ xs
  none_before here [] fits l = refl
  none_before here (x ∷ xs) fits l =
      let some = row_some k t x fits.0 in
      let sum = length-append (row_bytes k t x) (rows_bytes k t xs) in
      ap₂ (λ (y : Token) (ys : List Token). y ∷ ys) (row_stays here x (λ same. absurd (omega (arith, l, same, some, sum)))) (none_before (here + length (row_bytes k t x)) xs fits.1 (omega (arith, l, sum)))

  -- ---- a row among the others

  pub record RowSplit (at first start : ℕ) (r : Row) (xs : List Token) : Type 0 where
    pub before : List Token
    pub row : Token
    pub after : List Token
    pub split : xs ≡ before ++ row ∷ after
    pub is : RowIs (first + length (rows_heads k t start before)) r row
    pub offset : r.offset ≡ at + length (rows_bytes k t before)
    pub fits : TokenFits k t row
    pub before_fits : AllByRecursion (TokenFits k t) before

  pub row_split : (at depth first start : ℕ) (rows : List Row) (xs : List Token) (i : ℕ) (d : Row) → i < length rows → Stand k t at depth rows xs → RowsAre k t first start rows xs → RowSplit at first start (get_or rows i d) xs
  row_split at depth first start [] xs i d l h are = absurd (omega (arith, l))
  row_split at depth first start (r ∷ rows) [] i d l h are = absurd h
  row_split at depth first start (r ∷ rows) (x ∷ xs) zero d l h are =
      let same : first ≡ first + 0 = omega arith in
      record { before = []; row = x; after = xs; split = refl; is = subst (λ (n : ℕ). RowIs n r x) same are.0; offset = omega (arith, h.0.0); fits = h.0.2; before_fits = tt }
  row_split at depth first start (r ∷ rows) (x ∷ xs) (suc i) d l h are =
      let s = row_split (at + length (row_bytes k t x)) (level_after depth x) (first + length (row_heads k t start x)) (start + length (joined (row_values x))) rows xs i d (omega (arith, l)) h.1 are.1 in
      let others = rows_heads k t (start + length (joined (row_values x))) s.before in
      let sum : first + length (row_heads k t start x) + length others ≡ first + length (row_heads k t start x ++ others) = omega (arith, length-append (row_heads k t start x) others) in
      record {
        before = x ∷ s.before;
        row = s.row;
        after = s.after;
        split = ap (λ (ys : List Token). x ∷ ys) s.split;
        is = subst (λ (n : ℕ). RowIs n (get_or rows i d) s.row) sum s.is;
        offset = omega (arith, s.offset, length-append (row_bytes k t x) (rows_bytes k t s.before));
        fits = s.fits;
        before_fits = (h.0.2, s.before_fits);
      }

  -- ---- the heads of the tree with the number put

  module _ (start : ℕ) (xs : List Token) (hs pool : List ℕ) (account : Account k t xs [] [] hs pool) (r : Row) (s : RowSplit start 0 0 r xs) (here : r.offset ≡ e.offset) where
    abbrev n : ℕ
    n = length (held s.before)

    abbrev ahead : List ℕ
    ahead = rows_heads k t 0 s.before

    abbrev behind : Token → List ℕ
    behind y = rows_heads k t (n + length (joined (row_values y))) s.after

    abbrev at : ℕ
    at = start + length (rows_bytes k t s.before)

    hs_are : hs ≡ ahead ++ (row_heads k t n s.row ++ behind s.row)
    hs_are = account.heads_are ∙ (append-nil (rows_heads k t 0 xs) ∙ (ap (rows_heads k t 0) s.split ∙ rows_heads-from k t s.before (s.row ∷ s.after)))

    pool_is : pool ≡ held s.before ++ (joined (row_values s.row) ++ held s.after)
    pool_is = account.pool_is ∙ (append-nil (held xs) ∙ (ap held s.split ∙ held-append s.before (s.row ∷ s.after)))

    lies : Lies pool n (joined (row_values s.row))
    lies = record { before = held s.before; after = held s.after; split = pool_is; at = refl }

    put_split : put_rows start xs ≡ s.before ++ put_row at s.row ∷ s.after
    put_split =
        let some = row_some k t s.row s.fits in
        ap (put_rows start) s.split ∙ (put_append start s.before (s.row ∷ s.after)
        ∙ ap₂ (λ (a b : List Token). a ++ put_row at s.row ∷ b) (none_before start s.before s.before_fits (omega (arith, here, s.offset)))
        (none_behind (at + length (row_bytes k t s.row)) s.after (omega (arith, here, s.offset, some))))

    new_heads : rows_heads k t 0 (put_rows start xs) ≡ ahead ++ (row_heads k t n (put_row at s.row) ++ behind s.row)
    new_heads =
        ap (rows_heads k t 0) put_split ∙ (rows_heads-from k t s.before (put_row at s.row ∷ s.after)
        ∙ ap (λ (b : List ℕ). ahead ++ (row_heads k t n (put_row at s.row) ++ rows_heads k t (n + length b) s.after)) (row_kept at s.row s.fits).content)

    first_is : IsEntry r.kind → r.first ≡ length ahead
    first_is is = by s.row s.is
      where
        by : (x : Token) → RowIs (0 + length ahead) r x → r.first ≡ length ahead
        by (leaf_row code vs) h = omega (arith, h.2)
        by (branch_row code vs) h = omega (arith, h.2)
        by (null_row w) h = absurd (subst IsEntry h.0 is)

    own_heads : IsEntry r.kind → drop r.first hs ≡ row_heads k t n s.row ++ behind s.row
    own_heads is = ap (drop r.first) hs_are ∙ drop_at ahead (row_heads k t n s.row ++ behind s.row) r.first (sym (first_is is))

    at_offset : (at == e.offset) ≡ true
    at_offset = eq-eqb at e.offset (sym s.offset ∙ here)

    own_patched : (x : Token) (q : Patch) → length pool < 256 ^ 8 → IsEntry r.kind → RowIs (0 + length ahead) r x → TokenFits k t x → Lies pool n (joined (row_values x)) → patch_in k e.name e.number (pairs_at t r.code) (row_heads k t n x ++ behind x) pool ≡ Some q
        → Patched (row_heads k t n x ++ behind x) q (row_heads k t n (put_row at x) ++ behind x)
    own_patched (leaf_row code vs) q small is h fits lies f =
        let value : r.code ≡ code.value = ap (λ (u : Unsigned). u.value) h.1 in
        let ps = pairs_at t code.value in
        subst (λ (b : Bool). Patched (heads k ps n vs ++ behind (leaf_row code vs)) q (heads k ps n (if b then put_first k e.name e.number ps vs else vs) ++ behind (leaf_row code vs))) (sym at_offset)
        (values_patched k e.name e.number pool small ps vs n (behind (leaf_row code vs)) q fits.0.values_fit lies (ap (λ (c : ℕ). patch_in k e.name e.number (pairs_at t c) (heads k ps n vs ++ behind (leaf_row code vs)) pool) (sym value) ∙ f))
    own_patched (branch_row code vs) q small is h fits lies f =
        let value : r.code ≡ code.value = ap (λ (u : Unsigned). u.value) h.1 in
        let ps = pairs_at t code.value in
        subst (λ (b : Bool). Patched (heads k ps n vs ++ behind (branch_row code vs)) q (heads k ps n (if b then put_first k e.name e.number ps vs else vs) ++ behind (branch_row code vs))) (sym at_offset)
        (values_patched k e.name e.number pool small ps vs n (behind (branch_row code vs)) q fits.0.values_fit lies (ap (λ (c : ℕ). patch_in k e.name e.number (pairs_at t c) (heads k ps n vs ++ behind (branch_row code vs)) pool) (sym value) ∙ f))
    own_patched (null_row w) q small is h fits _ f = absurd (subst IsEntry h.0 is)

    pub heads_patched : (q : Patch) → length pool < 256 ^ 8 → IsEntry r.kind → patch_in k e.name e.number (pairs_at t r.code) (drop r.first hs) pool ≡ Some q → Patched hs (r.first + q.0, q.1) (rows_heads k t 0 (put_rows start xs))
    heads_patched q small is f =
        let own = own_patched s.row q small is s.is s.fits lies (ap (λ (b : List ℕ). patch_in k e.name e.number (pairs_at t r.code) b pool) (sym (own_heads is)) ∙ f) in
        let all = patched_behind ahead (row_heads k t n s.row ++ behind s.row) q (row_heads k t n (put_row at s.row) ++ behind s.row) own in
        subst (λ (m : ℕ). Patched hs (m + q.0, q.1) (rows_heads k t 0 (put_rows start xs))) (sym (first_is is))
        (subst (λ (z : List ℕ). Patched hs (moved (length ahead) q) z) (sym new_heads)
        (subst (λ (z : List ℕ). Patched z (moved (length ahead) q) (ahead ++ (row_heads k t n (put_row at s.row) ++ behind s.row))) (sym hs_are) all))

  -- ---- the lists are those of the tree with the number put

  pub record Edited (start end : ℕ) (rows : List Row) (hs pool : List ℕ) (root : Tree) (ys : List Token) : Type 0 where
    pub rows_are : RowsAre k t 0 0 rows ys
    pub rows_read : AllByRecursion (RowReads k t hs pool) rows
    pub ends : HaveEnds rows ys []
    pub stand : Stand k t start 1 rows ys
    pub exact : Account k t ys [] [] hs pool
    pub end_is : end ≡ start + length (rows_bytes k t ys)
    pub tokens : ys ≡ rows_of (put_tree k t e start root)
    pub root_is : head_of (rest_of ys).here ≡ put_tree k t e start root

  module _ (start end : ℕ) (rows : List Row) (xs : List Token) (hs pool : List ℕ) (root : Tree) (are : RowsAre k t 0 0 rows xs) (ends : HaveEnds rows xs []) (stand : Stand k t start 1 rows xs) (account : Account k t xs [] [] hs pool)
      (end_is : end ≡ start + length (rows_bytes k t xs)) (tokens : xs ≡ rows_of root) (small : length pool < 256 ^ 8) (new : List ℕ) (new_is : new ≡ rows_heads k t 0 (put_rows start xs)) where
    abbrev ys : List Token
    ys = put_rows start xs

    fits : AllByRecursion (TokenFits k t) xs
    fits = all_tokens_fit k t start 1 rows xs stand

    new_stand : Stand k t start 1 rows ys
    new_stand = stand_put start start 1 rows xs stand

    new_are : RowsAre k t 0 0 rows ys
    new_are = rows_are_put start 0 0 rows xs fits are

    new_account : Account k t ys [] [] new pool
    new_account = record {
      heads_are = new_is ∙ sym (append-nil (rows_heads k t 0 ys));
      pool_is = account.pool_is ∙ ap (λ (b : List ℕ). b ++ []) (sym (held_put start xs fits));
    }

    are_rows : ys ≡ rows_of (put_tree k t e start root)
    are_rows = ap (put_rows start) tokens ∙ sym (rows_put root start)

    pub seen : tokens_at k t rows new pool ≡ ys
    seen = tokens_are k t new pool small rows ys [] [] new_are (all_tokens_fit k t start 1 rows ys new_stand) new_account

    pub edited : Edited start end rows new pool root (tokens_at k t rows new pool)
    edited = subst (Edited start end rows new pool root) (sym seen) (record {
      rows_are = new_are;
      rows_read = rows_read k t new pool small rows ys [] [] new_are (all_tokens_fit k t start 1 rows ys new_stand) new_account;
      ends = have_ends_put start rows xs ends;
      stand = new_stand;
      exact = new_account;
      end_is = omega (arith, end_is, bytes_put start xs fits);
      tokens = are_rows;
      root_is = ap (λ (zs : List Token). head_of (rest_of zs).here) are_rows ∙ tree_of_rows (put_tree k t e start root);
    })
