-- The rows of a tree stand for its tokens, and each entry's row leads to the heads of its values.
use Rattle.std.specs.Prelude.{◌≡◌, ◌<◌, ◌^◌, ℕ, zero, suc, ◌+◌, List, [], ◌∷◌, ◌++◌, length, drop}
use Rattle.std.proofs.Common.{get_or, set, refl, sym, ap, ap₂, subst, ◌∙◌, arith, length-append, append_assoc}
use Rattle.std.proofs.lemmas.List.{drop_at}
use Rattle.std.specs.List.{AllByRecursion}
use Rattle.dw_leb.specs.Number.{Unsigned}
use Rattle.dw_form.specs.declared.shape.Ctx.{Ctx}
use Rattle.dw_form.specs.Form.{Attribute}
use Rattle.dw_form.specs.Head.{Lies}
use Rattle.dw_abbrev.specs.Table.{Pair, Table}
use Rattle.dw_tree.specs.declared.row.Row.{Row}
use Rattle.dw_tree.specs.Tree.{values}
use Rattle.dw_tree.specs.Row.{Token, leaf_row, branch_row, null_row}
use Rattle.dw_tree.specs.PoolBytes.{joined, held, row_values}
use Rattle.dw_tree.specs.RowHeads.{heads, values_at, values_there, row_heads, rows_heads, Account}
use Rattle.dw_tree.specs.Flat.{pairs_at, code_in, token_at, tokens_at, RowIs, RowsAre, IsEntry, HasHeads, RowReads}
use Rattle.dw_tree.specs.DraftInvariant.{TokenFits}

-- one more row
pub rows_are-push : (k : Ctx) (t : Table) (first start : ℕ) (rows : List Row) (xs : List Token) (r : Row) (x : Token) → RowsAre k t first start rows xs → RowIs (first + length (rows_heads k t start xs)) r x → RowsAre k t first start (rows ++ r ∷ []) (xs ++ x ∷ [])
rows_are-push k t first start [] [] r x h g = let same : first + 0 ≡ first = omega arith in (subst (λ (n : ℕ). RowIs n r x) same g, tt)
rows_are-push k t first start [] (y ∷ xs) r x h g = absurd h
rows_are-push k t first start (q ∷ rows) [] r x h g = absurd h
rows_are-push k t first start (q ∷ rows) (y ∷ xs) r x h g =
    let own = row_heads k t start y in
    let next = start + length (joined (row_values y)) in
    let sum : first + length (own ++ rows_heads k t next xs) ≡ first + length own + length (rows_heads k t next xs) = omega (arith, length-append own (rows_heads k t next xs)) in
    (h.0, rows_are-push k t (first + length own) next rows xs r x h.1 (subst (λ (n : ℕ). RowIs n r x) sum g))

module _ (k : Ctx) (t : Table) (hs pool : List ℕ) (small : length pool < 256 ^ 8) where
  entry_at : (code : Unsigned) (vs : List Attribute) (start first : ℕ) (before rest : List ℕ) → hs ≡ before ++ (heads k (pairs_at t code.value) start vs ++ rest) → length before ≡ first → Lies pool start (joined vs)
      → (values k (pairs_at t code.value)).Fits vs → values_at k (pairs_at t code.value) (drop first hs) pool ≡ vs
  entry_at code vs start first before rest split at lies fits =
      ap (λ (b : List ℕ). values_at k (pairs_at t code.value) b pool) (ap (drop first) split ∙ drop_at before (heads k (pairs_at t code.value) start vs ++ rest) first at)
      ∙ values_there k (pairs_at t code.value) vs start rest pool fits lies small

  token_is : (r : Row) (x : Token) (start first : ℕ) (before rest : List ℕ) → RowIs first r x → hs ≡ before ++ (row_heads k t start x ++ rest) → length before ≡ first → Lies pool start (joined (row_values x)) → TokenFits k t x → token_at k t hs pool r ≡ x
  token_is r (leaf_row code vs) start first before rest is split at lies fits =
      let value : r.code ≡ code.value = ap (λ (u : Unsigned). u.value) is.1 in
      rw (is.0, is.1, is.2, value) (ap (leaf_row code) (entry_at code vs start first before rest split at lies fits.0.values_fit))
  token_is r (branch_row code vs) start first before rest is split at lies fits =
      let value : r.code ≡ code.value = ap (λ (u : Unsigned). u.value) is.1 in
      rw (is.0, is.1, is.2, value) (ap (branch_row code) (entry_at code vs start first before rest split at lies fits.0.values_fit))
  token_is r (null_row w) start first before rest is split at lies fits = rw (is.0, is.1) refl

  tokens_from : (rows : List Row) (xs : List Token) (start first : ℕ) (before rest : List ℕ) (front back : List ℕ) → RowsAre k t first start rows xs → AllByRecursion (TokenFits k t) xs
      → hs ≡ before ++ (rows_heads k t start xs ++ rest) → length before ≡ first → pool ≡ front ++ (held xs ++ back) → length front ≡ start → tokens_at k t rows hs pool ≡ xs
  tokens_from [] [] start first before rest front back are fits split at pool_split from = refl
  tokens_from [] (x ∷ xs) start first before rest front back are fits split at pool_split from = absurd are
  tokens_from (r ∷ rows) [] start first before rest front back are fits split at pool_split from = absurd are
  tokens_from (r ∷ rows) (x ∷ xs) start first before rest front back are fits split at pool_split from =
      let own = row_heads k t start x in
      let bytes = joined (row_values x) in
      let next = start + length bytes in
      let others = rows_heads k t next xs in
      let own_split : hs ≡ before ++ (own ++ (others ++ rest)) = split ∙ ap (λ (b : List ℕ). before ++ b) (append_assoc own others rest) in
      let own_pool : pool ≡ front ++ (bytes ++ (held xs ++ back)) = pool_split ∙ ap (λ (b : List ℕ). front ++ b) (append_assoc bytes (held xs) back) in
      ap₂ (λ (y : Token) (ys : List Token). y ∷ ys)
      (token_is r x start first before (others ++ rest) are.0 own_split at (record { before = front; after = held xs ++ back; split = own_pool; at = from }) fits.0)
      (tokens_from rows xs next (first + length own) (before ++ own) rest (front ++ bytes) back are.1 fits.1
      (own_split ∙ sym (append_assoc before own (others ++ rest))) (length-append before own ∙ ap (λ (n : ℕ). n + length own) at)
      (own_pool ∙ sym (append_assoc front bytes (held xs ++ back))) (length-append front bytes ∙ ap (λ (n : ℕ). n + length bytes) from))

  -- under the account the rows stand for their tokens, whatever is read behind them
  pub tokens_are : (rows : List Row) (xs : List Token) (ps : List Pair) (vs : List Attribute) → RowsAre k t 0 0 rows xs → AllByRecursion (TokenFits k t) xs → Account k t xs ps vs hs pool → tokens_at k t rows hs pool ≡ xs
  tokens_are rows xs ps vs are fits a = tokens_from rows xs 0 0 [] (heads k ps (length (held xs)) vs) [] (joined vs) are fits a.heads_are refl a.pool_is refl

  -- ---- the heads of an entry's values stand from its row's place on

  here_at : (r : Row) (code : Unsigned) (vs : List Attribute) (start first : ℕ) (before rest : List ℕ) → code_in r ≡ code → r.first ≡ first → hs ≡ before ++ (heads k (pairs_at t code.value) start vs ++ rest) → length before ≡ first
      → Lies pool start (joined vs) → (values k (pairs_at t code.value)).Fits vs → HasHeads k t hs pool r
  here_at r code vs start first before rest ec ef split at lies fits =
      let value : r.code ≡ code.value = ap (λ (u : Unsigned). u.value) ec in
      let tail = heads k (pairs_at t code.value) start vs ++ rest in
      record {
        within = omega (arith, ef, at, ap length split, length-append before tail);
        here = rw (value, ef) (record { given = vs; start = start; rest = rest; fits = fits; split = ap (drop first) split ∙ drop_at before tail first at; lies = lies; small = small });
      }

  row_reads : (r : Row) (x : Token) (start first : ℕ) (before rest : List ℕ) → RowIs first r x → hs ≡ before ++ (row_heads k t start x ++ rest) → length before ≡ first → Lies pool start (joined (row_values x)) → TokenFits k t x → RowReads k t hs pool r
  row_reads r (leaf_row code vs) start first before rest is split at lies fits e = here_at r code vs start first before rest is.1 is.2 split at lies fits.0.values_fit
  row_reads r (branch_row code vs) start first before rest is split at lies fits e = here_at r code vs start first before rest is.1 is.2 split at lies fits.0.values_fit
  row_reads r (null_row w) start first before rest is split at lies fits e = absurd (subst IsEntry is.0 e)

  rows_read_from : (rows : List Row) (xs : List Token) (start first : ℕ) (before rest : List ℕ) (front back : List ℕ) → RowsAre k t first start rows xs → AllByRecursion (TokenFits k t) xs
      → hs ≡ before ++ (rows_heads k t start xs ++ rest) → length before ≡ first → pool ≡ front ++ (held xs ++ back) → length front ≡ start → AllByRecursion (RowReads k t hs pool) rows
  rows_read_from [] [] start first before rest front back are fits split at pool_split from = tt
  rows_read_from [] (x ∷ xs) start first before rest front back are fits split at pool_split from = absurd are
  rows_read_from (r ∷ rows) [] start first before rest front back are fits split at pool_split from = absurd are
  rows_read_from (r ∷ rows) (x ∷ xs) start first before rest front back are fits split at pool_split from =
      let own = row_heads k t start x in
      let bytes = joined (row_values x) in
      let next = start + length bytes in
      let others = rows_heads k t next xs in
      let own_split : hs ≡ before ++ (own ++ (others ++ rest)) = split ∙ ap (λ (b : List ℕ). before ++ b) (append_assoc own others rest) in
      let own_pool : pool ≡ front ++ (bytes ++ (held xs ++ back)) = pool_split ∙ ap (λ (b : List ℕ). front ++ b) (append_assoc bytes (held xs) back) in (
        row_reads r x start first before (others ++ rest) are.0 own_split at (record { before = front; after = held xs ++ back; split = own_pool; at = from }) fits.0,
        rows_read_from rows xs next (first + length own) (before ++ own) rest (front ++ bytes) back are.1 fits.1
            (own_split ∙ sym (append_assoc before own (others ++ rest))) (length-append before own ∙ ap (λ (n : ℕ). n + length own) at)
            (own_pool ∙ sym (append_assoc front bytes (held xs ++ back))) (length-append front bytes ∙ ap (λ (n : ℕ). n + length bytes) from),
      )

  pub rows_read : (rows : List Row) (xs : List Token) (ps : List Pair) (vs : List Attribute) → RowsAre k t 0 0 rows xs → AllByRecursion (TokenFits k t) xs → Account k t xs ps vs hs pool → AllByRecursion (RowReads k t hs pool) rows
  rows_read rows xs ps vs are fits a = rows_read_from rows xs 0 0 [] (heads k ps (length (held xs)) vs) [] (joined vs) are fits a.heads_are refl a.pool_is refl

-- ---- a row whose end is set

row_set : (q r : Row) (first : ℕ) (x : Token) → q.kind ≡ r.kind → code_in q ≡ code_in r → q.first ≡ r.first → RowIs first r x → RowIs first q x
row_set q r first (leaf_row code vs) ek ec ef h = (ek ∙ h.0, ec ∙ h.1, ef ∙ h.2)
row_set q r first (branch_row code vs) ek ec ef h = (ek ∙ h.0, ec ∙ h.1, ef ∙ h.2)
row_set q r first (null_row w) ek ec ef h = (ek ∙ h.0, ap (λ (u : Unsigned). u.width) ec ∙ h.1)

pub rows_are-set : (k : Ctx) (t : Table) (first start : ℕ) (rows : List Row) (xs : List Token) (i : ℕ) (q d : Row) → q.kind ≡ (get_or rows i d).kind → code_in q ≡ code_in (get_or rows i d) → q.first ≡ (get_or rows i d).first
    → RowsAre k t first start rows xs → RowsAre k t first start (set rows i q) xs
rows_are-set k t first start [] xs i q d ek ec ef h = h
rows_are-set k t first start (r ∷ rows) [] i q d ek ec ef h = absurd h
rows_are-set k t first start (r ∷ rows) (x ∷ xs) zero q d ek ec ef h = (row_set q r first x ek ec ef h.0, h.1)
rows_are-set k t first start (r ∷ rows) (x ∷ xs) (suc i) q d ek ec ef h = (h.0, rows_are-set k t (first + length (row_heads k t start x)) (start + length (joined (row_values x))) rows xs i q d ek ec ef h.1)
