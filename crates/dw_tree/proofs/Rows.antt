-- The entry that stands at a row of a tree.
use Rattle.std.proofs.Common.{◌≡◌, ℕ, zero, suc, ◌+◌, ◌<◌, ◌≤◌, List, [], ◌∷◌, ◌++◌, length, get_or, take, drop, refl, sym, ◌∙◌, ap, ap₂, subst, arith, inl, inr, add-zero, append_assoc, append-nil, length-append}
use Rattle.std.proofs.lemmas.List.{length-map}
use Rattle.dw_leb.specs.Number.{Unsigned}
use Rattle.dw_form.specs.declared.shape.Ctx.{Ctx}
use Rattle.dw_form.specs.Form.{Attribute}
use Rattle.dw_abbrev.specs.Table.{Table}
use Rattle.dw_tree.specs.declared.row.Row.{Row}
use Rattle.dw_tree.specs.declared.row.RowKind.{RowKind}
use Rattle.dw_tree.specs.declared.row.RowKind.TheVariants.{Leaf, Branch, Null}
use Rattle.dw_tree.specs.Tree.{Tree, leaf, branch, Forest, none, more}
use Rattle.dw_tree.specs.Spelling.{entry_bytes, tree_bytes}
use Rattle.dw_tree.specs.Row.{Token, branch_row, null_row, rows_of, all_rows, row_bytes, rows_bytes, Rest, rest_of, rest-rows, rest-all, join-none, head_of}
use Rattle.dw_tree.specs.Steps.{TreeAt}
use Rattle.dw_tree.specs.Flat.{code_in, row_values_at, kind_token, token_at, tokens_at, IsEntry, IsNull}
use Rattle.dw_tree.specs.DraftInvariant.{EntryFits, TokenFits, LevelFits, level_after, levels_after, Stand, EndsAt, HaveEnds}
use Rattle.dw_tree.specs.Lent.{StandsAt, chain_at, chain, chain_from, children_of, below, code_of, values_in, own_bytes, offset_of_row, level_of_row, entry_at_row, entries_in, entries_from}
use Rattle.dw_tree.proofs.Fits.{levels_append}
use Rattle.dw_tree.specs.RowBytes.{bytes_append, rows_are_tree}
use Rattle.dw_tree.proofs.Bytes.{take_to, take_one, levels_positive, level_behind, stand_at}

pub drop_length : {X : Type 0} (xs : List X) → drop (length xs) xs ≡ []
drop_length [] = refl
drop_length (x ∷ xs) = drop_length xs

-- ---- the first row of an entry

pub entry_head : (kind : RowKind) (code : Unsigned) (vs : List Attribute) (ys : List Token) (node : Tree) (after : List Token) → kind_token kind code vs ∷ ys ≡ rows_of node ++ after → IsEntry kind × (code ≡ code_of node) × (vs ≡ values_in node)
entry_head Leaf code vs ys (leaf c ws) after e = (tt, cc, cc)
entry_head Leaf code vs ys (branch c ws ts w) after e = absurd cc
entry_head Branch code vs ys (leaf c ws) after e = absurd cc
entry_head Branch code vs ys (branch c ws ts w) after e = (tt, cc, cc)
entry_head Null code vs ys (leaf c ws) after e = absurd cc
entry_head Null code vs ys (branch c ws ts w) after e = absurd cc

-- a leaf has nothing below it, and below an entry with children stands what its rows have up to their null
pub below_leaf : (kind : RowKind) (code : Unsigned) (vs : List Attribute) (ys : List Token) (node : Tree) (after : List Token) → (kind ≡ Branch → ⊥) → kind_token kind code vs ∷ ys ≡ rows_of node ++ after → below node ≡ none
below_leaf Leaf code vs ys (leaf c ws) after n e = refl
below_leaf Leaf code vs ys (branch c ws ts w) after n e = absurd cc
below_leaf Branch code vs ys node after n e = absurd (n refl)
below_leaf Null code vs ys (leaf c ws) after n e = absurd cc
below_leaf Null code vs ys (branch c ws ts w) after n e = absurd cc

pub below_branch : (node : Tree) (after ys : List Token) (code : Unsigned) (vs : List Attribute) → branch_row code vs ∷ ys ≡ rows_of node ++ after → (rest_of ys).here ≡ below node
below_branch (leaf c ws) after ys code vs e = absurd cc
below_branch (branch c ws ts w) after ys code vs e =
    let tail : ys ≡ (all_rows ts ++ null_row w ∷ []) ++ after = cc in
    ap (λ (zs : List Token). (rest_of zs).here) (tail ∙ append_assoc (all_rows ts) (null_row w ∷ []) after)
    ∙ (ap (λ (r : Rest). r.here) (rest-all ts (null_row w ∷ after)) ∙ join-none ts)

fits_of : (k : Ctx) (t : Table) (kind : RowKind) (code : Unsigned) (vs : List Attribute) → IsEntry kind → TokenFits k t (kind_token kind code vs) → EntryFits k t code vs
fits_of k t Leaf code vs e f = f.0
fits_of k t Branch code vs e f = f.0
fits_of k t Null code vs e f = absurd e

level_of_entry : (kind : RowKind) (code : Unsigned) (vs : List Attribute) (n : ℕ) → IsEntry kind → LevelFits (kind_token kind code vs) n → n ≤ Rattle.dw_tree.specs.Tree.nesting
level_of_entry Leaf code vs n e f = f
level_of_entry Branch code vs n e f = f
level_of_entry Null code vs n e f = absurd e

first_is : (x y : Token) (xs ys : List Token) → (x ∷ xs) ≡ (y ∷ ys) → x ≡ y
first_is x y xs ys e = cc

module _ (u : TreeAt) (rows : List Row) (hs pool : List ℕ) (et : tokens_at u.context u.table rows hs pool ≡ rows_of u.root) where
  abbrev xs : List Token
  xs = rows_of u.root

  pub same_length : length rows ≡ length xs
  same_length = sym (length-map rows (token_at u.context u.table hs pool)) ∙ ap length et

  token_here : (rs : List Row) (at : ℕ) (d : Row) → at < length rs → drop at (tokens_at u.context u.table rs hs pool) ≡ token_at u.context u.table hs pool (get_or rs at d) ∷ drop (suc at) (tokens_at u.context u.table rs hs pool)
  token_here [] at d h = absurd (omega (arith, h))
  token_here (r ∷ rs) zero d h = refl
  token_here (r ∷ rs) (suc at) d h = token_here rs at d (omega (arith, h))

  pub first_token : (at : ℕ) (d : Row) → at < length rows → drop at xs ≡ token_at u.context u.table hs pool (get_or rows at d) ∷ drop (suc at) xs
  first_token at d h = subst (λ (ys : List Token). drop at ys ≡ token_at u.context u.table hs pool (get_or rows at d) ∷ drop (suc at) ys) et (token_here rows at d h)

  short : (ys : List Token) (i : ℕ) (node : Tree) (after : List Token) → drop i ys ≡ rows_of node ++ after → i < length ys
  short [] zero (leaf code vs) after e = absurd cc
  short [] zero (branch code vs ts w) after e = absurd cc
  short [] (suc i) (leaf code vs) after e = absurd cc
  short [] (suc i) (branch code vs ts w) after e = absurd cc
  short (y ∷ ys) zero node after e = omega arith
  short (y ∷ ys) (suc i) node after e = let h = short ys i node after e in omega (arith, h)

  pub in_rows : (at : ℕ) (node : Tree) → StandsAt xs at node → at < length rows
  in_rows at node s = omega (arith, same_length, short xs at node s.after s.stands)

  -- what is known of an entry's row
  pub record RowIs (at : ℕ) (node : Tree) (r : Row) : Type 0 where
    pub inside : at < length rows
    pub offset : r.offset ≡ offset_of_row u at
    pub depth : r.depth ≡ level_of_row u at
    pub is_entry : IsEntry r.kind
    pub code : code_in r ≡ code_of node
    pub values_are : row_values_at u.context u.table hs pool r ≡ values_in node
    pub fits : EntryFits u.context u.table (code_of node) (values_in node)
    pub head : drop at xs ≡ kind_token r.kind (code_in r) (values_in node) ∷ drop (suc at) xs

  module _ (st : Stand u.context u.table u.start 1 rows xs) where
    pub row_is : (at : ℕ) (node : Tree) (d : Row) → StandsAt xs at node → RowIs at node (get_or rows at d)
    row_is at node d s =
        let l = in_rows at node s in
        let r : Row = get_or rows at d in
        let q = stand_at u.context u.table u.start 1 rows xs at d l st in
        let h = entry_head r.kind (code_in r) (row_values_at u.context u.table hs pool r) (drop (suc at) xs) node s.after (sym (first_token at d l) ∙ s.stands) in
        let same : q.token ≡ token_at u.context u.table hs pool r = first_is _ _ _ _ (sym q.here ∙ first_token at d l) in
        let f = fits_of u.context u.table r.kind (code_in r) _ h.0 (subst (TokenFits u.context u.table) same q.fits) in
        record {
          inside = l;
          offset = q.offset;
          depth = q.level;
          is_entry = h.0;
          code = h.1;
          values_are = h.2;
          fits = subst (λ (vs : List Attribute). EntryFits u.context u.table (code_of node) vs) h.2 (subst (λ (c : Unsigned). EntryFits u.context u.table c (row_values_at u.context u.table hs pool r)) h.1 f);
          head = first_token at d l ∙ ap (λ (vs : List Attribute). kind_token r.kind (code_in r) vs ∷ drop (suc at) xs) h.2;
        }

  -- ---- from a row to the row behind its tree

  pub ends_chain : (at end : ℕ) → EndsAt (tokens_at u.context u.table rows hs pool) at end → (x : Tree) × (drop at xs ≡ rows_of x ++ drop end xs) × (chain_at xs at ≡ more x (chain_at xs end)) × (end ≤ length xs)
  ends_chain at end h =
      let e : drop at xs ≡ rows_of h.tree ++ drop end xs = subst (λ (ys : List Token). drop at ys ≡ rows_of h.tree ++ drop end ys) et h.whole in
      (h.tree, e, ap (λ (ys : List Token). (rest_of ys).here) e ∙ ap (λ (r : Rest). r.here) (rest-rows h.tree (drop end xs)), subst (λ (ys : List Token). end ≤ length ys) et h.within)

  pub ends_of : (at : ℕ) (d : Row) → HaveEnds rows (tokens_at u.context u.table rows hs pool) [] → at < length rows → IsEntry (get_or rows at d).kind → EndsAt (tokens_at u.context u.table rows hs pool) at (get_or rows at d).end
  ends_of at d h l e = elim (h at d l e) [ inl bad ↦ elim bad [ ] | inr k ↦ k ]

  module _ (at end : ℕ) (x : Tree) (e : drop at xs ≡ rows_of x ++ drop end xs) where
    pub offset_behind : offset_of_row u end ≡ offset_of_row u at + length (tree_bytes u.context u.table x)
    offset_behind =
        let all = ap (λ (ys : List Token). length (rows_bytes u.context u.table ys)) (take_to xs (rows_of x) at end e) in
        let parts = ap length (bytes_append u.context u.table (take at xs) (rows_of x)) in
        let tree = ap length (rows_are_tree u.context u.table x) in
        omega (arith, all, parts, tree, length-append (rows_bytes u.context u.table (take at xs)) (rows_bytes u.context u.table (rows_of x)))

    pub level_behind_is : level_of_row u end ≡ level_of_row u at
    level_behind_is =
        ap (levels_after 1) (take_to xs (rows_of x) at end e)
        ∙ (levels_append 1 (take at xs) (rows_of x)
        ∙ level_behind (level_of_row u at) x (levels_positive 1 (take at xs) (omega arith)))

    -- an entry's chain is the entry, and the chain from its end on
    pub chain_step : chain_at xs at ≡ more x (chain_at xs end) → chain_from u at ≡ entry_at_row u at ∷ chain_from u end
    chain_step c =
        ap (λ (ts : Forest). chain u.context u.table ts (offset_of_row u at) (level_of_row u at)) c
        ∙ (ap₂ (λ (o l : ℕ). record { context = u.context; table = u.table; node = x; offset = offset_of_row u at; depth = level_of_row u at } ∷ chain u.context u.table (chain_at xs end) o l) (sym offset_behind) (sym level_behind_is)
        ∙ ap (λ (y : Tree). record { context = u.context; table = u.table; node = y; offset = offset_of_row u at; depth = level_of_row u at } ∷ chain_from u end) (sym (ap head_of c)))

  -- ---- from a row to the next one

  pub offset_next : (at : ℕ) (x : Token) → drop at xs ≡ x ∷ drop (suc at) xs → offset_of_row u (suc at) ≡ offset_of_row u at + length (row_bytes u.context u.table x)
  offset_next at x e =
      let all = ap (λ (ys : List Token). length (rows_bytes u.context u.table ys)) (take_one xs x at e) in
      let parts = ap length (bytes_append u.context u.table (take at xs) (x ∷ [])) in
      let one = ap length (append-nil (row_bytes u.context u.table x)) in
      omega (arith, all, parts, one, length-append (rows_bytes u.context u.table (take at xs)) (rows_bytes u.context u.table (x ∷ [])))

  pub level_next : (at : ℕ) (x : Token) → drop at xs ≡ x ∷ drop (suc at) xs → level_of_row u (suc at) ≡ level_after (level_of_row u at) x
  level_next at x e = ap (levels_after 1) (take_one xs x at e) ∙ levels_append 1 (take at xs) (x ∷ [])

  pub null_chain : (at : ℕ) (d : Row) → at < length rows → (get_or rows at d).kind ≡ Null → chain_from u at ≡ []
  null_chain at d l e =
      let r : Row = get_or rows at d in
      let h : drop at xs ≡ null_row r.width ∷ drop (suc at) xs = first_token at d l ∙ ap (λ (k : RowKind). kind_token k (code_in r) (row_values_at u.context u.table hs pool r) ∷ drop (suc at) xs) e in
      ap (λ (ys : List Token). chain u.context u.table (rest_of ys).here (offset_of_row u at) (level_of_row u at)) h

  pub end_chain : (n : ℕ) → n ≡ length xs → chain_from u n ≡ []
  end_chain n e = ap (λ (ys : List Token). chain u.context u.table (rest_of ys).here (offset_of_row u n) (level_of_row u n)) (subst (λ (m : ℕ). drop m xs ≡ []) (sym e) (drop_length xs))

  -- the children of the entry at a row
  pub children_at : (at : ℕ) (node : Tree) (d : Row) → RowIs at node (get_or rows at d) → StandsAt xs at node → (get_or rows at d).kind ≡ Branch
      → chain_from u (suc at) ≡ children_of (record { context = u.context; table = u.table; node = node; offset = offset_of_row u at; depth = level_of_row u at })
  children_at at node d q s e =
      let r : Row = get_or rows at d in
      let h : drop at xs ≡ branch_row (code_of node) (values_in node) ∷ drop (suc at) xs =
      q.head ∙ (ap (λ (k : RowKind). kind_token k (code_in r) (values_in node) ∷ drop (suc at) xs) e ∙ ap (λ (c : Unsigned). branch_row c (values_in node) ∷ drop (suc at) xs) q.code) in
      ap (λ (ts : Forest). chain u.context u.table ts (offset_of_row u (suc at)) (level_of_row u (suc at))) (below_branch node s.after (drop (suc at) xs) (code_of node) (values_in node) (sym h ∙ s.stands))
      ∙ ap₂ (λ (o l : ℕ). chain u.context u.table (below node) o l) (offset_next at _ h) (level_next at _ h)

  -- the row behind an entry's own stands behind its code and values
  pub next_offset : (at : ℕ) (node : Tree) (d : Row) → RowIs at node (get_or rows at d) → offset_of_row u (suc at) ≡ offset_of_row u at + length (own_bytes u.context u.table node)
  next_offset at node d q = by (get_or rows at d).kind q.is_entry q.head
    where
      here : Unsigned
      here = code_in (get_or rows at d)

      same : length (entry_bytes u.context u.table here (values_in node)) ≡ length (own_bytes u.context u.table node)
      same = ap (λ (c : Unsigned). length (entry_bytes u.context u.table c (values_in node))) q.code

      by : (kd : RowKind) → IsEntry kd → drop at xs ≡ kind_token kd here (values_in node) ∷ drop (suc at) xs → offset_of_row u (suc at) ≡ offset_of_row u at + length (own_bytes u.context u.table node)
      by Leaf is e = omega (arith, offset_next at _ e, same)
      by Branch is e = omega (arith, offset_next at _ e, same)
      by Null is e = absurd is

  -- ---- all entries

  pub entries_step : (at : ℕ) (node : Tree) (d : Row) → RowIs at node (get_or rows at d) → StandsAt xs at node → node ≡ head_of (chain_at xs at) → entries_from u at ≡ entry_at_row u at ∷ entries_from u (suc at)
  entries_step at node d q s n = by (get_or rows at d).kind q.is_entry q.head
    where
      here : Unsigned
      here = code_in (get_or rows at d)

      by : (kd : RowKind) → IsEntry kd → drop at xs ≡ kind_token kd here (values_in node) ∷ drop (suc at) xs → entries_from u at ≡ entry_at_row u at ∷ entries_from u (suc at)
      by Leaf is e =
          ap (λ (ys : List Token). entries_in u.context u.table ys (offset_of_row u at) (level_of_row u at)) e
          ∙ (ap₂ (λ (o l : ℕ). record { context = u.context; table = u.table; node = leaf here (values_in node); offset = offset_of_row u at; depth = level_of_row u at } ∷ entries_in u.context u.table (drop (suc at) xs) o l) (sym (offset_next at _ e)) (sym (level_next at _ e))
          ∙ ap (λ (x : Tree). record { context = u.context; table = u.table; node = x; offset = offset_of_row u at; depth = level_of_row u at } ∷ entries_from u (suc at)) (sym (ap (λ (ys : List Token). head_of (rest_of ys).here) e)))
      by Branch is e =
          ap (λ (ys : List Token). entries_in u.context u.table ys (offset_of_row u at) (level_of_row u at)) e
          ∙ (ap₂ (λ (o l : ℕ). record { context = u.context; table = u.table; node = head_of (rest_of (branch_row here (values_in node) ∷ drop (suc at) xs)).here; offset = offset_of_row u at; depth = level_of_row u at } ∷ entries_in u.context u.table (drop (suc at) xs) o l) (sym (offset_next at _ e)) (sym (level_next at _ e))
          ∙ ap (λ (x : Tree). record { context = u.context; table = u.table; node = x; offset = offset_of_row u at; depth = level_of_row u at } ∷ entries_from u (suc at)) (sym (ap (λ (ys : List Token). head_of (rest_of ys).here) e)))
      by Null is e = absurd is

  pub entries_null : (at : ℕ) (d : Row) → at < length rows → IsNull (get_or rows at d).kind → entries_from u at ≡ entries_from u (suc at)
  entries_null at d l h = by (get_or rows at d).kind h (first_token at d l)
    where
      r : Row
      r = get_or rows at d

      by : (kd : RowKind) → IsNull kd → drop at xs ≡ kind_token kd (code_in (get_or rows at d)) (row_values_at u.context u.table hs pool (get_or rows at d)) ∷ drop (suc at) xs → entries_from u at ≡ entries_from u (suc at)
      by Leaf is e = absurd is
      by Branch is e = absurd is
      by Null is e =
          ap (λ (ys : List Token). entries_in u.context u.table ys (offset_of_row u at) (level_of_row u at)) e
          ∙ ap₂ (λ (o l : ℕ). entries_in u.context u.table (drop (suc at) xs) o l) (sym (offset_next at _ e)) (sym (level_next at _ e))

  -- nulls are passed over
  pub entries_skip : (n from : ℕ) (d : Row) → from + n ≤ length rows → ((i : ℕ) → from ≤ i → i < from + n → IsNull (get_or rows i d).kind) → entries_from u from ≡ entries_from u (from + n)
  entries_skip zero from d l h = ap (λ (i : ℕ). entries_from u i) (sym (add-zero from))
  entries_skip (suc n) from d l h =
      let same : suc from + n ≡ from + suc n = omega arith in
      entries_null from d (omega (arith, l)) (h from (omega arith) (omega arith))
      ∙ (entries_skip n (suc from) d (omega (arith, l)) (λ i a b. h i (omega (arith, a)) (omega (arith, b, same)))
      ∙ ap (λ (i : ℕ). entries_from u i) same)

  pub no_entries : (n : ℕ) → n ≡ length xs → entries_from u n ≡ []
  no_entries n e = ap (λ (ys : List Token). entries_in u.context u.table ys (offset_of_row u n) (level_of_row u n)) (subst (λ (m : ℕ). drop m xs ≡ []) (sym e) (drop_length xs))
