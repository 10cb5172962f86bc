-- The entry that stands at a row of a tree's fields.
use Rattle.std.proofs.Common.{◌≡◌, ℕ, zero, suc, ◌+◌, ◌<◌, ◌≤◌, ◌^◌, List, [], ◌∷◌, ◌++◌, length, get_or, take, drop, refl, sym, ◌∙◌, ap, subst, arith, Option, Some, None, length-append, append-nil}
use Rattle.std.specs.Prelude.{IsSome}
use Rattle.dw_form.specs.Form.{Attribute}
use Rattle.dw_abbrev.specs.Table.{declared}
use Rattle.dw_tree.specs.declared.tree.EntryTree.TheInside.{Inside}
use Rattle.dw_tree.specs.declared.row.Row.{Row}
use Rattle.dw_tree.specs.declared.row.RowKind.{RowKind}
use Rattle.dw_tree.specs.declared.row.RowKind.TheVariants.{Leaf, Branch, Null}
use Rattle.dw_tree.specs.Tree.{Tree}
use Rattle.dw_tree.specs.Spelling.{tree_bytes}
use Rattle.dw_tree.specs.Row.{Token, rows_of, rows_bytes, head_of}
use Rattle.dw_tree.specs.Steps.{TreeAt}
use Rattle.dw_tree.specs.TreeView.{tree_at, tokens_in, IsTree}
use Rattle.dw_tree.specs.RowHeads.{values_at, Here}
use Rattle.dw_tree.specs.Flat.{pairs_at, code_in, row_values_at, IsEntry, IsNull, HasHeads, RowReads}
use Rattle.dw_tree.specs.DraftInvariant.{EntryFits, Stand}
use Rattle.dw_tree.specs.Lent.{StandsAt, chain_at, chain_from, children_of, code_of, values_in, own_bytes, offset_of_row, level_of_row, entry_at_row, entries_from}
use Rattle.std.proofs.Common.{take-append-drop, ◌-◌, ap₂, map}
use Rattle.dw_leb.specs.Number.{Unsigned, uleb}
use Rattle.dw_leb.specs.DecideNumber.{length-uleb}
use Rattle.dw_abbrev.specs.declared.pair.Pair.{Pair as RustPair}
use Rattle.dw_abbrev.specs.PairView.{pair_of}
use Rattle.dw_abbrev.specs.Table.{Pair, Declaration, Table}
use Rattle.dw_tree.specs.Tree.{values, declared_pairs}
use Rattle.dw_tree.specs.Lent.{AreLent, lent_attributes, attributes_of}
use Rattle.dw_tree.proofs.Bytes.{stand_at}
use Rattle.std.specs.List.{AllByRecursion}
use Rattle.dw_tree.specs.Tree.{Forest}
use Rattle.dw_tree.specs.Lent.{chain}
use Rattle.dw_tree.specs.RowBytes.{bytes_append}
use Rattle.dw_tree.proofs.Rows.{below_leaf, next_offset, same_length, RowIs, row_is, ends_chain, ends_of, offset_behind, chain_step, null_chain, end_chain, children_at, entries_step, entries_skip, no_entries}

abbrev pub node_at : TreeAt → ℕ → Tree
node_at v at = head_of (chain_at (rows_of v.root) at)

abbrev pub Stands : TreeAt → ℕ → Type 0
Stands v at = StandsAt (rows_of v.root) at (node_at v at)

-- an entry's row
pub record EntryRow (v : TreeAt) (a : Inside) (at : ℕ) (r : Row) : Type 0 where
  pub inside : at < length a.rows.items
  pub offset : r.offset ≡ offset_of_row v at
  pub depth : r.depth ≡ level_of_row v at
  pub code : code_in r ≡ code_of (node_at v at)
  pub values_are : row_values_at v.context v.table a.heads.items a.pool.items r ≡ values_in (node_at v at)
  pub fits : EntryFits v.context v.table (code_of (node_at v at)) (values_in (node_at v at))
  pub end_offset : offset_of_row v r.end ≡ offset_of_row v at + length (tree_bytes v.context v.table (node_at v at))
  pub end_within : r.end ≤ length a.rows.items
  pub later : r.kind ≡ Branch → chain_from v (suc at) ≡ children_of (entry_at_row v at)
  pub leaf_end : (r.kind ≡ Branch → ⊥) → children_of (entry_at_row v at) ≡ []
  pub is_entry : IsEntry r.kind
  pub reads : HasHeads v.context v.table a.heads.items a.pool.items r
  pub own_end : offset_of_row v at + length (own_bytes v.context v.table (node_at v at)) ≤ a.end
  pub near : a.end < 2 ^ 63

pub all_at : {X : Type 0} (P : X → Type 0) (xs : List X) (at : ℕ) (d : X) → at < length xs → AllByRecursion P xs → P (get_or xs at d)
all_at P [] at d l h = absurd (omega (arith, l))
all_at P (x ∷ xs) zero d l h = h.0
all_at P (x ∷ xs) (suc at) d l h = all_at P xs at d (omega (arith, l)) h.1

-- a beginning is no longer than the whole
taken_within : (v : TreeAt) (n : ℕ) → offset_of_row v n ≤ v.start + length (rows_bytes v.context v.table (rows_of v.root))
taken_within v n =
    let xs = rows_of v.root in
    let parts = ap length (bytes_append v.context v.table (take n xs) (drop n xs)) in
    let all = ap (λ (ys : List Token). length (rows_bytes v.context v.table ys)) (take-append-drop n xs) in
    omega (arith, parts, all, length-append (rows_bytes v.context v.table (take n xs)) (rows_bytes v.context v.table (drop n xs)))

module _ (a : Inside) (i : IsTree a) where
  abbrev u : TreeAt
  u = tree_at a

  abbrev rows : List Row
  rows = a.rows.items

  stands : Stand u.context u.table u.start 1 rows (rows_of u.root)
  stands = subst (Stand u.context u.table u.start 1 rows) i.one_tree i.stand

  long : length rows ≡ length (rows_of u.root)
  long = same_length u rows a.heads.items a.pool.items i.one_tree

  whole_end : a.end ≡ u.start + length (rows_bytes u.context u.table (rows_of u.root))
  whole_end = i.end_is ∙ ap (λ (xs : List Token). u.start + length (rows_bytes u.context u.table xs)) i.one_tree

  here : (at : ℕ) (d : Row) → Stands u at → EntryRow u a at (get_or rows at d)
  here at d s =
      let q : RowIs u rows a.heads.items a.pool.items i.one_tree at (node_at u at) (get_or rows at d) = row_is u rows a.heads.items a.pool.items i.one_tree stands at (node_at u at) d s in
      let e = ends_of u rows a.heads.items a.pool.items i.one_tree at d i.ends q.inside q.is_entry in
      let c = ends_chain u rows a.heads.items a.pool.items i.one_tree at (get_or rows at d).end e in
      let same : c.0 ≡ node_at u at = sym (ap head_of c.2) in
      record {
        inside = q.inside;
        offset = q.offset;
        depth = q.depth;
        code = q.code;
        values_are = q.values_are;
        fits = q.fits;
        is_entry = q.is_entry;
        end_offset = offset_behind u rows a.heads.items a.pool.items i.one_tree at (get_or rows at d).end c.0 c.1 ∙ ap (λ (x : Tree). offset_of_row u at + length (tree_bytes u.context u.table x)) same;
        end_within = omega (arith, c.3, long);
        later = children_at u rows a.heads.items a.pool.items i.one_tree at (node_at u at) d q s;
        leaf_end = λ n. ap (λ (ts : Forest). chain u.context u.table ts (offset_of_row u at + length (own_bytes u.context u.table (node_at u at))) (suc (level_of_row u at)))
            (below_leaf (get_or rows at d).kind (code_in (get_or rows at d)) (values_in (node_at u at)) (drop (suc at) (rows_of u.root)) (node_at u at) s.after n (sym q.head ∙ s.stands));
        reads = all_at (RowReads a.context a.table.value a.heads.items a.pool.items) rows at d q.inside i.rows_read q.is_entry;
        own_end = omega (arith, next_offset u rows a.heads.items a.pool.items i.one_tree at (node_at u at) d q, taken_within u (suc at), whole_end);
        near = i.near;
      }

  -- an entry's row, from which its chain goes on
  pub record ChainRow (v : TreeAt) (at : ℕ) (end : ℕ) : Type 0 where
    pub stands_here : Stands v at
    pub goes_on : chain_from v at ≡ entry_at_row v at ∷ chain_from v end
    pub within : end ≤ length (rows_of v.root)

  chain_here : (at : ℕ) (d : Row) → at < length rows → IsEntry (get_or rows at d).kind → ChainRow u at (get_or rows at d).end
  chain_here at d l k =
      let e = ends_of u rows a.heads.items a.pool.items i.one_tree at d i.ends l k in
      let c = ends_chain u rows a.heads.items a.pool.items i.one_tree at (get_or rows at d).end e in
      record {
        stands_here = record { after = drop (get_or rows at d).end (rows_of u.root); stands = c.1 ∙ ap (λ (x : Tree). rows_of x ++ drop (get_or rows at d).end (rows_of u.root)) (sym (ap head_of c.2)) };
        goes_on = chain_step u rows a.heads.items a.pool.items i.one_tree at (get_or rows at d).end c.0 c.1 c.2;
        within = c.3;
      }

  -- ---- of the tree as it is seen

  module _ (v : TreeAt) (e : tree_at a ≡ v) where
    pub as_long : length rows ≡ length (rows_of v.root)
    as_long = long ∙ ap (λ (w : TreeAt). length (rows_of w.root)) e

    pub entry_row : (at : ℕ) (d : Row) → Stands v at → EntryRow v a at (get_or rows at d)
    entry_row at d s = subst (λ (w : TreeAt). Stands w at → EntryRow w a at (get_or rows at d)) e (here at d) s

    pub chain_row : (at : ℕ) (d : Row) → at < length rows → IsEntry (get_or rows at d).kind → ChainRow v at (get_or rows at d).end
    chain_row at d l k = subst (λ (w : TreeAt). ChainRow w at (get_or rows at d).end) e (chain_here at d l k)

    pub null_ends : (at : ℕ) (d : Row) → at < length rows → (get_or rows at d).kind ≡ Null → chain_from v at ≡ []
    null_ends at d l k = subst (λ (w : TreeAt). chain_from w at ≡ []) e (null_chain u rows a.heads.items a.pool.items i.one_tree at d l k)

    pub rows_end : (n : ℕ) → n ≡ length rows → chain_from v n ≡ []
    rows_end n l = subst (λ (w : TreeAt). chain_from w n ≡ []) e (end_chain u rows a.heads.items a.pool.items i.one_tree n (l ∙ long))

    pub end_of_tree : a.end ≡ offset_of_row v (length rows)
    end_of_tree = subst (λ (w : TreeAt). a.end ≡ offset_of_row w (length rows)) e
        (i.end_is ∙ ap (λ (xs : List Token). u.start + length (rows_bytes u.context u.table xs)) (i.one_tree ∙ sym (all_taken (rows_of u.root) (length rows) long)))
      where
        all_taken : (xs : List Token) (n : ℕ) → n ≡ length xs → take n xs ≡ xs
        all_taken xs n l = Rattle.std.proofs.Common.take_all n xs (omega (arith, l))

    pub next_of : (at : ℕ) (d : Row) → at < length rows → IsEntry (get_or rows at d).kind → Stands v at → entries_from v at ≡ entry_at_row v at ∷ entries_from v (suc at)
    next_of at d l k s = subst (λ (w : TreeAt). Stands w at → entries_from w at ≡ entry_at_row w at ∷ entries_from w (suc at)) e
        (λ s. entries_step u rows a.heads.items a.pool.items i.one_tree at (node_at u at) d (row_is u rows a.heads.items a.pool.items i.one_tree stands at (node_at u at) d s) s refl) s

    pub skips : (n from : ℕ) (d : Row) → from + n ≤ length rows → ((j : ℕ) → from ≤ j → j < from + n → IsNull (get_or rows j d).kind) → entries_from v from ≡ entries_from v (from + n)
    skips n from d l h = subst (λ (w : TreeAt). entries_from w from ≡ entries_from w (from + n)) e (entries_skip u rows a.heads.items a.pool.items i.one_tree n from d l h)

    pub skips_all : (n from : ℕ) → from + n ≤ length rows → ((j : ℕ) (d : Row) → from ≤ j → j < from + n → IsNull (get_or rows j d).kind) → entries_from v from ≡ entries_from v (from + n)
    skips_all n from l h = by rows refl
      where
        by : (rs : List Row) → rs ≡ rows → entries_from v from ≡ entries_from v (from + n)
        by [] same = ap (λ (m : ℕ). entries_from v m) (omega (arith, l, ap length same))
        by (r ∷ rs) same = skips n from r l (λ j x y. h j r x y)

    pub none_left : (n : ℕ) → n ≡ length rows → entries_from v n ≡ []
    none_left n l = subst (λ (w : TreeAt). entries_from w n ≡ []) e (no_entries u rows a.heads.items a.pool.items i.one_tree n (l ∙ long))

pub rows_stand : (xs : List Token) (x : Tree) → xs ≡ rows_of x → StandsAt xs 0 x
rows_stand xs x e = record { after = []; stands = e ∙ sym (append-nil (rows_of x)) }

-- each row stands where the bytes before it end
module _ (a : Inside) (i : IsTree a) (v : TreeAt) (e : tree_at a ≡ v) where
  pub row_offset : (at : ℕ) (d : Row) → at < length a.rows.items → (get_or a.rows.items at d).offset ≡ offset_of_row v at
  row_offset at d l =
      let q = stand_at a.context a.table.value a.start 1 a.rows.items (tokens_in a) at d l i.stand in
      q.offset ∙ (ap (λ (xs : List Token). a.start + length (rows_bytes a.context a.table.value (take at xs))) i.one_tree ∙ ap (λ (w : TreeAt). offset_of_row w at) e)

-- the values of an entry as they are lent
module _ (a : Inside) (i : IsTree a) (at : ℕ) (r : Row) (q : EntryRow (tree_at a) a at r) (ps : List RustPair) (decl : Declaration) (known : declared a.table.value r.code ≡ Some decl) (pairs : map pair_of ps ≡ decl.pairs) where
  abbrev node : Tree
  node = node_at (tree_at a) at

  abbrev behind : List ℕ
  behind = drop r.first a.heads.items

  pub pairs_here : map pair_of ps ≡ pairs_at a.table.value r.code
  pairs_here = pairs ∙ ap declared_pairs (sym known)

  pairs_are : map pair_of ps ≡ declared_pairs (declared a.table.value (code_of node).value)
  pairs_are = pairs_here ∙ ap (λ (c : Unsigned). declared_pairs (declared a.table.value c.value)) q.code

  values_are_in : values_at a.context (map pair_of ps) behind a.pool.items ≡ values_in node
  values_are_in = ap (λ (xs : List Pair). values_at a.context xs behind a.pool.items) pairs_here ∙ q.values_are

  at_value : r.offset + r.width ≡ offset_of_row (tree_at a) at + (code_of node).width
  at_value = ap (λ (c : Unsigned). r.offset + c.width) q.code ∙ ap (λ (n : ℕ). n + (code_of node).width) q.offset

  pub are_lent : AreLent a.context (r.offset + r.width) (map pair_of ps) behind a.pool.items
  are_lent = record {
    context = i.context_fits;
    here = subst (λ (xs : List Pair). Here a.context xs behind a.pool.items) (sym pairs_here) q.reads.here;
    room =
        let one = ap (λ (vs : List Attribute). length ((values a.context (map pair_of ps)).spell vs)) values_are_in in
        let two = ap (λ (xs : List Pair). length ((values a.context xs).spell (values_in node))) pairs_are in
        omega (arith, one, two, at_value, q.own_end, q.near, length-uleb (code_of node), length-append (uleb.spell (code_of node)) ((values a.context (declared_pairs (declared a.table.value (code_of node).value))).spell (values_in node)));
  }

  pub lent_are : lent_attributes a.context (r.offset + r.width) (map pair_of ps) (values_at a.context (map pair_of ps) behind a.pool.items) ≡ attributes_of (entry_at_row (tree_at a) at)
  lent_are =
      ap (λ (n : ℕ). lent_attributes a.context n (map pair_of ps) (values_at a.context (map pair_of ps) behind a.pool.items)) at_value
      ∙ ap₂ (λ (xs : List Pair) (vs : List Attribute). lent_attributes a.context (offset_of_row (tree_at a) at + (code_of node).width) xs vs) pairs_are values_are_in

-- a code that is declared is found
pub not_missing : (t : Table) (code : Unsigned) (r : Unsigned) → r ≡ code → IsSome (declared t code.value) → declared t r.value ≡ None → ⊥
not_missing t code r e s n = absurd_none (subst (λ (c : Unsigned). IsSome (declared t c.value)) (sym e) s) n
  where
    absurd_none : {o : Option Declaration} → IsSome o → o ≡ None → ⊥
    absurd_none s n = cc

pub some_entry : (k : RowKind) → (k ≡ Null → ⊥) → IsEntry k
some_entry Leaf n = tt
some_entry Branch n = tt
some_entry Null n = n refl
