-- A number put in the fields of a tree.
use Rattle.std.proofs.Common.{◌≡◌, ◌≢◌, ℕ, ℤ, ◌+◌, ◌<◌, ◌≤◌, List, Vec, arith, length, get_or, drop, map, refl, sym, ◌∙◌, ap, subst, Option, Some, None}
use Rattle.std.specs.declared.alloc.Global.{Global}
use Rattle.std.specs.List.{AllByRecursion}
use Rattle.std.specs.Prelude.{IsSome}
use Rattle.dw_form.specs.declared.shape.Ctx.{Ctx}
use Rattle.dw_form.specs.Form.{Attribute}
use Rattle.dw_form.specs.Renumber.{renumbered}
use Rattle.dw_abbrev.specs.declared.pair.Pair.{Pair as RustPair}
use Rattle.dw_abbrev.specs.PairView.{pair_of}
use Rattle.dw_abbrev.specs.Table.{Pair, Declaration, Table, declared}
use Rattle.dw_tree.specs.declared.tree.EntryTree.TheInside.{Inside}
use Rattle.dw_tree.specs.declared.row.Row.{Row}
use Rattle.dw_tree.specs.declared.row.RowKind.{RowKind}
use Rattle.dw_tree.specs.declared.row.RowKind.TheVariants.{Leaf, Branch, Null}
use Rattle.dw_tree.specs.Row.{Token, rows_of}
use Rattle.dw_tree.specs.Tree.{Tree, unit_tree}
use Rattle.dw_tree.specs.Steps.{TreeAt}
use Rattle.dw_tree.specs.TreeView.{tree_at, tokens_in, IsTree}
use Rattle.dw_tree.specs.RowHeads.{Here, rows_heads, values_here}
use Rattle.dw_tree.specs.Flat.{IsEntry, IsNull, code_in, tokens_at}
use Rattle.dw_tree.specs.DraftInvariant.{TokenFits}
use Rattle.dw_tree.specs.Lent.{EntryAt, find_at, first_named, entries_of, entries_in, entry_at_row, lent_attributes, attributes_of, code_of}
use Rattle.dw_tree.specs.Put.{Edit, Takes, put}
use Rattle.dw_tree.specs.Patch.{Patch, patch_in}
use Rattle.dw_tree.proofs.EntryRows.{Stands, EntryRow, entry_row, node_at, not_missing, are_lent, lent_are, pairs_here}
use Rattle.dw_tree.proofs.FindRows.{no_row, null_row_there, entry_there, stands}
use Rattle.dw_tree.proofs.AllEntries.{all_entries}
use Rattle.dw_tree.proofs.Written.{spelled_as, tokens_fit}
use Rattle.dw_tree.proofs.Patches.{Patched, pasted, values_found}
use Rattle.dw_tree.proofs.Putting.{put_rows, RowSplit, row_split, heads_patched, Edited, edited, rows_put, offsets_put}

not_both : (o : Option EntryAt) (x : EntryAt) → o ≡ Some x → o ≡ None → ⊥
not_both None x e n = absurd cc
not_both (Some y) x e n = absurd cc

module _ (a : Inside) (i : IsTree a) (v : TreeAt) (view : tree_at a ≡ v) (e : Edit) (takes : Takes e v) where
  abbrev rows : List Row
  rows = a.rows.items

  -- a row begins at the offset
  pub some_row : ((j : ℕ) (d : Row) → j < length rows → (get_or rows j d).offset ≢ e.offset) → ⊥
  some_row none = not_both (find_at e.offset (entries_of v)) takes.entry takes.begins (no_row a i v view e.offset none)

  module _ (at : ℕ) (r : Row) (l : at < length rows) (same : r ≡ get_or rows at r) (here : (get_or rows at r).offset ≡ e.offset) where
    pub is_entry : IsEntry (get_or rows at r).kind
    is_entry = by (get_or rows at r).kind refl
      where
        by : (k : RowKind) → (get_or rows at r).kind ≡ k → IsEntry k
        by Leaf is = tt
        by Branch is = tt
        by Null is = not_both (find_at e.offset (entries_of v)) takes.entry takes.begins (null_row_there a i v view e.offset at r l here (subst IsNull (sym is) tt))

    entry_is : takes.entry ≡ entry_at_row v at
    entry_is =
        let found : Some takes.entry ≡ Some (entry_at_row v at) = sym takes.begins ∙ entry_there a i v view e.offset at r l here is_entry in
        cc

    pub row : EntryRow (tree_at a) a at r
    row =
        let there : Stands v at = stands a i v view e.offset at r l is_entry in
        subst (EntryRow (tree_at a) a at) (sym same) (entry_row a i (tree_at a) refl at r (subst (λ (w : TreeAt). Stands w at) (sym view) there))

    pub is_known : declared a.table.value r.code ≡ None → ⊥
    is_known = not_missing a.table.value (code_of (node_at (tree_at a) at)) (code_in r) row.code row.fits.known

    module _ (ps : List RustPair) (decl : Declaration) (known : declared a.table.value r.code ≡ Some decl) (pairs : map pair_of ps ≡ decl.pairs) where
      pub here_is : Here a.context (map pair_of ps) (drop r.first a.heads.items) a.pool.items
      here_is = (are_lent a i at r row ps decl known pairs).here

      -- the first value of the name takes the number
      pub some_patch : patch_in a.context e.name e.number (map pair_of ps) (drop r.first a.heads.items) a.pool.items ≡ None → ⊥
      some_patch none =
          let h = here_is in
          let start = r.offset + r.width in
          let given = values_here a.context (map pair_of ps) (drop r.first a.heads.items) a.pool.items h in
          let lent : lent_attributes a.context start (map pair_of ps) h.given ≡ attributes_of takes.entry =
          ap (λ (vs : List Attribute). lent_attributes a.context start (map pair_of ps) vs) (sym given)
          ∙ (lent_are a i at r row ps decl known pairs ∙ (ap (λ (w : TreeAt). attributes_of (entry_at_row w at)) view ∙ ap attributes_of (sym entry_is))) in
          let context = ap (λ (w : TreeAt). w.context) (sym view) in
          values_found a.context e.name e.number a.pool.items h.small (map pair_of ps) h.given h.start start h.rest takes.attribute h.fits h.lies
          (ap (first_named e.name) lent ∙ takes.first)
          (subst (λ (k : Ctx). IsSome (renumbered k takes.attribute.form e.number takes.attribute.attr.value)) context takes.takes)
          (ap (λ (b : List ℕ). patch_in a.context e.name e.number (map pair_of ps) b a.pool.items) (sym h.split) ∙ none)

      pub all_patched : (q : Patch) → patch_in a.context e.name e.number (map pair_of ps) (drop r.first a.heads.items) a.pool.items ≡ Some q
          → Patched a.heads.items (r.first + q.0, q.1) (rows_heads a.context a.table.value 0 (put_rows a.context a.table.value e a.start (tokens_in a)))
      all_patched q found =
          let k = a.context in
          let t = a.table.value in
          let s = subst (λ (x : Row). RowSplit k t e a.start 0 0 x (tokens_in a)) (sym same) (row_split k t e a.start 1 0 0 rows (tokens_in a) at r l i.stand i.rows_are) in
          let begins : r.offset ≡ e.offset = ap (λ (x : Row). x.offset) same ∙ here in
          heads_patched k t e a.start (tokens_in a) a.heads.items a.pool.items i.exact r s begins q here_is.small row.is_entry
          (ap (λ (qs : List Pair). patch_in k e.name e.number qs (drop r.first a.heads.items) a.pool.items) (sym (pairs_here a i at r row ps decl known pairs)) ∙ found)

      pub all_edited : (q : Patch) (new : List ℕ) → patch_in a.context e.name e.number (map pair_of ps) (drop r.first a.heads.items) a.pool.items ≡ Some q → new ≡ pasted a.heads.items (r.first + q.0, q.1)
          → Edited a.context a.table.value e a.start a.end rows new a.pool.items (tree_at a).root (tokens_at a.context a.table.value rows new a.pool.items)
      all_edited q new found is =
          edited a.context a.table.value e a.start a.end rows (tokens_in a) a.heads.items a.pool.items (tree_at a).root i.rows_are i.ends i.stand i.exact i.end_is i.one_tree here_is.small new (is ∙ (all_patched q found).is)

-- every entry begins where it did
pub offsets_kept : (e : Edit) (u : TreeAt) → AllByRecursion (TokenFits u.context u.table) (rows_of u.root) → map (λ (x : EntryAt). x.offset) (entries_of (put e u)) ≡ map (λ (x : EntryAt). x.offset) (entries_of u)
offsets_kept e u fits =
    let offsets : List EntryAt → List ℕ = map (λ (x : EntryAt). x.offset) in
    ap offsets (sym (all_entries (put e u)))
    ∙ (ap (λ (xs : List Token). offsets (entries_in u.context u.table xs (u.start + 0) 1)) (rows_put u.context u.table e u.root u.start)
    ∙ (offsets_put u.context u.table e u.start (u.start + 0) 1 (rows_of u.root) fits
    ∙ ap offsets (all_entries u)))

-- What the call finds on its way, each by what the calls below it say: the row that begins at the offset, then its
-- declaration, its heads and the number, then the patch for them, and then the heads with the patch.
module _ {a : Inside} (i : IsTree a) {v : TreeAt} (view : tree_at a ≡ v) {e : Edit} (takes : Takes e v) {at : ℕ}
    {r : Row} {rs : List Row} (rows_are : rs ≡ a.rows.items) (inside : at < length rs)
    (found : (get_or rs at r).offset ≡ e.offset) (same : r ≡ get_or a.rows.items at r) where
  there : at < length a.rows.items
  there = omega (arith, inside, ap length rows_are)

  here : (get_or a.rows.items at r).offset ≡ e.offset
  here = subst (λ (xs : List Row). (get_or xs at r).offset ≡ e.offset) rows_are found

  pub is_declared : {tab : Table} → tab ≡ a.table.value → None ≡ declared tab r.code → ⊥
  is_declared is none =
      is_known a i v view e takes at r there same here (ap (λ (t : Table). declared t r.code) (sym is) ∙ sym none)

  pub first_within : r.first ≤ length a.heads.items
  first_within = (row a i v view e takes at r there same here).reads.within

  module _ (ps : List RustPair) {decl : Declaration} {t : Table} (table_is : t ≡ a.table.value)
      (declares : Some decl ≡ declared t r.code) (pairs : map pair_of ps ≡ decl.pairs) {all hs pool : List ℕ}
      (behind : hs ≡ drop r.first all) (all_are : all ≡ a.heads.items) (pool_is : pool ≡ a.pool.items) where
    known : declared a.table.value r.code ≡ Some decl
    known = ap (λ (t : Table). declared t r.code) (sym table_is) ∙ sym declares

    heads_are : hs ≡ drop r.first a.heads.items
    heads_are = behind ∙ ap (λ (b : List ℕ). drop r.first b) all_are

    pub found_here : Here a.context (map pair_of ps) hs pool
    found_here = rw (heads_are, pool_is) (here_is a i v view e takes at r there same here ps decl known pairs)

    module _ {n : ℤ} (number_is : n ≡ e.number) where
      moved : patch_in a.context e.name e.number (map pair_of ps) (drop r.first a.heads.items) a.pool.items
          ≡ patch_in a.context e.name n (map pair_of ps) hs pool
      moved =
          ap (λ (x : ℤ). patch_in a.context e.name x (map pair_of ps) (drop r.first a.heads.items) a.pool.items)
          (sym number_is)
          ∙ (ap (λ (b : List ℕ). patch_in a.context e.name n (map pair_of ps) b a.pool.items) (sym heads_are)
          ∙ ap (λ (b : List ℕ). patch_in a.context e.name n (map pair_of ps) hs b) (sym pool_is))

      pub has_patch : None ≡ patch_in a.context e.name n (map pair_of ps) hs pool → ⊥
      has_patch none = some_patch a i v view e takes at r there same here ps decl known pairs (moved ∙ sym none)

      module _ {q : Patch} (patch : Some q ≡ patch_in a.context e.name n (map pair_of ps) hs pool) where
        pub patch_within : r.first + q.0 + length q.1 ≤ length a.heads.items
        patch_within =
            (all_patched a i v view e takes at r there same here ps decl known pairs q (moved ∙ sym patch)).within

        module _ (heads : Vec ℕ Global) {bytes : List ℕ}
            (new : heads.items ≡ pasted a.heads.items (r.first + q.0, bytes)) (bytes_are : bytes ≡ q.1) where
          abbrev with_heads : Inside
          with_heads =
              record {
                context = a.context;
                table = a.table;
                start = a.start;
                end = a.end;
                rows = a.rows;
                heads = heads;
                pool = a.pool;
              }

          edited_heads : Edited a.context a.table.value e a.start a.end a.rows.items heads.items a.pool.items
              (tree_at a).root (tokens_at a.context a.table.value a.rows.items heads.items a.pool.items)
          edited_heads =
              all_edited a i v view e takes at r there same here ps decl known pairs q heads.items (moved ∙ sym patch)
              (new ∙ ap (λ (b : List ℕ). pasted a.heads.items (r.first + q.0, b)) bytes_are)

          pub still_tree : IsTree with_heads
          still_tree =
              let h = edited_heads in
              record {
                context_fits = i.context_fits;
                rows_are = h.rows_are;
                rows_read = h.rows_read;
                one_tree = h.tokens ∙ ap rows_of (sym h.root_is);
                ends = h.ends;
                stand = h.stand;
                exact = h.exact;
                end_is = h.end_is;
                near = i.near;
              }

          pub is_put : tree_at with_heads ≡ put e v
          is_put =
              let build : Tree → TreeAt =
              λ x. record { context = a.context; table = a.table.value; start = a.start; root = x } in
              ap build edited_heads.root_is ∙ ap (put e) view

          pub still_spelled : length ((unit_tree a.context a.table.value).spell (tree_at with_heads).root)
              ≡ length ((unit_tree v.context v.table).spell v.root)
          still_spelled =
              let one = ap length (spelled_as with_heads still_tree (tree_at with_heads) refl) in
              let two = ap length (spelled_as a i v view) in
              omega (arith, one, two, still_tree.end_is, i.end_is)

          pub offsets_stay : map (λ (x : EntryAt). x.offset) (entries_of (tree_at with_heads))
              ≡ map (λ (x : EntryAt). x.offset) (entries_of v)
          offsets_stay =
              let fits : AllByRecursion (TokenFits v.context v.table) (rows_of v.root) =
              subst (λ (w : TreeAt). AllByRecursion (TokenFits w.context w.table) (rows_of w.root)) view
              (subst (AllByRecursion (TokenFits a.context a.table.value)) i.one_tree (tokens_fit a i)) in
              ap (λ (w : TreeAt). map (λ (x : EntryAt). x.offset) (entries_of w)) is_put ∙ offsets_kept e v fits
