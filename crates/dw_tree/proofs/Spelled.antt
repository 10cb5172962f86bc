-- The bytes of a tree's rows are the tree's spelling.
use Rattle.std.proofs.Common.{◌≡◌, ℕ, zero, suc, ◌+◌, ◌-◌, List, [], ◌∷◌, ◌++◌, length, refl, sym, ◌∙◌, ap, ap₂, subst, arith, append_assoc, append-nil, Bool, true, false, Some, None}
use Rattle.std.specs.List.{AllByRecursion}
use Rattle.dw_leb.specs.Part.{Part, judged, optional}
use Rattle.dw_leb.specs.Number.{Unsigned, uleb}
use Rattle.dw_leb.specs.Repeat.{items_bytes}
use Rattle.dw_form.specs.declared.shape.Ctx.{Ctx}
use Rattle.dw_form.specs.Form.{Attribute}
use Rattle.dw_abbrev.specs.Table.{Table, declared, is_null, zero_of}
use Rattle.dw_tree.specs.declared.row.Row.{Row}
use Rattle.dw_tree.specs.Tree.{Tree, leaf, branch, Forest, none, more, Body, node_of, nodes_of, values, declared_pairs, declares_children, bad_child, body, children, nesting, unit_tree}
use Rattle.dw_tree.specs.Spelling.{entry_bytes}
use Rattle.dw_tree.specs.Row.{Token, null_row, rows_of, all_rows, row_bytes, rows_bytes}
use Rattle.dw_tree.specs.DraftInvariant.{TokenFits, Stand, level_after}
use Rattle.dw_tree.proofs.Fits.{AllFit, stand_fit, fit_front, fit_back, tree_level, first_level, one_and_more}
use Rattle.dw_tree.specs.RowBytes.{bytes_append}

-- each row has a spelling
pub all_tokens_fit : (k : Ctx) (t : Table) (at depth : ℕ) (rows : List Row) (xs : List Token) → Stand k t at depth rows xs → AllByRecursion (TokenFits k t) xs
all_tokens_fit k t at depth [] [] h = tt
all_tokens_fit k t at depth [] (x ∷ xs) h = absurd h
all_tokens_fit k t at depth (r ∷ rows) [] h = absurd h
all_tokens_fit k t at depth (r ∷ rows) (x ∷ xs) h = (h.0.2, all_tokens_fit k t (at + length (row_bytes k t x)) (level_after depth x) rows xs h.1)

module _ (k : Ctx) (t : Table) where
  no_kids : (b : Bool) (kids : Part (Forest × Unsigned)) → b ≡ false → (optional b kids).spell None ≡ []
  no_kids b kids e = rw e refl

  some_kids : (b : Bool) (kids : Part (Forest × Unsigned)) (x : Forest × Unsigned) → b ≡ true → (optional b kids).spell (Some x) ≡ kids.spell x
  some_kids b kids x e = rw e refl

  abbrev node_bytes : ℕ → Tree → List ℕ
  node_bytes room x = uleb.spell (node_of x).0 ++ (body k t (children k t room) (node_of x).0).spell (node_of x).1

  -- behind its code and values an entry has its children's bytes
  branch_bytes : (code : Unsigned) (vs : List Attribute) (ts : Forest) (w : ℕ) (kids : Part (Forest × Unsigned)) → declares_children (declared t code.value) ≡ true → kids.spell (ts, zero_of w) ≡ rows_bytes k t (all_rows ts) ++ uleb.spell (zero_of w)
      → uleb.spell code ++ (body k t kids code).spell (vs, Some (ts, zero_of w)) ≡ rows_bytes k t (rows_of (branch code vs ts w))
  branch_bytes code vs ts w kids e s =
      let own = (values k (declared_pairs (declared t code.value))).spell vs in
      let null = uleb.spell (zero_of w) in
      ap (λ (bs : List ℕ). uleb.spell code ++ (own ++ bs)) (some_kids (declares_children (declared t code.value)) kids (ts, zero_of w) e ∙ s)
      ∙ (sym (append_assoc (uleb.spell code) own (rows_bytes k t (all_rows ts) ++ null))
      ∙ ap (λ (bs : List ℕ). entry_bytes k t code vs ++ bs) (sym (bytes_append k t (all_rows ts) (null_row w ∷ []) ∙ ap (λ (bs : List ℕ). rows_bytes k t (all_rows ts) ++ bs) (append-nil null))))

  no_room : (ts : Forest) (d w : ℕ) → suc d + 0 ≡ nesting → AllFit k t (suc (suc d)) (all_rows ts) → (children k t zero).spell (ts, zero_of w) ≡ rows_bytes k t (all_rows ts) ++ uleb.spell (zero_of w)
  unfolding children
  no_room none d w e h = refl
  no_room (more x ts) d w e h = absurd (omega (arith, e, first_level k t x (suc (suc d)) (fit_front k t (suc (suc d)) (rows_of x) (all_rows ts) h)))

  mutual
    unfolding children

    node_spelled : (x : Tree) (d room : ℕ) → suc d + room ≡ nesting → AllFit k t (suc d) (rows_of x) → node_bytes room x ≡ rows_bytes k t (rows_of x)
    node_spelled (leaf code vs) d room e h =
        let own = (values k (declared_pairs (declared t code.value))).spell vs in
        ap (λ (bs : List ℕ). uleb.spell code ++ (own ++ bs)) (no_kids (declares_children (declared t code.value)) (children k t room) h.0.0.1)
        ∙ sym (append_assoc (uleb.spell code) own [])
    node_spelled (branch code vs ts w) d zero e h = branch_bytes code vs ts w (children k t zero) h.0.0.1 (no_room ts d w e (fit_front k t (suc (suc d)) (all_rows ts) (null_row w ∷ []) h.1))
    node_spelled (branch code vs ts w) d (suc room) e h = branch_bytes code vs ts w (children k t (suc room)) h.0.0.1 (items_spelled ts [] (suc d) room w (omega (arith, e)) (fit_front k t (suc (suc d)) (all_rows ts) (null_row w ∷ []) h.1))

    items_spelled : (ts : Forest) (before : List (Unsigned × Body)) (d room w : ℕ) → suc d + room ≡ nesting → AllFit k t (suc d) (all_rows ts)
        → items_bytes (λ _. judged uleb (bad_child t true)) is_null (body k t (children k t room)) before (nodes_of ts) (zero_of w) ≡ rows_bytes k t (all_rows ts) ++ uleb.spell (zero_of w)
    items_spelled none before d room w e h = refl
    items_spelled (more x ts) before d room w e h =
        let back : AllFit k t (suc d) (all_rows ts) = subst (λ (m : ℕ). AllFit k t m (all_rows ts)) (tree_level x d) (fit_back k t (suc d) (rows_of x) (all_rows ts) h) in
        let null = uleb.spell (zero_of w) in
        ap₂ (λ (bs cs : List ℕ). bs ++ cs) (node_spelled x d room e (fit_front k t (suc d) (rows_of x) (all_rows ts) h)) (items_spelled ts (before ++ node_of x ∷ []) d room w e back)
        ∙ (sym (append_assoc (rows_bytes k t (rows_of x)) (rows_bytes k t (all_rows ts)) null)
        ∙ ap (λ (bs : List ℕ). bs ++ null) (sym (bytes_append k t (rows_of x) (all_rows ts))))

  pub tree_spelled : (x : Tree) (at : ℕ) (rows : List Row) → Stand k t at 1 rows (rows_of x) → (unit_tree k t).spell x ≡ rows_bytes k t (rows_of x)
  tree_spelled x at rows h = node_spelled x 0 (nesting - 1) (one_and_more k t) (stand_fit k t at 1 rows (rows_of x) h)
