-- A tree whose rows have spellings has one itself.
use Rattle.std.proofs.Common.{◌≡◌, ℕ, zero, suc, ◌+◌, ◌-◌, ◌≤◌, List, [], ◌∷◌, ◌++◌, length, refl, sym, ◌∙◌, ap, subst, arith, Bool, true, false, Option, Some, None}
use Rattle.std.specs.Prelude.{IsSome}
use Rattle.dw_leb.specs.Part.{Part, judged, optional}
use Rattle.dw_leb.specs.Number.{Unsigned, uleb}
use Rattle.dw_leb.specs.Repeat.{ItemsFit}
use Rattle.dw_form.specs.declared.shape.Ctx.{Ctx}
use Rattle.dw_abbrev.specs.Table.{Declaration, Table, declared, is_null, zero_of}
use Rattle.dw_tree.specs.declared.row.Row.{Row}
use Rattle.dw_tree.specs.Tree.{Tree, leaf, branch, Forest, none, more, Body, node_of, nodes_of, declares_children, unless_declared, unknown, bad_root, bad_child, body, children, nesting, unit_tree}
use Rattle.dw_tree.specs.Row.{Token, null_row, rows_of, all_rows, row_bytes}
use Rattle.dw_tree.specs.DraftInvariant.{EntryFits, TokenFits, LevelFits, level_after, levels_after, shallower, Stand}

-- ---- rows that have spellings, whatever their place

module _ (k : Ctx) (t : Table) where
  abbrev pub AllFit : ℕ → List Token → Type 0
  AllFit depth [] = Unit {0}
  AllFit depth (x ∷ xs) = (TokenFits k t x × LevelFits x depth) × AllFit (level_after depth x) xs

  pub stand_fit : (at depth : ℕ) (rows : List Row) (xs : List Token) → Stand k t at depth rows xs → AllFit depth xs
  stand_fit at depth [] [] h = tt
  stand_fit at depth [] (x ∷ xs) h = absurd h
  stand_fit at depth (r ∷ rows) [] h = absurd h
  stand_fit at depth (r ∷ rows) (x ∷ xs) h = ((h.0.2, h.0.3), stand_fit (at + length (row_bytes k t x)) (level_after depth x) rows xs h.1)

  pub fit_front : (depth : ℕ) (xs ys : List Token) → AllFit depth (xs ++ ys) → AllFit depth xs
  fit_front depth [] ys h = tt
  fit_front depth (x ∷ xs) ys h = (h.0, fit_front (level_after depth x) xs ys h.1)

  pub fit_back : (depth : ℕ) (xs ys : List Token) → AllFit depth (xs ++ ys) → AllFit (levels_after depth xs) ys
  fit_back depth [] ys h = h
  fit_back depth (x ∷ xs) ys h = fit_back (level_after depth x) xs ys h.1

pub levels_append : (depth : ℕ) (xs ys : List Token) → levels_after depth (xs ++ ys) ≡ levels_after (levels_after depth xs) ys
levels_append depth [] ys = refl
levels_append depth (x ∷ xs) ys = levels_append (level_after depth x) xs ys

-- behind a tree the level is what it was before
mutual
  pub tree_level : (x : Tree) (d : ℕ) → levels_after (suc d) (rows_of x) ≡ suc d
  tree_level (leaf code vs) d = refl
  tree_level (branch code vs ts w) d = levels_append (suc (suc d)) (all_rows ts) (null_row w ∷ []) ∙ ap shallower (forest_level ts (suc d))

  pub forest_level : (ts : Forest) (d : ℕ) → levels_after (suc d) (all_rows ts) ≡ suc d
  forest_level none d = refl
  forest_level (more x ts) d = levels_append (suc d) (rows_of x) (all_rows ts) ∙ (ap (λ (n : ℕ). levels_after n (all_rows ts)) (tree_level x d) ∙ forest_level ts d)

-- ---- nodes

known_fits : (t : Table) (code : Unsigned) → IsSome (declared t code.value) → unknown t code.value ≡ None
known_fits t code h = by (declared t code.value) h
  where
    by : (o : Option Declaration) → IsSome o → unless_declared o ≡ None
    by None h = absurd cc
    by (Some d) h = refl

module _ (k : Ctx) (t : Table) where
  abbrev NodeFits : ℕ → Tree → Type 0
  NodeFits room x = uleb.Fits (node_of x).0 × (is_null (node_of x).0 ≡ false) × (unknown t (node_of x).0.value ≡ None) × (body k t (children k t room) (node_of x).0).Fits (node_of x).1

  no_kids : (code : Unsigned) (kids : Part (Forest × Unsigned)) → declares_children (declared t code.value) ≡ false → (optional (declares_children (declared t code.value)) kids).Fits None
  no_kids code kids e = subst (λ (b : Bool). (optional b kids).Fits None) (sym e) tt

  some_kids : (code : Unsigned) (kids : Part (Forest × Unsigned)) (x : Forest × Unsigned) → declares_children (declared t code.value) ≡ true → kids.Fits x → (optional (declares_children (declared t code.value)) kids).Fits (Some x)
  some_kids code kids x e h = subst (λ (b : Bool). (optional b kids).Fits (Some x)) (sym e) h

  child_fits : (code : Unsigned) → uleb.Fits code → is_null code ≡ false → unknown t code.value ≡ None → (judged uleb (bad_child t true)).Fits code
  child_fits code f n u = (f, rw n u)

  root_fits : (code : Unsigned) → uleb.Fits code → is_null code ≡ false → unknown t code.value ≡ None → (judged uleb (bad_root t)).Fits code
  root_fits code f n u = (f, rw n u)

  pub first_level : (x : Tree) (depth : ℕ) → AllFit k t depth (rows_of x) → depth ≤ nesting
  first_level (leaf code vs) depth h = h.0.1
  first_level (branch code vs ts w) depth h = h.0.1

  -- without room there is only the null
  no_room : (ts : Forest) (d w : ℕ) → suc d + 0 ≡ nesting → AllFit k t (suc (suc d)) (all_rows ts) → uleb.Fits (zero_of w) → (children k t zero).Fits (ts, zero_of w)
  unfolding children
  no_room none d w e h z = ((z, refl), refl)
  no_room (more x ts) d w e h z = absurd (omega (arith, e, first_level x (suc (suc d)) (fit_front k t (suc (suc d)) (rows_of x) (all_rows ts) h)))

  null_fits : (ts : Forest) (d w : ℕ) → AllFit k t (suc (suc d)) (all_rows ts ++ null_row w ∷ []) → uleb.Fits (zero_of w)
  null_fits ts d w h =
      let back : AllFit k t (suc (suc d)) (null_row w ∷ []) = subst (λ (n : ℕ). AllFit k t n (null_row w ∷ [])) (forest_level ts (suc d)) (fit_back k t (suc (suc d)) (all_rows ts) (null_row w ∷ []) h) in
      back.0.0

  mutual
    unfolding children

    node_fits : (x : Tree) (d room : ℕ) → suc d + room ≡ nesting → AllFit k t (suc d) (rows_of x) → NodeFits room x
    node_fits (leaf code vs) d room e h =
        let f : EntryFits k t code vs = h.0.0.0 in
        (f.code_fits, f.not_null, known_fits t code f.known, (f.values_fit, no_kids code (children k t room) h.0.0.1))
    node_fits (branch code vs ts w) d zero e h =
        let f : EntryFits k t code vs = h.0.0.0 in (
          f.code_fits,
          f.not_null,
          known_fits t code f.known,
          (
            f.values_fit,
            some_kids code (children k t zero) (ts, zero_of w) h.0.0.1 (no_room ts d w e (fit_front k t (suc (suc d)) (all_rows ts) (null_row w ∷ []) h.1) (null_fits ts d w h.1)),
          ),
        )
    node_fits (branch code vs ts w) d (suc room) e h =
        let f : EntryFits k t code vs = h.0.0.0 in (
          f.code_fits,
          f.not_null,
          known_fits t code f.known,
          (
            f.values_fit,
            some_kids code (children k t (suc room)) (ts, zero_of w) h.0.0.1 (items_fit ts [] (suc d) room w (omega (arith, e)) (fit_front k t (suc (suc d)) (all_rows ts) (null_row w ∷ []) h.1) (null_fits ts d w h.1)),
          ),
        )

    items_fit : (ts : Forest) (before : List (Unsigned × Body)) (d room w : ℕ) → suc d + room ≡ nesting → AllFit k t (suc d) (all_rows ts) → uleb.Fits (zero_of w)
        → ItemsFit (λ _. judged uleb (bad_child t true)) is_null (body k t (children k t room)) before (nodes_of ts) (zero_of w)
    items_fit none before d room w e h z = ((z, refl), refl)
    items_fit (more x ts) before d room w e h z =
        let n : NodeFits room x = node_fits x d room e (fit_front k t (suc d) (rows_of x) (all_rows ts) h) in
        let back : AllFit k t (suc d) (all_rows ts) = subst (λ (m : ℕ). AllFit k t m (all_rows ts)) (tree_level x d) (fit_back k t (suc d) (rows_of x) (all_rows ts) h) in
        ((child_fits (node_of x).0 n.0 n.1 n.2, n.1, n.3), items_fit ts (before ++ node_of x ∷ []) d room w e back z)

  pub one_and_more : suc 0 + (nesting - 1) ≡ nesting
  unfolding nesting
  one_and_more = refl

  pub tree_fits : (x : Tree) (at : ℕ) (rows : List Row) → Stand k t at 1 rows (rows_of x) → (unit_tree k t).Fits x
  tree_fits x at rows h =
      let n : NodeFits (nesting - 1) x = node_fits x 0 (nesting - 1) one_and_more (stand_fit k t at 1 rows (rows_of x) h) in
      (root_fits (node_of x).0 n.0 n.1 n.2, n.3)
