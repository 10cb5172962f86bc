-- The bytes of a tree's rows are those of the tree.
use Rattle.std.proofs.Common.{◌≡◌, ℕ, List, [], ◌∷◌, ◌++◌, refl, sym, ◌∙◌, ap, ap₂, append_assoc, append-nil}
use Rattle.dw_leb.specs.Number.{uleb}
use Rattle.dw_form.specs.declared.shape.Ctx.{Ctx}
use Rattle.dw_abbrev.specs.Table.{Table, zero_of}
use Rattle.dw_tree.specs.Tree.{Tree, leaf, branch, Forest, none, more}
use Rattle.dw_tree.specs.Spelling.{entry_bytes, tree_bytes, forest_bytes}
use Rattle.dw_tree.specs.Row.{Token, null_row, rows_of, all_rows, row_bytes, rows_bytes}

module _ (k : Ctx) (t : Table) where
  pub bytes_append : (xs ys : List Token) → rows_bytes k t (xs ++ ys) ≡ rows_bytes k t xs ++ rows_bytes k t ys
  bytes_append [] ys = refl
  bytes_append (x ∷ xs) ys =
      ap (λ (bs : List ℕ). row_bytes k t x ++ bs) (bytes_append xs ys)
      ∙ sym (append_assoc (row_bytes k t x) (rows_bytes k t xs) (rows_bytes k t ys))

  mutual
    unfolding tree_bytes

    pub rows_are_tree : (x : Tree) → rows_bytes k t (rows_of x) ≡ tree_bytes k t x
    rows_are_tree (leaf code vs) = append-nil (entry_bytes k t code vs)
    rows_are_tree (branch code vs ts w) =
        ap (λ (bs : List ℕ). entry_bytes k t code vs ++ bs)
        (bytes_append (all_rows ts) (null_row w ∷ [])
        ∙ (ap₂ (λ (bs cs : List ℕ). bs ++ cs) (rows_are_forest ts) (append-nil (uleb.spell (zero_of w)))))

    pub rows_are_forest : (ts : Forest) → rows_bytes k t (all_rows ts) ≡ forest_bytes k t ts
    rows_are_forest none = refl
    rows_are_forest (more x ts) =
        bytes_append (rows_of x) (all_rows ts)
        ∙ ap₂ (λ (bs cs : List ℕ). bs ++ cs) (rows_are_tree x) (rows_are_forest ts)
