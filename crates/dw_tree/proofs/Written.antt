-- What is written of a tree is its spelling.
use Rattle.std.proofs.Common.{◌≡◌, length, sym, ◌∙◌, ap, subst, arith, append-nil}
use Rattle.std.proofs.lemmas.List.{length-map}
use Rattle.std.specs.List.{AllByRecursion}
use Rattle.dw_tree.specs.declared.tree.EntryTree.TheInside.{Inside}
use Rattle.dw_tree.specs.Tree.{unit_tree}
use Rattle.dw_tree.specs.Row.{rows_of, rows_bytes}
use Rattle.dw_tree.specs.PoolBytes.{held}
use Rattle.dw_tree.specs.RowHeads.{rows_heads}
use Rattle.dw_tree.specs.Flat.{token_at}
use Rattle.dw_tree.specs.Sizes.{AreShort, rows_short}
use Rattle.dw_tree.specs.Steps.{TreeAt}
use Rattle.dw_tree.specs.TreeView.{tree_at, tokens_in, IsTree}
use Rattle.dw_tree.specs.DraftInvariant.{Stand, TokenFits}
use Rattle.dw_tree.proofs.Fits.{tree_fits}
use Rattle.dw_tree.proofs.Spelled.{tree_spelled, all_tokens_fit}

module _ (a : Inside) (i : IsTree a) where
  abbrev u : TreeAt
  u = tree_at a

  here : rows_bytes a.context a.table.value (tokens_in a) ≡ (unit_tree u.context u.table).spell u.root
  here =
      ap (rows_bytes a.context a.table.value) i.one_tree
      ∙ sym (tree_spelled a.context a.table.value u.root a.start a.rows.items (subst (Stand a.context a.table.value a.start 1 a.rows.items) i.one_tree i.stand))

  pub spelled_as : (v : TreeAt) → tree_at a ≡ v → rows_bytes a.context a.table.value (tokens_in a) ≡ (unit_tree v.context v.table).spell v.root
  spelled_as v e = here ∙ ap (λ (w : TreeAt). (unit_tree w.context w.table).spell w.root) e

  pub fits_as : (v : TreeAt) → tree_at a ≡ v → (unit_tree v.context v.table).Fits v.root
  fits_as v e = subst (λ (w : TreeAt). (unit_tree w.context w.table).Fits w.root) e
      (tree_fits a.context a.table.value u.root a.start a.rows.items (subst (Stand a.context a.table.value a.start 1 a.rows.items) i.one_tree i.stand))

  pub tokens_fit : AllByRecursion (TokenFits a.context a.table.value) (tokens_in a)
  tokens_fit = all_tokens_fit a.context a.table.value a.start 1 a.rows.items (tokens_in a) i.stand

  -- ---- what the lists have

  pub rows_are : (v : TreeAt) → tree_at a ≡ v → length a.rows.items ≡ length (rows_of v.root)
  rows_are v e =
      sym (length-map a.rows.items (token_at a.context a.table.value a.heads.items a.pool.items))
      ∙ (ap length i.one_tree ∙ ap (λ (w : TreeAt). length (rows_of w.root)) e)

  pub heads_kept : (v : TreeAt) → tree_at a ≡ v → a.heads.items ≡ rows_heads v.context v.table 0 (rows_of v.root)
  heads_kept v e =
      i.exact.heads_are
      ∙ (append-nil (rows_heads a.context a.table.value 0 (tokens_in a))
      ∙ (ap (rows_heads a.context a.table.value 0) i.one_tree ∙ ap (λ (w : TreeAt). rows_heads w.context w.table 0 (rows_of w.root)) e))

  pub content_kept : (v : TreeAt) → tree_at a ≡ v → a.pool.items ≡ held (rows_of v.root)
  content_kept v e = i.exact.pool_is ∙ (append-nil (held (tokens_in a)) ∙ (ap held i.one_tree ∙ ap (λ (w : TreeAt). held (rows_of w.root)) e))

  pub tree_short : (v : TreeAt) → tree_at a ≡ v → AreShort (length a.rows.items) (length a.heads.items) (length a.pool.items) (length ((unit_tree v.context v.table).spell v.root))
  tree_short v e =
      let all = rows_short a.context a.table.value (tokens_in a) 0 tokens_fit in
      let bytes = ap length (spelled_as v e) in
      record {
        rows_short = omega (arith, all.rows_short, bytes, length-map a.rows.items (token_at a.context a.table.value a.heads.items a.pool.items));
        heads_short = omega (arith, all.heads_short, bytes, ap length (i.exact.heads_are ∙ append-nil (rows_heads a.context a.table.value 0 (tokens_in a))));
        content_short = omega (arith, all.content_short, bytes, ap length (i.exact.pool_is ∙ append-nil (held (tokens_in a))));
      }
