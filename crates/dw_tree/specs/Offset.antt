-- An entry by its path of child numbers: the entry itself, its offset, and where what follows it begins.
use Rattle.std.specs.Prelude.{ℕ, zero, suc, ◌+◌, List, [], ◌∷◌, length, Option, Some, None}
use Rattle.dw_leb.specs.Number.{uleb}
use Rattle.dw_form.specs.declared.shape.Ctx.{Ctx}
use Rattle.dw_abbrev.specs.Table.{Table}
use Rattle.dw_tree.specs.Tree.{Tree, leaf, branch, Forest, none, more}
use Rattle.dw_tree.specs.Spelling.{entry_bytes, tree_bytes}

-- the entry that a path leads to, with all that is below it
unfoldable mutual
  pub node_at : Tree → List ℕ → Option Tree
  node_at (leaf code vs) [] = Some (leaf code vs)
  node_at (leaf code vs) (i ∷ path) = None
  node_at (branch code vs ts w) [] = Some (branch code vs ts w)
  node_at (branch code vs ts w) (i ∷ path) = node_in ts i path

  pub node_in : Forest → ℕ → List ℕ → Option Tree
  node_in none i path = None
  node_in (more x ts) zero path = node_at x path
  node_in (more x ts) (suc i) path = node_in ts i path

-- a first child begins just after its parent's code and values, a next sibling just after the tree before it
unfoldable mutual
  pub offset_at : Ctx → Table → ℕ → Tree → List ℕ → Option ℕ
  offset_at k t base (leaf code vs) [] = Some base
  offset_at k t base (leaf code vs) (i ∷ path) = None
  offset_at k t base (branch code vs ts w) [] = Some base
  offset_at k t base (branch code vs ts w) (i ∷ path) =
      offset_in k t (base + length (entry_bytes k t code vs)) ts i path

  pub offset_in : Ctx → Table → ℕ → Forest → ℕ → List ℕ → Option ℕ
  offset_in k t base none i path = None
  offset_in k t base (more x ts) zero path = offset_at k t base x path
  offset_in k t base (more x ts) (suc i) path = offset_in k t (base + length (tree_bytes k t x)) ts i path

-- where what follows the entry and those below it begins, its own null included
unfoldable mutual
  pub end_at : Ctx → Table → ℕ → Tree → List ℕ → Option ℕ
  end_at k t base (leaf code vs) [] = Some (base + length (tree_bytes k t (leaf code vs)))
  end_at k t base (leaf code vs) (i ∷ path) = None
  end_at k t base (branch code vs ts w) [] = Some (base + length (tree_bytes k t (branch code vs ts w)))
  end_at k t base (branch code vs ts w) (i ∷ path) = end_in k t (base + length (entry_bytes k t code vs)) ts i path

  pub end_in : Ctx → Table → ℕ → Forest → ℕ → List ℕ → Option ℕ
  end_in k t base none i path = None
  end_in k t base (more x ts) zero path = end_at k t base x path
  end_in k t base (more x ts) (suc i) path = end_in k t (base + length (tree_bytes k t x)) ts i path

-- each code of the tree has a spelling
unfoldable mutual
  pub CodesFit : Tree → Type 0
  CodesFit (leaf code vs) = uleb.Fits code
  CodesFit (branch code vs ts w) = uleb.Fits code × AllCodesFit ts

  pub AllCodesFit : Forest → Type 0
  AllCodesFit none = Unit {0}
  AllCodesFit (more x ts) = CodesFit x × AllCodesFit ts
