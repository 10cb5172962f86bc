-- The bytes of entries, by the structure of their tree alone.
use Rattle.std.specs.Prelude.{ℕ, List, [], ◌++◌}
use Rattle.dw_leb.specs.Number.{Unsigned, uleb}
use Rattle.dw_form.specs.declared.shape.Ctx.{Ctx}
use Rattle.dw_form.specs.Form.{Attribute}
use Rattle.dw_abbrev.specs.Table.{Table, declared, zero_of}
use Rattle.dw_tree.specs.Tree.{Tree, leaf, branch, Forest, none, more, values, declared_pairs}

-- a code and its values
abbrev pub entry_bytes : Ctx → Table → Unsigned → List Attribute → List ℕ
entry_bytes k t code vs = uleb.spell code ++ (values k (declared_pairs (declared t code.value))).spell vs

-- the bytes of trees, by their structure alone
unfoldable mutual
  pub tree_bytes : Ctx → Table → Tree → List ℕ
  tree_bytes k t (leaf code vs) = entry_bytes k t code vs
  tree_bytes k t (branch code vs ts w) = entry_bytes k t code vs ++ (forest_bytes k t ts ++ uleb.spell (zero_of w))

  pub forest_bytes : Ctx → Table → Forest → List ℕ
  forest_bytes k t none = []
  forest_bytes k t (more x ts) = tree_bytes k t x ++ forest_bytes k t ts
