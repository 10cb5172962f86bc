-- A tree's fields, and what they stand for.
use Rattle.std.specs.Prelude.{◌≡◌, ◌<◌, ◌+◌, ◌^◌, List, [], length}
use Rattle.std.specs.List.{AllByRecursion}
use Rattle.dw_form.specs.Form.{IsContext}
use Rattle.dw_tree.specs.declared.tree.EntryTree.TheInside.{Inside}
use Rattle.dw_tree.specs.Row.{Token, rows_of, rest_of, head_of, rows_bytes}
use Rattle.dw_tree.specs.Steps.{TreeAt}
use Rattle.dw_tree.specs.Flat.{tokens_at, RowReads, RowsAre}
use Rattle.dw_tree.specs.RowHeads.{Account}
use Rattle.dw_tree.specs.DraftInvariant.{HaveEnds, Stand}

abbrev pub tokens_in : Inside → List Token
tokens_in a = tokens_at a.context a.table.value a.rows.items a.heads.items a.pool.items

abbrev pub tree_at : Inside → TreeAt
tree_at a =
    record { context = a.context; table = a.table.value; start = a.start; root = head_of (rest_of (tokens_in a)).here }

pub record IsTree (a : Inside) : Type 0 where
  pub context_fits : IsContext a.context
  pub rows_are : RowsAre a.context a.table.value 0 0 a.rows.items (tokens_in a)
  pub rows_read : AllByRecursion (RowReads a.context a.table.value a.heads.items a.pool.items) a.rows.items
  pub one_tree : tokens_in a ≡ rows_of (head_of (rest_of (tokens_in a)).here)
  pub ends : HaveEnds a.rows.items (tokens_in a) []
  pub stand : Stand a.context a.table.value a.start 1 a.rows.items (tokens_in a)
  pub exact : Account a.context a.table.value (tokens_in a) [] [] a.heads.items a.pool.items
  pub end_is : a.end ≡ a.start + length (rows_bytes a.context a.table.value (tokens_in a))
  pub near : a.end < 2 ^ 63
