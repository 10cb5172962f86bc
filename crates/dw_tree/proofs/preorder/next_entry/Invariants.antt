use Rattle.std.proofs.Common.{ℕ, ◌-◌, ◌<◌, ◌≤◌, length, get_or}
use Rattle.dw_tree.specs.declared.row.Row.{Row}
use Rattle.dw_tree.specs.Flat.{IsNull}
use Rattle.dw_tree.proofs.preorder.next_entry.Given as goal

abbrev pub invariant-loop-at : goal.invariant-loop-at
invariant-loop-at l = record {
  inside : l.at ≤ length l.rows;
  later : l.from ≤ l.at;
  nulls : (i : ℕ) (d : Row) → l.from ≤ i → i < l.at → IsNull (get_or l.rows i d).kind;
}

abbrev pub decreases-loop-at : goal.decreases-loop-at
decreases-loop-at l = length l.rows - l.at
