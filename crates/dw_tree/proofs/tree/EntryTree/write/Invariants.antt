use Rattle.std.proofs.Common.{◌≡◌, ◌++◌, None, length}
use Rattle.std.specs.List.{AllByRecursion}
use Rattle.dw_leb.specs.Watch.{inner_of, fault_of}
use Rattle.dw_leb.specs.PartlyWritten.{PartlyWritten}
use Rattle.dw_tree.specs.Row.{rows_bytes}
use Rattle.dw_tree.specs.Flat.{tokens_at, RowReads}
use Rattle.dw_tree.specs.DraftInvariant.{TokenFits}
use Rattle.dw_tree.proofs.tree.EntryTree.write.Given as goal

-- the rows before these are written, but for the bytes that are gathered
abbrev pub invariant-loop-row : goal.invariant-loop-row
invariant-loop-row g l =
    record {
      written : PartlyWritten (g.W.Write.contents (inner_of l.fn.writer)) (g.W.Write.contents (inner_of l.writer))
          (l.gathered.items ++ rows_bytes l.self-inside.context l.self-inside.table.value (tokens_at l.self-inside.context l.self-inside.table.value l.left l.self-inside.heads.items l.self-inside.pool.items))
          (rows_bytes l.self-inside.context l.self-inside.table.value (tokens_at l.self-inside.context l.self-inside.table.value l.self-inside.rows.items l.self-inside.heads.items l.self-inside.pool.items));
      inside : AllByRecursion (RowReads l.self-inside.context l.self-inside.table.value l.self-inside.heads.items l.self-inside.pool.items) l.left;
      fits : AllByRecursion (TokenFits l.self-inside.context l.self-inside.table.value) (tokens_at l.self-inside.context l.self-inside.table.value l.left l.self-inside.heads.items l.self-inside.pool.items);
      clear : fault_of l.writer ≡ None;
    }

abbrev pub decreases-loop-row : goal.decreases-loop-row
decreases-loop-row g l = length l.left
