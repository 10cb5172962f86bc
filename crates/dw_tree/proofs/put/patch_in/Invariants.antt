use Rattle.std.proofs.Common.{◌≡◌, ◌≤◌, length, map, drop}
use Rattle.std.specs.Prelude.{option_map}
use Rattle.dw_abbrev.specs.PairView.{pair_of}
use Rattle.dw_tree.specs.RowHeads.{Here}
use Rattle.dw_tree.specs.Patch.{patch_in, moved}
use Rattle.dw_tree.proofs.put.patch_in.Given as goal

-- the values so far have other names
abbrev pub invariant-loop-pair : goal.invariant-loop-pair
invariant-loop-pair l =
    record {
      rest : patch_in l.ctx l.name l.number (map pair_of l.pairs) l.heads l.pool ≡ option_map (moved l.at) (patch_in l.ctx l.name l.number (map pair_of l.left) (drop l.at l.heads) l.pool);
      here : Here l.ctx (map pair_of l.left) (drop l.at l.heads) l.pool;
      within : l.at ≤ length l.heads;
    }

abbrev pub decreases-loop-pair : goal.decreases-loop-pair
decreases-loop-pair l = length l.left
