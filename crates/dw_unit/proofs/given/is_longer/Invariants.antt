use Rattle.std.proofs.Common.{◌≡◌, ◌+◌, ◌≤◌, drop, length}
use Rattle.std.specs.Prelude.{map}
use Rattle.dw_form.specs.Lent.{attribute_of}
use Rattle.dw_abbrev.specs.PairView.{pair_of}
use Rattle.dw_tree.specs.Tree.{values}
use Rattle.dw_unit.proofs.given.is_longer.Given as goal

-- the size of the values before this pair's is counted
abbrev pub invariant-loop-pair : goal.invariant-loop-pair
invariant-loop-pair l =
    record {
      counted : l.at ≡ l.pair-index;
      fits : (values l.ctx (drop l.at (map pair_of l.pairs))).Fits (drop l.at (map attribute_of l.values));
      sized : l.size + length ((values l.ctx (drop l.at (map pair_of l.pairs))).spell (drop l.at (map attribute_of l.values))) ≡ l.fn.code.width + length ((values l.ctx (map pair_of l.pairs)).spell (map attribute_of l.values));
      within : l.size ≤ l.room;
    }
