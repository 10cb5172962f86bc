use Rattle.std.proofs.Common.{◌≡◌, drop}
use Rattle.std.specs.Prelude.{map, ◌↔◌}
use Rattle.dw_form.specs.Lent.{attribute_of}
use Rattle.dw_abbrev.specs.PairView.{pair_of}
use Rattle.dw_tree.specs.Tree.{values}
use Rattle.dw_unit.proofs.given.values_fit.Given as goal

-- all fit where those from this pair's on do
abbrev pub invariant-loop-pair : goal.invariant-loop-pair
invariant-loop-pair l =
    record {
      counted : l.at ≡ l.pair-index;
      fit : (values l.ctx (drop l.at (map pair_of l.pairs))).Fits (drop l.at (map attribute_of l.values)) ↔ (values l.ctx (map pair_of l.pairs)).Fits (map attribute_of l.values);
    }
