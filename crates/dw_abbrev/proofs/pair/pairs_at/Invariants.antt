use Rattle.dw_abbrev.specs.PairView.{pair_of}
use Rattle.std.proofs.Common.{◌≤◌, ◌-◌, length}
use Rattle.std.specs.Prelude.{map}
use Rattle.dw_abbrev.specs.Table.{is_end, pair_parts}
use Rattle.dw_abbrev.specs.ReadTable.{read_names, read_constant}
use Rattle.dw_abbrev.specs.Build.{ArePairs}
use Rattle.dw_abbrev.specs.Place.{ReadTo}
use Rattle.dw_abbrev.proofs.pair.pairs_at.Given as goal

-- the pairs up to here are read
abbrev pub invariant-loop-name : goal.invariant-loop-name
invariant-loop-name l =
    record {
      read : ReadTo (λ before. read_names (length before)) is_end read_constant l.abbreviations l.at (map pair_parts (map pair_of l.list.items)) l.here;
      pairs : ArePairs (map pair_of l.list.items);
      within : l.here ≤ length l.abbreviations;
    }

abbrev pub decreases-loop-name : goal.decreases-loop-name
decreases-loop-name l = length l.abbreviations - l.here
