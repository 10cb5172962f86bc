use Rattle.std.specs.Prelude.{map}
use Rattle.dw_abbrev.specs.PairView.{pair_of}
use Rattle.std.proofs.Common.{◌≡◌, None, drop}
use Rattle.dw_leb.specs.Watch.{inner_of, fault_of}
use Rattle.dw_abbrev.specs.Spelling.{pairs_bytes}
use Rattle.dw_leb.specs.PartlyWritten.{PartlyWritten}
use Rattle.dw_abbrev.proofs.pair.write_pairs.Given as goal

-- the pairs before this one are written
abbrev pub invariant-loop-pair : goal.invariant-loop-pair
invariant-loop-pair g l =
    record {
      written : PartlyWritten (g.W.Write.contents (inner_of l.fn.writer)) (g.W.Write.contents (inner_of l.writer)) (pairs_bytes (map pair_of (drop l.pair-index l.pairs))) (pairs_bytes (map pair_of l.pairs));
      clear : fault_of l.writer ≡ None;
    }
