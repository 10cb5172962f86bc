use Rattle.std.proofs.Common.{◌≡◌, length}
use Rattle.std.specs.Prelude.{IsSome}
use Rattle.dw_abbrev.specs.PairView.{pair_of}
use Rattle.dw_feed.specs.FeedInvariant.{left as left_of}
use Rattle.dw_feed.specs.ValueSteps.{InValue}
use Rattle.dw_feed.specs.ValueCut.{IsCutHere}
use Rattle.dw_feed.proofs.unit_in_parts.UnitInParts.rest_of_value.Given as goal

-- bytes of the value went from the piece to those that are kept
abbrev pub invariant-loop-width : goal.invariant-loop-width
invariant-loop-width l = record {
  at : InValue l.fn.self l.fn.b (pair_of l.pair) l.self l.rest;
  named : l.pair.form.value ≡ 0x16 → IsSome l.self.named;
  lim_is : l.lim ≡ left_of l.self;
  cut : IsCutHere (pair_of l.pair) l.self;
}

abbrev pub decreases-loop-width : goal.decreases-loop-width
decreases-loop-width l = length l.rest
