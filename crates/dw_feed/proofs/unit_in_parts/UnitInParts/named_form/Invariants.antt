use Rattle.std.proofs.Common.{◌≡◌, length, None}
use Rattle.dw_abbrev.specs.PairView.{pair_of}
use Rattle.dw_feed.specs.FeedInvariant.{left as left_of}
use Rattle.dw_feed.specs.ValueSteps.{InValue}
use Rattle.dw_feed.proofs.unit_in_parts.UnitInParts.named_form.Given as goal

-- bytes of the number went from the piece to those that are kept
abbrev pub invariant-loop-form : goal.invariant-loop-form
invariant-loop-form l = record {
  at : InValue l.fn.self l.fn.b (pair_of l.pair) l.self l.rest;
  indirect : l.pair.form.value ≡ 0x16;
  unnamed : l.self.named ≡ None;
  lim_is : l.lim ≡ left_of l.self;
}

abbrev pub decreases-loop-form : goal.decreases-loop-form
decreases-loop-form l = length l.rest
