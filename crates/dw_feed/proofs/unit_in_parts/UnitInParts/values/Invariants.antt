use Rattle.std.proofs.Common.{◌≡◌, ◌<◌, None, length, drop, map}
use Rattle.dw_abbrev.specs.PairView.{pair_of}
use Rattle.dw_tree.specs.Steps.{partial_in}
use Rattle.dw_feed.specs.BodyFeed.{pairs_left}
use Rattle.dw_feed.specs.EntrySteps.{NoneKept, TakesOn}
use Rattle.dw_feed.specs.FeedInvariant.{context, frames_of, left}
use Rattle.dw_feed.proofs.unit_in_parts.UnitInParts.values.Given as goal

-- the values before this pair's are taken
abbrev pub invariant-loop-pair : goal.invariant-loop-pair
invariant-loop-pair l = record {
  on : TakesOn l.fn.self l.b l.self l.rest;
  inside : 0 < length (frames_of l.self);
  none_kept : NoneKept l.self;
  between : partial_in l.self.place.unfinished ≡ None;
  context_is : l.context ≡ context l.self;
  lim_is : l.lim ≡ left l.self;
  pairs_are : pairs_left l.self.table l.self.place.unfinished ≡ drop l.pair-index (map pair_of l.pair-items);
}
