use Rattle.std.proofs.Common.{◌≡◌, ◌++◌, length, None, []}
use Rattle.dw_feed.specs.BodyFeed.{part}
use Rattle.dw_feed.specs.FeedInvariant.{left as left_of}
use Rattle.dw_feed.specs.PlainFeed.{holding}
use Rattle.dw_feed.specs.FieldSteps.{Standing, FrontsWait}
use Rattle.dw_feed.proofs.unit_in_parts.UnitInParts.code_in_parts.Given as goal

-- bytes of the number went from the piece to those that are kept
abbrev pub invariant-loop-code : goal.invariant-loop-code
invariant-loop-code l = record {
  same : holding l.fn.self [] ≡ holding l.self [];
  all : part l.self ++ l.rest ≡ part l.fn.self ++ l.fn.b;
  free : l.self.place.unfinished ≡ None;
  named : l.self.named ≡ None;
  to_come : l.self.to_come ≡ 0;
  stands : Standing l.self;
  waits : FrontsWait l.self (part l.self);
  lim_is : l.lim ≡ left_of l.self;
}

abbrev pub decreases-loop-code : goal.decreases-loop-code
decreases-loop-code l = length l.rest
