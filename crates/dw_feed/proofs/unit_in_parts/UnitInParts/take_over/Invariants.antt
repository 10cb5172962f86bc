use Rattle.std.proofs.Common.{◌≡◌, ◌++◌, length}
use Rattle.std.specs.Prelude.{IfSome}
use Rattle.dw_feed.specs.BodyFeed.{part}
use Rattle.dw_feed.specs.FeedSteps.{At}
use Rattle.dw_feed.specs.FieldSteps.{HasPart, Waits, FirstStands}
use Rattle.dw_feed.specs.FieldTurns.{turns}
use Rattle.dw_feed.proofs.unit_in_parts.UnitInParts.take_over.Given as goal

abbrev pub invariant-loop-over : goal.invariant-loop-over
invariant-loop-over l = record {
  at : At l.fn.self l.fn.piece l.self (part l.self ++ l.left);
  has : HasPart l.self;
  waits : Waits l.self;
  first : FirstStands l.fn.self l.fn.piece l.self l.left;
  over : IfSome l.table (λ t. t.now ≡ l.self.table);
}

abbrev pub decreases-loop-over : goal.decreases-loop-over
decreases-loop-over l = turns l.self (length l.left)
