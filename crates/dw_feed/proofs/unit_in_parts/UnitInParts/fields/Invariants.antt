use Rattle.std.proofs.Common.{◌≡◌, None, length}
use Rattle.dw_tree.specs.Steps.{partial_in}
use Rattle.dw_feed.specs.EntrySteps.{NoneKept, TakesOn}
use Rattle.dw_feed.proofs.unit_in_parts.UnitInParts.fields.Given as goal

-- the fields before are taken, and none of a value is there
abbrev pub invariant-loop-size : goal.invariant-loop-size
invariant-loop-size l = record {
  on : TakesOn l.fn.self l.b l.self l.rest;
  none_kept : NoneKept l.self;
  between : partial_in l.self.place.unfinished ≡ None;
}

abbrev pub decreases-loop-size : goal.decreases-loop-size
decreases-loop-size l = length l.rest
