use Rattle.std.proofs.Common.{length}
use Rattle.dw_check.specs.Place.{unit_in}
use Rattle.dw_check.proofs.Behind.{FoundSoFar}
use Rattle.dw_check.proofs.section.check_entry.Given as goal

-- the findings of the attributes before these are there
abbrev pub invariant-loop-repeated : goal.invariant-loop-repeated
invariant-loop-repeated l = FoundSoFar (unit_in l.fn.place) l.fn.entry l.fn.found.items l.found.items l.position l.attributes l.left l.fn.repeats

abbrev pub decreases-loop-repeated : goal.decreases-loop-repeated
decreases-loop-repeated l = length l.left
