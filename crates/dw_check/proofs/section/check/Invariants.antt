use Rattle.std.proofs.Common.{length, map}
use Rattle.dw_section.specs.ItemView.{item_of}
use Rattle.dw_strings.specs.TextView.{sections_of}
use Rattle.dw_check.proofs.Items.{ItemsSoFar}
use Rattle.dw_check.proofs.section.check.Given as goal

-- the findings of the items before these are there
abbrev pub invariant-loop-item : goal.invariant-loop-item
invariant-loop-item l = ItemsSoFar l.fn.section (sections_of l.fn.strings) l.found.items l.number l.start (map item_of l.left)

abbrev pub decreases-loop-item : goal.decreases-loop-item
decreases-loop-item l = length l.left
