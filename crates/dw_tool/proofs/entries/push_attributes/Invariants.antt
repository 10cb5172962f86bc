use Rattle.std.proofs.Common.{length}
use Rattle.dw_strings.specs.TextView.{sections_of}
use Rattle.dw_tool.specs.Pieces.{next_attributes}
use Rattle.dw_tool.proofs.Appending.{Reaches}
use Rattle.dw_tool.proofs.entries.push_attributes.Given as goal

-- the lines of the attributes before these are there
abbrev pub invariant-loop-number : goal.invariant-loop-number
invariant-loop-number g l = let text = next_attributes (sections_of l.fn.origin.strings.now) l.fn.origin.section.now.items l.fn.origin.from.item in
    Reaches g.W.Write.contents l.fn.out l.out (text l.left) (text l.fn.attributes)

abbrev pub decreases-loop-number : goal.decreases-loop-number
decreases-loop-number g l = length l.left
