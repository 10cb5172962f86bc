use Rattle.std.proofs.Common.{length}
use Rattle.dw_strings.specs.TextView.{sections_of}
use Rattle.dw_tool.specs.Show.{entries_text}
use Rattle.dw_tool.proofs.Appending.{Reaches}
use Rattle.dw_tool.proofs.entries.push_entries.Given as goal

-- the texts of the entries before these are there
abbrev pub invariant-loop-entry : goal.invariant-loop-entry
invariant-loop-entry g l = let text = entries_text (sections_of l.fn.place.strings.now) l.fn.place.section.now.items l.fn.place.item in
    Reaches g.W.Write.contents l.fn.out l.out (text l.entry-iterator) (text l.fn.entries)

abbrev pub decreases-loop-entry : goal.decreases-loop-entry
decreases-loop-entry g l = length l.entry-iterator
