use Rattle.std.proofs.Common.{length}
use Rattle.dw_strings.specs.TextView.{sections_of}
use Rattle.dw_tool.specs.Find.{found_entries}
use Rattle.dw_tool.proofs.Finding.{Finds}
use Rattle.dw_tool.proofs.find.push_found_entries.Given as goal

-- the lines of the entries before these are there
abbrev pub invariant-loop-entry : goal.invariant-loop-entry
invariant-loop-entry g l = let text = found_entries (sections_of l.fn.place.strings.now) l.fn.place.section.now.items l.fn.place.item l.fn.name in
    Finds g.W.Write.contents l.fn.out l.out l.found (text l.entry-iterator) (text l.fn.entries)

abbrev pub decreases-loop-entry : goal.decreases-loop-entry
decreases-loop-entry g l = length l.entry-iterator
