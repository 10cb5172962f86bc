use Rattle.std.proofs.Common.{◌≡◌, length, map, drop}
use Rattle.dw_section.specs.ItemView.{item_of}
use Rattle.dw_strings.specs.TextView.{sections_of}
use Rattle.dw_tool.specs.Find.{found_items, found_text}
use Rattle.dw_tool.proofs.Finding.{Finds}
use Rattle.dw_tool.proofs.find.push_found.Given as goal

-- the lines of the items before these are there
abbrev pub invariant-loop-item : goal.invariant-loop-item
invariant-loop-item g l = let texts = sections_of l.fn.strings in
    record {
      finds : Finds g.W.Write.contents l.fn.out l.out l.found (found_items texts l.fn.section.items l.number l.fn.name (map item_of l.left)) (found_text texts l.fn.name l.fn.section);
      left : drop l.number l.fn.section.items ≡ map item_of l.left;
    }

abbrev pub decreases-loop-item : goal.decreases-loop-item
decreases-loop-item g l = length l.left
