use Rattle.std.proofs.Common.{◌≡◌, length, map, drop}
use Rattle.dw_section.specs.ItemView.{item_of}
use Rattle.dw_strings.specs.TextView.{sections_of}
use Rattle.dw_tool.specs.Show.{items_text, section_text}
use Rattle.dw_tool.proofs.Appending.{Reaches}
use Rattle.dw_tool.proofs.show.push_section.Given as goal

-- the texts of the items before these are there
abbrev pub invariant-loop-item : goal.invariant-loop-item
invariant-loop-item g l =
    record {
      reaches : Reaches g.W.Write.contents l.fn.out l.out (items_text (sections_of l.fn.strings) l.fn.section.items l.number (map item_of l.left)) (section_text (sections_of l.fn.strings) l.fn.section);
      left : drop l.number l.fn.section.items ≡ map item_of l.left;
    }

abbrev pub decreases-loop-item : goal.decreases-loop-item
decreases-loop-item g l = length l.left
