use Rattle.std.proofs.Common.{◌≡◌, None, length, map}
use Rattle.dw_leb.specs.Watch.{inner_of, fault_of}
use Rattle.dw_leb.specs.PartlyWritten.{PartlyWritten}
use Rattle.dw_section.specs.ItemView.{item_of}
use Rattle.dw_section.specs.Section.{items_bytes}
use Rattle.dw_section.proofs.writer.write_items.Given as goal

-- the items before these are written
abbrev pub invariant-loop-item : goal.invariant-loop-item
invariant-loop-item g l =
    record {
      written : PartlyWritten (g.W.Write.contents (inner_of l.fn.writer)) (g.W.Write.contents (inner_of l.writer)) (items_bytes (map item_of l.left)) (items_bytes (map item_of l.items));
      clear : fault_of l.writer ≡ None;
    }

abbrev pub decreases-loop-item : goal.decreases-loop-item
decreases-loop-item g l = length l.left
