use Rattle.std.proofs.Common.{sym}
use Rattle.dw_tree.specs.Lent.{attr_of}
use Rattle.dw_strings.specs.TextView.{sections_of}
use Rattle.dw_tool.proofs.Placed.{nothing_named}
use Rattle.dw_tool.proofs.entries.push_named.Goals as goal

pub returns-in-Nothing : goal.returns-in-Nothing
returns-in-Nothing g c =
    nothing_named g.W.Write.contents (sections_of c.args.origin.now.strings.now) c.args.origin.now.section.now.items c.args.origin.now.from.item (attr_of c.args.attribute.now) c.args.out.now
    (sym c.in-Nothing.ensures.entry) (sym c.in-Nothing.ensures.text) c.requires.clear
