use Rattle.dw_tree.specs.Lent.{attr_of}
use Rattle.dw_tool.proofs.Placed.{target_is, target_starts}
use Rattle.dw_tool.proofs.entries.push_reference.Goals as goal

pub returns : goal.returns
returns g c =
    let is = target_is c.args.origin.now.section.now.items c.args.origin.now.from.item (attr_of c.args.attribute.now) c.resolve_among-target.result c.requires.origin.unit c.resolve_among-target.ensures.named in
    rw is at c.push_target.ensures

pub push_target-requires-clause-there : goal.push_target-requires-clause-there
push_target-requires-clause-there g c = target_starts c.args.origin.now.section.now.items c.resolve_among-target.result c.resolve_among-target.ensures.entry
