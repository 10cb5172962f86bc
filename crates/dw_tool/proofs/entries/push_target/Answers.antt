use Rattle.std.proofs.Common.{◌∙◌, sym}
use Rattle.dw_tool.proofs.Placed.{start_is}
use Rattle.dw_tool.proofs.entries.push_target.Goals as goal

pub returns-in-Some : goal.returns-in-Some
returns-in-Some g c =
    let start = start_is c.args.section.now.items c.in-Ok.id.item c.in-Some.start (sym c.start.ensures ∙ c.in-Some.is) in
    rw c.in-Ok.is (rw start at c.push_offset.ensures)
