use Rattle.std.proofs.Common.{◌∙◌, sym, ap}
use Rattle.dw_section.specs.Lookup.{ok_of}
use Rattle.dw_section.specs.Found.{found_begins, each_found}
use Rattle.dw_section.proofs.section.Section.find.Goals as goal

pub returns-in-Ok-clause-found : goal.returns-in-Ok-clause-found
returns-in-Ok-clause-found c = found_begins c.args.self.now.items c.args.section_offset c.in-Ok.id (sym c.in-Ok.ensures.named)

pub returns-in-Ok-clause-each : goal.returns-in-Ok-clause-each
returns-in-Ok-clause-each c id e h =
    let same = c.in-Ok.ensures.named ∙ each_found c.args.self.now c.args.section_offset id e c.in-Ok.ensures.fits h in
    ap ok_of same

pub returns-in-Err-clause-each : goal.returns-in-Err-clause-each
returns-in-Err-clause-each c id e h =
    let same = c.in-Err.ensures.named ∙ each_found c.args.self.now c.args.section_offset id e c.in-Err.ensures.fits h in
    ap ok_of same
