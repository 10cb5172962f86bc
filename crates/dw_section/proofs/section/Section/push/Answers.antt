use Rattle.std.proofs.Common.{◌≡◌, None, ap, rules}
use Rattle.dw_section.specs.ItemView.{item_of}
use Rattle.dw_section.specs.Push.{push_refusal, allowed_fits}
use Rattle.dw_section.proofs.section.Section.push.Goals as goal

pub keep-requires : goal.keep-requires
keep-requires c =
    let allowed : push_refusal c.args.self.now c.args.unit ≡ None = search rules in
    allowed_fits c.args.self.now c.args.unit allowed c.refuse.ensures.fits

pub unit_of-requires : goal.unit_of-requires
unit_of-requires c = (c.args.unit, ap item_of c.in-Err.ensures.handed_back)
