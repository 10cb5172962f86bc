use Rattle.std.proofs.Common.{map, arith}
use Rattle.dw_section.specs.ItemView.{item_of}
use Rattle.dw_section.specs.Section.{WholeSection}
use Rattle.dw_section.specs.SectionView.{section_end}
use Rattle.dw_section.proofs.section.Section.refuse.Goals as goal

pub overflow_sub-self-inside : goal.overflow_sub-self-inside
overflow_sub-self-inside c =
    let i = c.self.inside in
    let s : WholeSection = record { order = i.order; versions = i.versions; items = map item_of i.items.items } in
    let below = section_end s c.self.invariant.fits in
    omega (arith, below, c.self.invariant.end_is)
