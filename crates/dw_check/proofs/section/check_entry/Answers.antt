use Rattle.std.proofs.Common.{◌∙◌, refl, sym}
use Rattle.dw_check.specs.Place.{unit_in}
use Rattle.dw_check.proofs.Behind.{next_found, repeats_end}
use Rattle.dw_check.proofs.section.check_entry.Goals as goal

pub loop-repeated-preserved-in-Some-next_number : goal.loop-repeated-preserved-in-Some-next_number
loop-repeated-preserved-in-Some-next_number c =
    next_found c.loop-repeated.invariant c.in-Some-next_number.ensures.some c.in-Some.ensures.cases.0 c.in_ok-check_number.ensures

pub loop-repeated-preserved-in-Some-next_bare : goal.loop-repeated-preserved-in-Some-next_bare
loop-repeated-preserved-in-Some-next_bare c =
    let first = sym (c.in_default-next_number.ensures.none refl) ∙ c.in-Some-next_bare.ensures.some in
    next_found c.loop-repeated.invariant first c.in-Some.ensures.cases.0 c.in_ok-check_bare.ensures

pub loop-repeated-preserved : goal.loop-repeated-preserved
loop-repeated-preserved c =
    let first = sym (c.in_default-next_number.ensures.none refl) ∙ sym (c.in_default-next_bare.ensures.none refl) ∙ c.in-Some-next.ensures.steps in
    next_found c.loop-repeated.invariant first c.in-Some.ensures.cases.0 c.in_ok-check_attribute-in-Some-next.ensures

pub returns : goal.returns
returns c =
    repeats_end (unit_in c.args.place.now) c.args.entry.now c.args.found.now.items c.loop-repeated.found.items c.loop-repeated.position c.loop-repeated.attributes c.loop-repeated.left.now c.args.repeats.now
    c.loop-repeated.invariant c.in_default.ensures.cases
