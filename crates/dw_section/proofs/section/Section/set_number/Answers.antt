use mir.Syntax.{w128}
use Rattle.std.proofs.Common.{◌≡◌, ℤ, refl, sym, ap, subst, ◌∙◌, arith, rules, to_z, of_z}
use Rattle.std.proofs.lemmas.Int.{to_z-of_z}
use Rattle.dw_section.specs.Section.{SectionFits}
use Rattle.dw_section.specs.SectionLaws.{written_is_read}
use Rattle.dw_section.specs.SetNumber.{set_refusal}
use Rattle.dw_section.proofs.SetSection.{not_now_refused, item_within, base_within, unit_takes, is_edited, size_stays, offsets_stay, tables_stay, is_still}
use Rattle.dw_section.proofs.section.Section.set_number.Goals as goal

pub returns-in-Some-clause-refused : goal.returns-in-Some-clause-refused
returns-in-Some-clause-refused c =
    let same : to_z w128 (of_z w128 c.args.number) ≡ c.args.number = to_z-of_z w128 c.args.number c.ranges.number in
    ap (λ (x : ℤ). set_refusal c.args.self.now c.args.id c.args.name x) (sym same)
    ∙ (sym c.refuse_number.ensures ∙ c.in-Some.is)

pub returns-in-Some-clause-offsets : goal.returns-in-Some-clause-offsets
returns-in-Some-clause-offsets c = (refl, refl)

pub returns-in-Some-clause-read_back : goal.returns-in-Some-clause-read_back
returns-in-Some-clause-read_back c abbreviations tables =
    written_is_read abbreviations c.args.self.now (subst SectionFits c.self.view_is c.self.invariant.fits) tables

pub index_mut-requires : goal.index_mut-requires
index_mut-requires c =
    let w = item_within c.self.inside.items.items c.self.invariant c.self.view_is c.args.id c.args.name
    (to_z-of_z w128 c.args.number c.ranges.number) c.refuse_number.ensures (search rules) in
    omega (arith, w)

pub put_in_item-base-requires : goal.put_in_item-base-requires
put_in_item-base-requires c =
    unit_takes c.self.inside.items.items c.self.invariant c.self.view_is c.args.id c.args.name
    (to_z-of_z w128 c.args.number c.ranges.number) c.refuse_number.ensures (search rules) c.index_mut.ensures.value

pub index_mut-requires-2 : goal.index_mut-requires-2
index_mut-requires-2 c =
    let w = base_within c.self.inside.items.items c.self.invariant c.self.view_is c.args.id c.args.name
    (to_z-of_z w128 c.args.number c.ranges.number) c.refuse_number.ensures (search rules) in
    omega (arith, w)

pub invariant_of-self : goal.invariant_of-self
invariant_of-self c =
    is_still c.self.inside.items.items c.self.invariant c.self.view_is c.args.id c.args.name
    (to_z-of_z w128 c.args.number c.ranges.number) c.refuse_number.ensures (search rules) c.index_mut.ensures.value
    c.put_in_item-base.new.item c.put_in_item-base.ensures.put c.put_in_item-base.ensures.keeps
    c.put_in_item-base.ensures.base

pub returns-clause-set : goal.returns-clause-set
returns-clause-set c =
    is_edited c.self.inside.items.items c.self.invariant c.self.view_is c.args.id c.args.name
    (to_z-of_z w128 c.args.number c.ranges.number) c.refuse_number.ensures (search rules) c.index_mut.ensures.value
    c.put_in_item-base.new.item c.put_in_item-base.ensures.put c.put_in_item-base.ensures.keeps

pub returns-clause-allowed : goal.returns-clause-allowed
returns-clause-allowed c =
    not_now_refused c.self.inside.items.items c.self.invariant c.self.view_is c.args.id c.args.name
    (to_z-of_z w128 c.args.number c.ranges.number) c.refuse_number.ensures (search rules)

pub returns-clause-size : goal.returns-clause-size
returns-clause-size c =
    size_stays c.self.inside.items.items c.self.invariant c.self.view_is c.args.id c.args.name
    (to_z-of_z w128 c.args.number c.ranges.number) c.refuse_number.ensures (search rules) c.index_mut.ensures.value
    c.put_in_item-base.new.item c.put_in_item-base.ensures.put c.put_in_item-base.ensures.keeps

pub returns-clause-offsets : goal.returns-clause-offsets
returns-clause-offsets c =
    offsets_stay c.self.inside.items.items c.self.invariant c.self.view_is c.args.id c.args.name
    (to_z-of_z w128 c.args.number c.ranges.number) c.refuse_number.ensures (search rules) c.index_mut.ensures.value
    c.put_in_item-base.new.item c.put_in_item-base.ensures.put c.put_in_item-base.ensures.keeps

pub returns-clause-read_back : goal.returns-clause-read_back
returns-clause-read_back c abbreviations tables =
    let still = is_still c.self.inside.items.items c.self.invariant c.self.view_is c.args.id c.args.name
    (to_z-of_z w128 c.args.number c.ranges.number) c.refuse_number.ensures (search rules) c.index_mut.ensures.value
    c.put_in_item-base.new.item c.put_in_item-base.ensures.put c.put_in_item-base.ensures.keeps
    c.put_in_item-base.ensures.base in
    let held = tables_stay c.self.inside.items.items c.self.invariant c.self.view_is c.args.id c.args.name
    (to_z-of_z w128 c.args.number c.ranges.number) c.refuse_number.ensures (search rules) c.index_mut.ensures.value
    c.put_in_item-base.new.item c.put_in_item-base.ensures.put c.put_in_item-base.ensures.keeps abbreviations tables in
    written_is_read abbreviations _ still.fits held
