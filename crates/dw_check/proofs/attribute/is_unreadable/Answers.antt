use Rattle.std.proofs.Common.{◌≡◌, ◌∙◌, Some, Ok, ℕ, sym, ap, subst}
use Rattle.dw_form.specs.Lent.{attribute_of}
use Rattle.dw_section.specs.Lookup.{unit_at}
use Rattle.dw_strings.specs.Text.{named_place}
use Rattle.dw_strings.specs.TextView.{place_of, sections_of, seen_place}
use Rattle.dw_check.proofs.Stored.{only_str}
use Rattle.dw_check.proofs.attribute.is_unreadable.Goals as goal

pub has_none-requires : goal.has_none-requires
has_none-requires c =
    let p = c.args.place.now in
    let a = c.args.attribute.now in
    let known : unit_at p.section.now.items c.id_in-id.result.item ≡ Some p.unit.now = subst (λ (n : ℕ). unit_at p.section.now.items n ≡ Some p.unit.now) (sym c.id_in-id.ensures) c.requires.place.known in
    let answered : named_place (sections_of p.strings.now) p.unit.now a.form (attribute_of a.attr).value ≡ Ok (place_of c.in-Ok.text) = sym (c.place.ensures p.unit.now known) ∙ ap seen_place c.in-Ok.is in
    only_str (sections_of p.strings.now) p.unit.now a.form (attribute_of a.attr).value (place_of c.in-Ok.text) c.requires.stored c.requires.other answered
