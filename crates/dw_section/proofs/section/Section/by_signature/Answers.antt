use Rattle.std.proofs.Common.{refl, ◌∙◌, ap, sym, map}
use Rattle.dw_section.specs.ItemView.{item_of}
use Rattle.dw_section.specs.Reference.{items_at, by_signature}
use Rattle.dw_section.specs.Lookup.{unit_at}
use Rattle.dw_section.specs.Section.{WholeSection}
use Rattle.dw_section.proofs.Signatures.{names_type}
use Rattle.dw_section.proofs.section.Section.by_signature.Goals as goal

pub type_entry-requires : goal.type_entry-requires
type_entry-requires c =
    let xs = map item_of c.self.inside.items.items in
    let named = names_type xs c.args.signature c.in-Some.id.now (c.in-Some.ensures.value ∙ c.self.invariant.types_are c.args.signature) in
    let there = ap (λ (s : WholeSection). unit_at s.items c.in-Some.id.now.item) (sym c.self.view_is) ∙ named.there in
    rw there refl

pub returns-in-Some : goal.returns-in-Some
returns-in-Some c =
    let xs = map item_of c.self.inside.items.items in
    let named = names_type xs c.args.signature c.in-Some.id.now (c.in-Some.ensures.value ∙ c.self.invariant.types_are c.args.signature) in
    let there = ap (λ (s : WholeSection). unit_at s.items c.in-Some.id.now.item) (sym c.self.view_is) ∙ named.there in
    c.type_entry.ensures named.unit there ∙ sym named.named ∙ ap (λ (s : WholeSection). by_signature (items_at s.items) c.args.signature) c.self.view_is
