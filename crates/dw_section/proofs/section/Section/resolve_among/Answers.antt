use Rattle.std.proofs.Common.{◌≡◌, ◌∙◌, ap, sym, ℕ, List, Option, Some, true}
use Rattle.std.specs.Prelude.{Ok}
use Rattle.dw_form.specs.Form.{at_number}
use Rattle.dw_unit.specs.Unit.{WholeUnit}
use Rattle.dw_section.specs.declared.resolve.RefKind.{RefKind}
use Rattle.dw_section.specs.declared.resolve.RefKind.TheVariants.{InUnit}
use Rattle.dw_section.specs.EntryOffsets.{AreEntryOffsets, is_marked}
use Rattle.dw_section.specs.Item.{Item}
use Rattle.dw_section.specs.Lookup.{unit_at}
use Rattle.dw_section.specs.Reference.{named_by, named_if, ref_forms}
use Rattle.dw_section.proofs.Named.{unit_there, ok_names}
use Rattle.dw_section.proofs.section.Section.resolve_among.Goals as goal

-- a number that is marked names the entry that begins there
marked_named : (items : List Item) (item offset : ℕ) (u : WholeUnit) (words : List ℕ) (kind : Option RefKind) → kind ≡ Some InUnit → AreEntryOffsets u words → is_marked words offset ≡ true → named_by items item u offset kind ≡ Ok (record { item = item; offset = offset })
marked_named items item offset u words kind is begins marked = ap (named_by items item u offset) is ∙ begins item offset marked

pub returns-then-knows-clause-named : goal.returns-then-knows-clause-named
returns-then-knows-clause-named c u there =
    let items = c.args.self.now.items in
    let item = c.args.from.item in
    let offset = c.in-Some.offset in
    let form = c.args.attr.now.form in
    let kind : at_number form ref_forms ≡ Some InUnit = sym c.of.ensures ∙ c.in-Some-InUnit.is ∙ ap (λ (k : RefKind). Some k) c.in-Some-InUnit.field-0-is in
    sym (ap (named_if items item u form) (sym c.as_number.ensures ∙ c.in-Some.is)
    ∙ marked_named items item offset u c.args.begins.now (at_number form ref_forms) kind (c.requires.known u there) (sym c.knows.ensures ∙ c.if-knows.true))

pub returns-then-knows-clause-entry : goal.returns-then-knows-clause-entry
returns-then-knows-clause-entry c =
    let items = c.args.self.now.items in
    let item = c.args.from.item in
    let offset = c.in-Some.offset in
    let form = c.args.attr.now.form in
    let kind : at_number form ref_forms ≡ Some InUnit = sym c.of.ensures ∙ c.in-Some-InUnit.is ∙ ap (λ (k : RefKind). Some k) c.in-Some-InUnit.field-0-is in
    let there = unit_there (unit_at items item) c.requires.unit in
    ok_names items item form offset there.0 there.1 (Ok (record { item = item; offset = offset }))
    (sym (marked_named items item offset there.0 c.args.begins.now (at_number form ref_forms) kind (c.requires.known there.0 there.1) (sym c.knows.ensures ∙ c.if-knows.true)))
