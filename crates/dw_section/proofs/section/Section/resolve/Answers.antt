use Rattle.std.proofs.Common.{◌∙◌, ap, Option}
use Rattle.dw_section.specs.declared.resolve.RefKind.{RefKind}
use Rattle.dw_section.specs.Reference.{named_by}
use Rattle.dw_section.specs.Lookup.{unit_at}
use Rattle.dw_section.proofs.Named.{unit_there, ok_names}
use Rattle.dw_section.proofs.section.Section.resolve.Goals as goal

pub returns-in-Some-clause-entry : goal.returns-in-Some-clause-entry
returns-in-Some-clause-entry c =
    let items = c.args.self.now.items in
    let item = c.args.from.item in
    let there = unit_there (unit_at items item) c.requires in
    let is = c.named_by.ensures there.0 there.1 ∙ ap (λ (k : Option RefKind). named_by items item there.0 c.in-Some.value k) c.of.ensures in
    ok_names items item c.args.attr.now.form c.in-Some.value there.0 there.1 c.named_by.result is
