use Rattle.std.proofs.Common.{◌≡◌, Some, refl, ◌∙◌, rules}
use Rattle.dw_form.specs.declared.size.FormSize.TheVariants.{Offset}
use Rattle.dw_abbrev.specs.Parts.{told_by}
use Rattle.dw_abbrev.proofs.Counted.{counted}
use Rattle.dw_abbrev.proofs.prefix.FixedPrefix.count_high.Goals as goal

pub returns-clause-prefix : goal.returns-clause-prefix
returns-clause-prefix c counts ps p is_prefix all same =
    let told : told_by c.args.form ≡ Some Offset = search rules in
    counted ps p c.args.self.now is_prefix all (Some Offset) (same ∙ told) refl c.add.new.self 0 0 1 refl refl refl c.add.ensures.count c.add.ensures.bytes c.add.ensures.addresses c.add.ensures.offsets
