use Rattle.std.proofs.Common.{sym, ◌∙◌}
use Rattle.dw_abbrev.specs.Parts.{told_by}
use Rattle.dw_abbrev.proofs.Counted.{counted}
use Rattle.dw_abbrev.proofs.prefix.FixedPrefix.count_form.Goals as goal

pub returns-clause-prefix : goal.returns-clause-prefix
returns-clause-prefix c counts ps p is_prefix all same =
    counted ps p c.args.self.now is_prefix all (told_by c.args.form) same (sym c.is_told.ensures ∙ c.if-not-is_told.false) c.add.new.self c.bytes_of.result c.addresses_of.result c.offsets_of.result
    c.bytes_of.ensures.bytes c.addresses_of.ensures.addresses c.offsets_of.ensures.offsets c.add.ensures.count c.add.ensures.bytes c.add.ensures.addresses c.add.ensures.offsets
