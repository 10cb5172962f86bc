use Rattle.dw_section.specs.ReferenceLaws.{references_name_entries}
use Rattle.dw_section.proofs.laws.references_name_entries.Goals as goal

pub returns : goal.returns
returns c = record { entries = references_name_entries }
