use Rattle.std.proofs.Common.{sym, subst}
use Rattle.dw_section.specs.EntryOffsets.{AreEntryOffsets}
use Rattle.dw_section.proofs.Marked.{none_marked}
use Rattle.dw_section.proofs.entry_offsets.EntryOffsets.new.Goals as goal

pub returns-clause-known : goal.returns-clause-known
returns-clause-known c u = subst (AreEntryOffsets u) (sym c.new.ensures.items) (none_marked u)
