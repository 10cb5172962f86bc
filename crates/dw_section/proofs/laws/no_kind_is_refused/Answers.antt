use Rattle.dw_section.proofs.KindFaults.{no_kind_faults}
use Rattle.dw_section.proofs.laws.no_kind_is_refused.Goals as goal

pub returns : goal.returns
returns c = record { faults = no_kind_faults }
