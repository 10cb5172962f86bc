-- The texts of faults and refusals: their names.
use Rattle.std.specs.Prelude.{ℕ, List, codes}
use Rattle.dw_section.specs.declared.id.RefFault.{RefFault}
use Rattle.dw_section.specs.declared.id.RefFault.TheVariants as faults
use Rattle.dw_section.specs.declared.set_refusal.SetRefusal.{SetRefusal}
use Rattle.dw_section.specs.declared.set_refusal.SetRefusal.TheVariants as sets
use Rattle.dw_section.specs.declared.refusal.SectionRefusal.{SectionRefusal}
use Rattle.dw_section.specs.declared.refusal.SectionRefusal.TheVariants as refusals

-- why a reference names no entry
abbrev pub ref_fault_name : RefFault → List ℕ
ref_fault_name faults.NotReference = codes "NotReference"
ref_fault_name faults.OutsideUnit = codes "OutsideUnit"
ref_fault_name faults.OutsideSection = codes "OutsideSection"
ref_fault_name faults.NotAnEntry = codes "NotAnEntry"
ref_fault_name faults.InOther = codes "InOther"
ref_fault_name faults.NoSignature = codes "NoSignature"
ref_fault_name faults.BadTypeOffset = codes "BadTypeOffset"
ref_fault_name faults.Supplementary = codes "Supplementary"

-- why a number isn't put
abbrev pub set_refusal_name : SetRefusal → List ℕ
set_refusal_name sets.NoEntry = codes "NoEntry"
set_refusal_name sets.NoAttribute = codes "NoAttribute"
set_refusal_name sets.NotANumber = codes "NotANumber"
set_refusal_name sets.InTable = codes "InTable"
set_refusal_name sets.DoesNotFit = codes "DoesNotFit"
set_refusal_name sets.BadTarget = codes "BadTarget"

-- why a unit isn't added
abbrev pub section_refusal_name : SectionRefusal → List ℕ
section_refusal_name refusals.WrongOrder = codes "WrongOrder"
section_refusal_name refusals.WrongVersion = codes "WrongVersion"
section_refusal_name refusals.TooLong = codes "TooLong"
section_refusal_name refusals.NoMemory = codes "NoMemory"
