-- The texts of faults: their names.
use Rattle.std.specs.Prelude.{ℕ, List, codes}
use Rattle.dw_strings.specs.declared.fault.StrFault.{StrFault}
use Rattle.dw_strings.specs.declared.fault.StrFault.TheVariants as faults

-- the name of a fault
abbrev pub str_fault_name : StrFault → List ℕ
str_fault_name faults.NotText = codes "NotText"
str_fault_name faults.PastSection = codes "PastSection"
str_fault_name faults.NoZero = codes "NoZero"
str_fault_name faults.NoBase = codes "NoBase"
str_fault_name faults.PastOffsets = codes "PastOffsets"
str_fault_name faults.Supplementary = codes "Supplementary"
