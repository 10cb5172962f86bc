-- The texts of reasons and faults.
use Rattle.std.specs.Prelude.{List, ℕ, ◌++◌, codes, false}
use Rattle.std.specs.Fmt.{digits}
use Rattle.dw_leb.specs.declared.errors.Fault.{Fault}
use Rattle.dw_leb.specs.declared.errors.Reason.{Reason}
use Rattle.dw_leb.specs.declared.errors.Reason.TheVariants as reasons
use Rattle.dw_leb.specs.declared.errors.SectionId.{SectionId}
use Rattle.dw_leb.specs.declared.errors.SectionId.TheVariants as sections

-- the name of a reason
abbrev pub reason_name : Reason → List ℕ
reason_name reasons.Truncated = codes "Truncated"
reason_name reasons.PastUnit = codes "PastUnit"
reason_name reasons.ReservedLength = codes "ReservedLength"
reason_name reasons.BadVersion = codes "BadVersion"
reason_name reasons.BadUnitType = codes "BadUnitType"
reason_name reasons.BadAddressSize = codes "BadAddressSize"
reason_name reasons.LebTooLong = codes "LebTooLong"
reason_name reasons.LebTooBig = codes "LebTooBig"
reason_name reasons.NoRoot = codes "NoRoot"
reason_name reasons.UnknownCode = codes "UnknownCode"
reason_name reasons.UnknownForm = codes "UnknownForm"
reason_name reasons.BadIndirect = codes "BadIndirect"
reason_name reasons.TooDeep = codes "TooDeep"
reason_name reasons.SecondRoot = codes "SecondRoot"
reason_name reasons.AbbrevOffset = codes "AbbrevOffset"
reason_name reasons.BadChildren = codes "BadChildren"
reason_name reasons.HalfPair = codes "HalfPair"
reason_name reasons.DuplicateCode = codes "DuplicateCode"
reason_name reasons.TooManyPairs = codes "TooManyPairs"
reason_name reasons.LengthTooBig = codes "LengthTooBig"

-- a section without the `.debug_` of its name
abbrev pub section_name : SectionId → List ℕ
section_name sections.Info = codes "info"
section_name sections.Abbrev = codes "abbrev"

-- `fault info 0x11 Truncated`: the section, where the field begins, in hexadecimal digits, and why it is refused
abbrev pub fault_text : Fault → List ℕ
fault_text f =
    codes "fault "
    ++ (section_name f.section ++ (codes " 0x" ++ (digits 16 false f.offset ++ (codes " " ++ reason_name f.reason))))
