-- The numbers by which C is told of faults and refusals.
use Rattle.std.specs.Prelude.{ℕ}
use Rattle.dw_leb.specs.declared.errors.Reason.{Reason}
use Rattle.dw_leb.specs.declared.errors.Reason.TheVariants as reason
use Rattle.dw_leb.specs.declared.errors.SectionId.{SectionId}
use Rattle.dw_leb.specs.declared.errors.SectionId.TheVariants as section
use Rattle.dw_ctype.specs.declared.fault.TypeError.{TypeError}
use Rattle.dw_ctype.specs.declared.fault.TypeError.TheVariants as typing
use Rattle.dw_section.specs.declared.id.RefFault.{RefFault}
use Rattle.dw_section.specs.declared.id.RefFault.TheVariants as reference
use Rattle.dw_section.specs.declared.set_refusal.SetRefusal.{SetRefusal}
use Rattle.dw_section.specs.declared.set_refusal.SetRefusal.TheVariants as setting
use Rattle.dw_section.specs.declared.refusal.SectionRefusal.{SectionRefusal}
use Rattle.dw_section.specs.declared.refusal.SectionRefusal.TheVariants as pushes
use Rattle.dw_strings.specs.declared.fault.StrFault.{StrFault}
use Rattle.dw_strings.specs.declared.fault.StrFault.TheVariants as text

abbrev pub section_number : SectionId → ℕ
section_number section.Info = 0
section_number section.Abbrev = 1

abbrev pub reason_number : Reason → ℕ
reason_number reason.Truncated = 1
reason_number reason.PastUnit = 2
reason_number reason.ReservedLength = 3
reason_number reason.BadVersion = 4
reason_number reason.BadUnitType = 5
reason_number reason.BadAddressSize = 6
reason_number reason.LebTooLong = 7
reason_number reason.LebTooBig = 8
reason_number reason.NoRoot = 9
reason_number reason.UnknownCode = 10
reason_number reason.UnknownForm = 11
reason_number reason.BadIndirect = 12
reason_number reason.TooDeep = 13
reason_number reason.SecondRoot = 14
reason_number reason.AbbrevOffset = 15
reason_number reason.BadChildren = 16
reason_number reason.HalfPair = 17
reason_number reason.DuplicateCode = 18
reason_number reason.TooManyPairs = 19
reason_number reason.LengthTooBig = 20

abbrev pub reference_number : RefFault → ℕ
reference_number reference.NotReference = 1
reference_number reference.OutsideUnit = 2
reference_number reference.OutsideSection = 3
reference_number reference.NotAnEntry = 4
reference_number reference.InOther = 5
reference_number reference.NoSignature = 6
reference_number reference.BadTypeOffset = 7
reference_number reference.Supplementary = 8

abbrev pub text_number : StrFault → ℕ
text_number text.NotText = 1
text_number text.PastSection = 2
text_number text.NoZero = 3
text_number text.NoBase = 4
text_number text.PastOffsets = 5
text_number text.Supplementary = 6

abbrev pub setting_number : SetRefusal → ℕ
setting_number setting.NoEntry = 1
setting_number setting.NoAttribute = 2
setting_number setting.NotANumber = 3
setting_number setting.InTable = 4
setting_number setting.DoesNotFit = 5
setting_number setting.BadTarget = 6

abbrev pub push_number : SectionRefusal → ℕ
push_number pushes.WrongOrder = 1
push_number pushes.WrongVersion = 2
push_number pushes.TooLong = 3
push_number pushes.NoMemory = 4

abbrev pub type_number : TypeError → ℕ
type_number typing.NoEntry = 1
type_number typing.TypeTooBig = 2
type_number typing.NoMemory = 3
