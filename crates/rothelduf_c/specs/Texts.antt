-- Where a text stands, as C is told.
use Rattle.std.specs.Prelude.{◌≡◌, ◌<◌, ℕ, List, length, Result, Ok, Err}
use Rattle.dw_form.specs.Form.{Num}
use Rattle.dw_unit.specs.Unit.{WholeUnit}
use Rattle.dw_strings.specs.declared.fault.StrFault.{StrFault}
use Rattle.dw_strings.specs.Text.{StringSections, Place, Own, InStr, InLineStr, named_place, named_text}
use Rattle.dw_section.specs.Section.{WholeSection}
use Rattle.dw_section.specs.declared.id.EntryId.{EntryId}
use Rattle.dw_ctype.specs.Answer.{answer}
use Rattle.dw_ctype.specs.declared.fault.TypeError.{TypeError}
use Rattle.rothelduf_c.specs.declared.structs.CText.{CText}

-- it begins at this place
abbrev pub IsAt : CText → Place → Type 0
IsAt t (Own bytes) = (t.section ≡ 0) × (t.offset ≡ 0)
IsAt t (InStr offset) = (t.section ≡ 1) × (t.offset ≡ offset)
IsAt t (InLineStr offset) = (t.section ≡ 2) × (t.offset ≡ offset)

-- the text that a number of a form names begins there, and has so many bytes
pub record IsTextOf (s : StringSections) (u : WholeUnit) (form number : ℕ) (t : CText) : Type 0 where
  pub place : Place
  pub bytes : List ℕ
  pub place_is : named_place s u form (Num number) ≡ Ok place
  pub at : IsAt t place
  pub text_is : named_text s u form (Num number) ≡ Ok bytes
  pub length_is : length bytes ≡ t.length

-- the sections of texts that C passes
abbrev pub strings_of : List ℕ → List ℕ → List ℕ → StringSections
strings_of str line_str str_offsets = record { str = str; line_str = line_str; str_offsets = str_offsets }

-- the type of an entry with a name, as a declaration in C, or why it isn't told
abbrev pub type_of : WholeSection → StringSections → EntryId → List ℕ → Result (List ℕ) TypeError
type_of s strings id name = answer (record { items = s.items; strings = strings }) id name

-- it is a text of so many bytes, more than there is room for
abbrev pub IsLonger : Result (List ℕ) TypeError → ℕ → ℕ → Type 0
IsLonger (Ok text) room count = (count ≡ length text) × (room < count)
IsLonger (Err why) room count = ⊥

-- no text is named there, for this reason
abbrev pub IsNoText : StringSections → WholeUnit → ℕ → ℕ → StrFault → Type 0
IsNoText s u form number why = named_text s u form (Num number) ≡ Err why
