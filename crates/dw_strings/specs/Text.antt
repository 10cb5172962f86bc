-- What a text form names, and why one names nothing (sections 7.5.5 and 7.26).
use Rattle.std.specs.Prelude.{ℕ, ◌+◌, ◌*◌, Bool, false, List, [], ◌∷◌, length, take, drop, Option, Some, None, Result, Ok, Err, nat_le, ◌==◌, if◌then◌else◌}
use Rattle.std.specs.Str.{bytes_eq}
use Rattle.dw_leb.specs.Constants.{DW_FORM_GNU_strp_alt, DW_FORM_line_strp, DW_FORM_string, DW_FORM_strp}
use Rattle.dw_leb.specs.Constants.{DW_FORM_strp_sup, DW_FORM_strx, DW_FORM_strx1, DW_FORM_strx2, DW_FORM_strx3}
use Rattle.dw_leb.specs.Constants.{DW_FORM_strx4}
use Rattle.dw_leb.specs.declared.order.Order.{Order}
use Rattle.dw_leb.specs.Number.{offset_size}
use Rattle.dw_leb.specs.ReadNumber.{undigits, ordered, before_zero}
use Rattle.dw_form.specs.Form.{Value, at_number}
use Rattle.dw_form.specs.Lent.{number_in, text_in}
use Rattle.dw_header.specs.Header.{Header}
use Rattle.dw_unit.specs.Unit.{WholeUnit}
use Rattle.dw_section.specs.StringBase.{base_of}
use Rattle.dw_strings.specs.declared.fault.StrFault.{StrFault}
use Rattle.dw_strings.specs.declared.fault.StrFault.TheVariants.{NotText, PastSection, NoZero, NoBase, PastOffsets, Supplementary}
use Rattle.dw_strings.specs.declared.form.StoredIn.{StoredIn}
use Rattle.dw_strings.specs.declared.form.StoredIn.TheVariants.{Str, LineStr, StrOffsets, Elsewhere}

-- the bytes of .debug_str, .debug_line_str and .debug_str_offsets
pub record StringSections : Type 0 where
  pub str : List ℕ
  pub line_str : List ℕ
  pub str_offsets : List ℕ

abbrev pub Named : Type 0
Named = Result (List ℕ) StrFault

-- whether it is this text, and not a fault
abbrev pub is_text : List ℕ → Named → Bool
is_text text (Ok bytes) = bytes_eq bytes text
is_text text (Err why) = false

-- ---- at an offset

abbrev pub unless_ended : Option (List ℕ) → Named
unless_ended None = Err NoZero
unless_ended (Some bytes) = Ok bytes

-- the bytes from an offset to before the first zero
abbrev pub text_at : List ℕ → ℕ → Named
text_at section offset =
    if nat_le (length section) offset then Err PastSection else unless_ended (before_zero (drop offset section))

-- ---- by an index

-- the number of so many bytes that begins at a place, if all of them lie there
abbrev pub number_at : Order → ℕ → List ℕ → ℕ → Option ℕ
number_at order size bytes place =
    if nat_le (place + size) (length bytes) then Some (undigits 256 (ordered order (take size (drop place bytes))))
    else None

-- ---- where a text begins

-- it is the value itself, or it begins at an offset of .debug_str or of .debug_line_str
pub data Place : Type 0 where
  Own : List ℕ → Place
  InStr : ℕ → Place
  InLineStr : ℕ → Place

abbrev pub Placed : Type 0
Placed = Result Place StrFault

abbrev pub at_entry : Option ℕ → Placed
at_entry None = Err PastOffsets
at_entry (Some offset) = Ok (InStr offset)

-- the entries of a unit begin at its base, and are offsets of its format in its byte order; a place is a whole number
-- without bound
abbrev pub by_index : StringSections → Header → Option ℕ → ℕ → Placed
by_index s h None index = Err NoBase
by_index s h (Some base) index =
    at_entry (number_at h.order (offset_size h.format) s.str_offsets (base + index * offset_size h.format))

-- the forms of texts that a number names: strp; line_strp; strx, strx1 to strx4; strp_sup, GNU_strp_alt
abbrev pub stored_forms : List (ℕ × StoredIn)
stored_forms =
    (DW_FORM_strp, Str)
    ∷ (DW_FORM_line_strp, LineStr)
    ∷ (DW_FORM_strx, StrOffsets)
    ∷ (DW_FORM_strx1, StrOffsets)
    ∷ (DW_FORM_strx2, StrOffsets)
    ∷ (DW_FORM_strx3, StrOffsets)
    ∷ (DW_FORM_strx4, StrOffsets)
    ∷ (DW_FORM_strp_sup, Elsewhere)
    ∷ (DW_FORM_GNU_strp_alt, Elsewhere)
    ∷ []

abbrev pub stored : StringSections → WholeUnit → ℕ → Option StoredIn → Placed
stored s u v None = Err NotText
stored s u v (Some Str) = Ok (InStr v)
stored s u v (Some LineStr) = Ok (InLineStr v)
stored s u v (Some StrOffsets) = by_index s u.header (base_of u) v
stored s u v (Some Elsewhere) = Err Supplementary

abbrev pub by_number : StringSections → WholeUnit → ℕ → Option ℕ → Placed
by_number s u form None = Err NotText
by_number s u form (Some v) = stored s u v (at_number form stored_forms)

abbrev pub own_text : Option (List ℕ) → Placed
own_text None = Err NotText
own_text (Some bytes) = Ok (Own bytes)

-- where the text begins that a value under a form names in a unit; one of the form string is its own text
abbrev pub named_place : StringSections → WholeUnit → ℕ → Value → Placed
named_place s u form value =
    if form == DW_FORM_string then own_text (text_in value) else by_number s u form (number_in value)

-- ---- by a value

-- the text that begins there
abbrev pub text_in_place : StringSections → Place → Named
text_in_place s (Own bytes) = Ok bytes
text_in_place s (InStr offset) = text_at s.str offset
text_in_place s (InLineStr offset) = text_at s.line_str offset

abbrev pub text_if_placed : StringSections → Placed → Named
text_if_placed s (Err why) = Err why
text_if_placed s (Ok place) = text_in_place s place

-- what a value under a form names in a unit
abbrev pub named_text : StringSections → WholeUnit → ℕ → Value → Named
named_text s u form value = text_if_placed s (named_place s u form value)
