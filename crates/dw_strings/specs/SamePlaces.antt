-- Where a text begins is told by the string offsets alone.
use Rattle.std.specs.Prelude.{◌≡◌, ℕ, Bool, true, false, Option, None, Some, ◌==◌, if◌then◌else◌}
use Rattle.std.proofs.Common.{refl}
use Rattle.dw_form.specs.Form.{Value, at_number}
use Rattle.dw_form.specs.Lent.{number_in, text_in}
use Rattle.dw_unit.specs.Unit.{WholeUnit}
use Rattle.dw_section.specs.StringBase.{base_of}
use Rattle.dw_strings.specs.declared.form.StoredIn.{StoredIn}
use Rattle.dw_strings.specs.declared.form.StoredIn.TheVariants.{Str, LineStr, StrOffsets, Elsewhere}
use Rattle.dw_strings.specs.Text.{StringSections, own_text, by_index, by_number, stored, stored_forms, named_place}

module _ (one other : StringSections) (offsets : one.str_offsets ≡ other.str_offsets) (u : WholeUnit) where
  stored_same : (v : ℕ) (place : Option StoredIn) → stored one u v place ≡ stored other u v place
  stored_same v None = refl
  stored_same v (Some Str) = refl
  stored_same v (Some LineStr) = refl
  stored_same v (Some Elsewhere) = refl
  stored_same v (Some StrOffsets) = by (base_of u)
    where
      by : (base : Option ℕ) → by_index one u.header base v ≡ by_index other u.header base v
      by None = refl
      by (Some base) = rw offsets refl

  numbered_same : (form : ℕ) (v : Option ℕ) → by_number one u form v ≡ by_number other u form v
  numbered_same form None = refl
  numbered_same form (Some v) = stored_same v (at_number form stored_forms)

  pub placed_same : (form : ℕ) (value : Value) → named_place one u form value ≡ named_place other u form value
  placed_same form value = by (form == 0x08)
    where
      by : (v : Bool)
          → (if v then own_text (text_in value) else by_number one u form (number_in value))
          ≡ (if v then own_text (text_in value) else by_number other u form (number_in value))
      by true = refl
      by false = numbered_same form (number_in value)
