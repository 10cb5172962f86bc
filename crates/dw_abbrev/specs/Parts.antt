-- What a value adds to the size of its entry, where its form tells it.
use Rattle.std.specs.Prelude.{◌==◌, if◌then◌else◌, ℕ, Option, Some, None}
use Rattle.dw_leb.specs.Constants.{DW_FORM_implicit_const}
use Rattle.dw_form.specs.declared.size.FormSize.{FormSize}
use Rattle.dw_form.specs.declared.size.FormSize.TheVariants.{Bytes}
use Rattle.dw_form.specs.FormSize.{told_form}
use Rattle.dw_abbrev.specs.Prefix.{bytes_in, addresses_in, offsets_in}

-- what the form of a pair tells, where a pair has a constant exactly under form 0x21
abbrev pub told_by : ℕ → Option FormSize
told_by form = if form == DW_FORM_implicit_const then Some (Bytes 0) else told_form form

abbrev pub bytes_or : Option FormSize → ℕ
bytes_or None = 0
bytes_or (Some s) = bytes_in s

abbrev pub addresses_or : Option FormSize → ℕ
addresses_or None = 0
addresses_or (Some s) = addresses_in s

abbrev pub offsets_or : Option FormSize → ℕ
offsets_or None = 0
offsets_or (Some s) = offsets_in s
