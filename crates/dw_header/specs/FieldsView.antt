-- The fields of a header, as the program holds them.
use Rattle.std.specs.Prelude.{ℕ, List}
use Rattle.dw_header.specs.Header.{Fields, kind_number, kind_fields}
use Rattle.dw_header.specs.declared.fields.HeaderFields.{HeaderFields}

abbrev pub after_type : HeaderFields → ℕ × (ℕ × List ℕ)
after_type f = (f.address_size, (f.abbrev_offset, kind_fields f.kind))

abbrev pub after_version : HeaderFields → ℕ × (ℕ × (ℕ × List ℕ))
after_version f = (kind_number f.kind, after_type f)

abbrev pub all_fields : HeaderFields → Fields
all_fields f = record { kind = f.kind; address_size = f.address_size; abbrev_offset = f.abbrev_offset }
