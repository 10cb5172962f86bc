-- Headers read by a plain, slow reader.
use Rattle.std.specs.Prelude.{ℕ, ◌+◌, Bool, true, false, List, [], ◌∷◌, drop, ◌==◌, if◌then◌else◌}
use Rattle.dw_leb.specs.declared.order.Order.{Order}
use Rattle.dw_leb.specs.declared.order.Format.{Format}
use Rattle.dw_leb.specs.Number.{offset_size, length_limit}
use Rattle.dw_leb.specs.Reader.{Outcome, Found, Broken, Reader, made, checked, returned, ◌and_then◌}
use Rattle.dw_leb.specs.ReadNumber.{read_fixed, read_length}
use Rattle.dw_header.specs.declared.kind.Kind.{Kind}
use Rattle.dw_header.specs.declared.kind.Kind.TheVariants.{Compile, Partial, TypeUnit, Skeleton, Four}
use Rattle.dw_header.specs.declared.versions.Versions.{Versions}
use Rattle.dw_header.specs.Header.{Header, added_sizes, bad_version_under, bad_type, bad_address_size, Fields, FiveFields, FourFields}

abbrev pub read_numbers : Order → List ℕ → Reader (List ℕ)
read_numbers order [] = returned []
read_numbers order (n ∷ ns) = made (λ x. x.0 ∷ x.1) (read_fixed order n and_then λ _. read_numbers order ns)

abbrev pub first_number : List ℕ → ℕ
first_number [] = 0
first_number (x ∷ xs) = x

abbrev pub second_number : List ℕ → ℕ
second_number [] = 0
second_number (x ∷ xs) = first_number xs

abbrev pub kind_from : ℕ → List ℕ → Kind
kind_from kind added =
    if kind == 1 then Compile
    else (if kind == 2 then TypeUnit (first_number added) (second_number added)
    else (if kind == 3 then Partial else Skeleton (first_number added)))

abbrev pub five_from : FiveFields → Fields
five_from x = record { kind = kind_from x.0 x.1.1.1; address_size = x.1.0; abbrev_offset = x.1.1.0 }

abbrev pub read_five : Order → Format → Reader Fields
read_five order format = made five_from
    (checked (read_fixed order 1) bad_type
    and_then λ kind. checked (read_fixed order 1) bad_address_size
    and_then λ _. read_fixed order (offset_size format)
    and_then λ _. read_numbers order (added_sizes format kind))

abbrev pub four_from : FourFields → Fields
four_from x = record { kind = Four; address_size = x.1; abbrev_offset = x.0 }

abbrev pub read_four : Order → Format → Reader Fields
read_four order format =
    made four_from (read_fixed order (offset_size format) and_then λ _. checked (read_fixed order 1) bad_address_size)

abbrev pub read_behind : Order → Format → Bool → Reader Fields
read_behind order format true = read_four order format
read_behind order format false = read_five order format

unfoldable pub read_fields : Versions → Order → Format → Reader Fields
read_fields versions order format =
    made (λ x. x.1)
    (checked (read_fixed order 2) (bad_version_under versions) and_then
    λ version. read_behind order format (version == 4))

abbrev pub header_from : Order → Format → Fields → Header
header_from order format x =
    record
    { order = order; format = format; kind = x.kind; address_size = x.address_size; abbrev_offset = x.abbrev_offset }

-- ---- with the initial length before it

-- a header and its unit_length
abbrev pub Heading : Type 0
Heading = Header × ℕ

abbrev pub head_fields : Order → Format → ℕ → ℕ → Outcome Fields → Outcome Heading
head_fields order format n before (Found x size) = Found (header_from order format x, n) (before + size)
head_fields order format n before (Broken offset reason) = Broken (before + offset) reason

abbrev pub head_length : Versions → Order → List ℕ → Outcome (Format × ℕ) → Outcome Heading
head_length versions order bytes (Found x size) =
    head_fields order x.0 x.1 size (read_fields versions order x.0 (drop size bytes) x.1)
head_length versions order bytes (Broken offset reason) = Broken offset reason

abbrev pub read_head : Versions → Order → List ℕ → Outcome Heading
read_head versions order bytes = head_length versions order bytes (read_length order 0 bytes length_limit)
