-- Worked rows: numbers, texts and initial lengths, computed by the plain reader.
use Rattle.std.specs.Prelude.{pos, negsuc, ◌≡◌, ◌∷◌, []}
use Rattle.std.proofs.Common.{refl}
use Rattle.dw_leb.specs.declared.errors.Reason.TheVariants.{Truncated, PastUnit, LebTooLong, LebTooBig, ReservedLength, LengthTooBig}
use Rattle.dw_leb.specs.declared.order.Order.TheVariants.{Little, Big}
use Rattle.dw_leb.specs.declared.order.Format.TheVariants.{Dwarf32, Dwarf64}
use Rattle.dw_leb.specs.Number.{uleb, sleb, length_limit}
use Rattle.dw_leb.specs.Reader.{Found, Broken}
use Rattle.dw_leb.specs.ReadNumber.{read_fixed, read_uleb, read_sleb, read_text, read_length}

-- ---- fixed numbers

three_bytes_little : read_fixed Little 3 (0x01 ∷ 0x02 ∷ 0x03 ∷ []) 99 ≡ Found 197121 3
three_bytes_little = refl

three_bytes_big : read_fixed Big 3 (0x01 ∷ 0x02 ∷ 0x03 ∷ []) 99 ≡ Found 66051 3
three_bytes_big = refl

bytes_after_a_number : read_fixed Little 2 (0x01 ∷ 0x02 ∷ 0x03 ∷ []) 2 ≡ Found 513 2
bytes_after_a_number = refl

fixed_past_the_unit : read_fixed Little 4 (0x01 ∷ 0x02 ∷ []) 3 ≡ Broken 0 PastUnit
fixed_past_the_unit = refl

fixed_cut : read_fixed Little 4 (0x01 ∷ 0x02 ∷ []) 4 ≡ Broken 0 Truncated
fixed_cut = refl

-- ---- unsigned LEB128

greatest_unsigned : read_uleb (0xff ∷ 0xff ∷ 0xff ∷ 0xff ∷ 0xff ∷ 0xff ∷ 0xff ∷ 0xff ∷ 0xff ∷ 0x01 ∷ []) 99 ≡ Found (record { value = 18446744073709551615; width = 10 }) 10
greatest_unsigned = refl

unsigned_too_big : read_uleb (0xff ∷ 0xff ∷ 0xff ∷ 0xff ∷ 0xff ∷ 0xff ∷ 0xff ∷ 0xff ∷ 0xff ∷ 0x02 ∷ []) 99 ≡ Broken 0 LebTooBig
unsigned_too_big = refl

sixteen_without_an_end : read_uleb (0x80 ∷ 0x80 ∷ 0x80 ∷ 0x80 ∷ 0x80 ∷ 0x80 ∷ 0x80 ∷ 0x80 ∷ 0x80 ∷ 0x80 ∷ 0x80 ∷ 0x80 ∷ 0x80 ∷ 0x80 ∷ 0x80 ∷ 0x80 ∷ []) 99 ≡ Broken 0 LebTooLong
sixteen_without_an_end = refl

-- sixteen bytes without an end are too long even where the unit ends with them
sixteen_up_to_the_units_end : read_uleb (0x80 ∷ 0x80 ∷ 0x80 ∷ 0x80 ∷ 0x80 ∷ 0x80 ∷ 0x80 ∷ 0x80 ∷ 0x80 ∷ 0x80 ∷ 0x80 ∷ 0x80 ∷ 0x80 ∷ 0x80 ∷ 0x80 ∷ 0x80 ∷ []) 16 ≡ Broken 0 LebTooLong
sixteen_up_to_the_units_end = refl

fifteen_up_to_the_units_end : read_uleb (0x80 ∷ 0x80 ∷ 0x80 ∷ 0x80 ∷ 0x80 ∷ 0x80 ∷ 0x80 ∷ 0x80 ∷ 0x80 ∷ 0x80 ∷ 0x80 ∷ 0x80 ∷ 0x80 ∷ 0x80 ∷ 0x80 ∷ 0x80 ∷ []) 15 ≡ Broken 0 PastUnit
fifteen_up_to_the_units_end = refl

zero_in_sixteen_bytes : read_uleb (0x80 ∷ 0x80 ∷ 0x80 ∷ 0x80 ∷ 0x80 ∷ 0x80 ∷ 0x80 ∷ 0x80 ∷ 0x80 ∷ 0x80 ∷ 0x80 ∷ 0x80 ∷ 0x80 ∷ 0x80 ∷ 0x80 ∷ 0x00 ∷ []) 99 ≡ Found (record { value = 0; width = 16 }) 16
zero_in_sixteen_bytes = refl

zero_in_sixteen_bytes_spelled : uleb.spell (record { value = 0; width = 16 }) ≡ 0x80 ∷ 0x80 ∷ 0x80 ∷ 0x80 ∷ 0x80 ∷ 0x80 ∷ 0x80 ∷ 0x80 ∷ 0x80 ∷ 0x80 ∷ 0x80 ∷ 0x80 ∷ 0x80 ∷ 0x80 ∷ 0x80 ∷ 0x00 ∷ []
zero_in_sixteen_bytes_spelled = refl

unended_at_the_units_end : read_uleb (0x80 ∷ 0x80 ∷ []) 2 ≡ Broken 0 PastUnit
unended_at_the_units_end = refl

unended_at_the_inputs_end : read_uleb (0x80 ∷ 0x80 ∷ []) 3 ≡ Broken 0 Truncated
unended_at_the_inputs_end = refl

-- ---- signed LEB128

minus_one : read_sleb (0x7f ∷ []) 99 ≡ Found (record { value = negsuc 0; width = 1 }) 1
minus_one = refl

minus_one_padded : read_sleb (0xff ∷ 0x7f ∷ []) 99 ≡ Found (record { value = negsuc 0; width = 2 }) 2
minus_one_padded = refl

minus_sixty_four : read_sleb (0x40 ∷ []) 99 ≡ Found (record { value = negsuc 63; width = 1 }) 1
minus_sixty_four = refl

sixty_four : read_sleb (0xc0 ∷ 0x00 ∷ []) 99 ≡ Found (record { value = pos 64; width = 2 }) 2
sixty_four = refl

sixty_four_spelled : sleb.spell (record { value = pos 64; width = 2 }) ≡ 0xc0 ∷ 0x00 ∷ []
sixty_four_spelled = refl

least_signed : read_sleb (0x80 ∷ 0x80 ∷ 0x80 ∷ 0x80 ∷ 0x80 ∷ 0x80 ∷ 0x80 ∷ 0x80 ∷ 0x80 ∷ 0x7f ∷ []) 99 ≡ Found (record { value = negsuc 9223372036854775807; width = 10 }) 10
least_signed = refl

signed_too_big : read_sleb (0x80 ∷ 0x80 ∷ 0x80 ∷ 0x80 ∷ 0x80 ∷ 0x80 ∷ 0x80 ∷ 0x80 ∷ 0x80 ∷ 0x01 ∷ []) 99 ≡ Broken 0 LebTooBig
signed_too_big = refl

-- ---- texts

text_a : read_text (0x61 ∷ 0x00 ∷ 0x62 ∷ []) 99 ≡ Found (0x61 ∷ []) 2
text_a = refl

text_past_the_unit : read_text (0x61 ∷ 0x62 ∷ []) 2 ≡ Broken 0 PastUnit
text_past_the_unit = refl

text_cut : read_text (0x61 ∷ 0x62 ∷ []) 3 ≡ Broken 0 Truncated
text_cut = refl

zero_behind_the_unit : read_text (0x61 ∷ 0x62 ∷ 0x00 ∷ []) 2 ≡ Broken 0 PastUnit
zero_behind_the_unit = refl

-- ---- initial lengths

greatest_short_length : read_length Little 0 (0xef ∷ 0xff ∷ 0xff ∷ 0xff ∷ []) length_limit ≡ Found (Dwarf32, 0xffffffef) 4
greatest_short_length = refl

big_endian_length : read_length Big 0 (0x00 ∷ 0x00 ∷ 0x00 ∷ 0x0b ∷ []) length_limit ≡ Found (Dwarf32, 11) 4
big_endian_length = refl

long_length : read_length Little 0 (0xff ∷ 0xff ∷ 0xff ∷ 0xff ∷ 0x0f ∷ 0x00 ∷ 0x00 ∷ 0x00 ∷ 0x00 ∷ 0x00 ∷ 0x00 ∷ 0x00 ∷ []) length_limit ≡ Found (Dwarf64, 15) 12
long_length = refl

reserved_length_alone : read_length Little 0 (0xf0 ∷ 0xff ∷ 0xff ∷ 0xff ∷ []) length_limit ≡ Broken 0 ReservedLength
reserved_length_alone = refl

length_cut : read_length Little 0 (0xf0 ∷ 0xff ∷ 0xff ∷ []) length_limit ≡ Broken 0 Truncated
length_cut = refl

long_length_cut : read_length Little 0 (0xff ∷ 0xff ∷ 0xff ∷ 0xff ∷ 0x00 ∷ []) length_limit ≡ Broken 0 Truncated
long_length_cut = refl

length_of_ff : read_length Little 0 (0xff ∷ 0xff ∷ 0xff ∷ 0xff ∷ 0xff ∷ 0xff ∷ 0xff ∷ 0xff ∷ 0xff ∷ 0xff ∷ 0xff ∷ 0xff ∷ []) length_limit ≡ Broken 0 LengthTooBig
length_of_ff = refl

-- the end of this unit is 2^63 - 1
longest_unit : read_length Little 0 (0xff ∷ 0xff ∷ 0xff ∷ 0xff ∷ 0xf3 ∷ 0xff ∷ 0xff ∷ 0xff ∷ 0xff ∷ 0xff ∷ 0xff ∷ 0x7f ∷ []) length_limit ≡ Found (Dwarf64, 9223372036854775795) 12
longest_unit = refl

longest_unit_a_byte_later : read_length Little 1 (0xff ∷ 0xff ∷ 0xff ∷ 0xff ∷ 0xf3 ∷ 0xff ∷ 0xff ∷ 0xff ∷ 0xff ∷ 0xff ∷ 0xff ∷ 0x7f ∷ []) length_limit ≡ Broken 0 LengthTooBig
longest_unit_a_byte_later = refl
