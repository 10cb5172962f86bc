-- The tables of the tests, as they are read.
use Rattle.std.proofs.Common.{◌≡◌, ℕ, List, [], ◌∷◌, refl, sym, ◌∙◌}
use Rattle.dw_leb.specs.Decide.{found, found_value}
use Rattle.dw_abbrev.specs.Table.{Table, TableAt}
use Rattle.dw_abbrev.specs.ReadTable.{read_table, read_table_at}
use Rattle.dw_abbrev.specs.DecideTable.{table_take}
use Rattle.dw_tests.specs.Samples.{two_codes, bare_code}

abbrev two_codes_bytes : List ℕ
two_codes_bytes = 0x01 ∷ 0x11 ∷ 0x01 ∷ 0x03 ∷ 0x08 ∷ 0x00 ∷ 0x00 ∷ 0x02 ∷ 0x24 ∷ 0x00 ∷ 0x0b ∷ 0x0b ∷ 0x00 ∷ 0x00 ∷ 0x00 ∷ []

abbrev bare_bytes : List ℕ
bare_bytes = 0x01 ∷ 0x11 ∷ 0x01 ∷ 0x00 ∷ 0x00 ∷ 0x00 ∷ []

two_codes_read : read_table_at two_codes_bytes 0 ≡ found two_codes 15
unfolding read_table read_table_at
two_codes_read = refl

bare_read : read_table_at bare_bytes 0 ≡ found bare_code 6
unfolding read_table read_table_at
bare_read = refl

pub is_two_codes : (t : Table) → TableAt two_codes_bytes 0 t → t ≡ two_codes
is_two_codes t h = (found_value _ _ _ _ (sym (table_take two_codes_bytes 0 t h) ∙ two_codes_read)).0

pub is_bare_code : (t : Table) → TableAt bare_bytes 0 t → t ≡ bare_code
is_bare_code t h = (found_value _ _ _ _ (sym (table_take bare_bytes 0 t h) ∙ bare_read)).0
