-- Worked rows: abbreviation tables, computed by the plain reader.
use Rattle.std.specs.Prelude.{ℕ, negsuc, ◌≡◌, false, List, ◌∷◌, [], ◌++◌, length, Option, Some, None}
use Rattle.std.specs.List.{repeat}
use Rattle.std.proofs.Common.{refl}
use Rattle.dw_leb.specs.declared.errors.Reason.TheVariants.{Truncated, LebTooLong, LebTooBig, AbbrevOffset, BadChildren, HalfPair, DuplicateCode, TooManyPairs}
use Rattle.dw_leb.specs.Reader.{Outcome, Found, Broken}
use Rattle.dw_abbrev.specs.Table.{Declaration, Table}
use Rattle.dw_abbrev.specs.ReadTable.{read_table, read_table_at}
use Rattle.dw_unit.proofs.Samples.{first_table, narrow, pair, declaration, table_of}

-- ---- tables that are read

the_first_table : read_table_at first_table 0 ≡ Found (table_of (declaration 1 0x11 false (pair 3 8 None ∷ []) ∷ [])) 8
unfolding read_table read_table_at
the_first_table = refl

the_empty_table : read_table_at first_table 7 ≡ Found (table_of []) 1
unfolding read_table read_table_at
the_empty_table = refl

-- each number keeps its width, the ending zeros too
widths_of_a_table : read_table_at (0x81 ∷ 0x00 ∷ 0x91 ∷ 0x00 ∷ 0x00 ∷ 0x83 ∷ 0x80 ∷ 0x00 ∷ 0x88 ∷ 0x00 ∷ 0x80 ∷ 0x00 ∷ 0x80 ∷ 0x00 ∷ 0x80 ∷ 0x80 ∷ 0x00 ∷ []) 0 ≡ Found (record { declarations = record { code = record { value = 1; width = 2 }; tag = record { value = 0x11; width = 2 }; children = false; pairs = record { name = record { value = 3; width = 3 }; form = record { value = 8; width = 2 }; constant = None } ∷ []; name_zero = 2; form_zero = 2 } ∷ []; last_zero = 3 }) 17
unfolding read_table read_table_at
widths_of_a_table = refl

-- the constant of DW_FORM_implicit_const stands behind its form
implicit_constant_table : read_table_at (0x01 ∷ 0x11 ∷ 0x00 ∷ 0x0b ∷ 0x21 ∷ 0xff ∷ 0x7f ∷ 0x00 ∷ 0x00 ∷ 0x00 ∷ []) 0 ≡ Found (table_of (declaration 1 0x11 false (pair 0x0b 0x21 (Some (record { value = negsuc 0; width = 2 })) ∷ []) ∷ [])) 10
unfolding read_table read_table_at
implicit_constant_table = refl

second_table_of_a_section : read_table_at (first_table ++ (0x01 ∷ 0x11 ∷ 0x00 ∷ 0x0b ∷ 0x21 ∷ 0xff ∷ 0x7f ∷ 0x00 ∷ 0x00 ∷ 0x00 ∷ [])) 8 ≡ Found (table_of (declaration 1 0x11 false (pair 0x0b 0x21 (Some (record { value = negsuc 0; width = 2 })) ∷ []) ∷ [])) 10
unfolding read_table read_table_at
second_table_of_a_section = refl

-- an offset in the middle of one table can be the beginning of another
table_from_the_middle : read_table_at (first_table ++ (0x01 ∷ 0x11 ∷ 0x00 ∷ 0x0b ∷ 0x21 ∷ 0xff ∷ 0x7f ∷ 0x00 ∷ 0x00 ∷ 0x00 ∷ [])) 3 ≡ Found (table_of (declaration 3 8 false [] ∷ declaration 1 0x11 false (pair 0x0b 0x21 (Some (record { value = negsuc 0; width = 2 })) ∷ []) ∷ [])) 15
unfolding read_table read_table_at
table_from_the_middle = refl

-- a table keeps a form that is not in the form table
vendor_form_in_a_table : read_table_at (0x01 ∷ 0x11 ∷ 0x00 ∷ 0x0b ∷ 0x81 ∷ 0x3e ∷ 0x00 ∷ 0x00 ∷ 0x00 ∷ []) 0 ≡ Found (table_of (declaration 1 0x11 false (record { name = narrow 0x0b; form = record { value = 0x1f01; width = 2 }; constant = None } ∷ []) ∷ [])) 9
unfolding read_table read_table_at
vendor_form_in_a_table = refl

-- ---- broken tables

bad_children : read_table_at (0x01 ∷ 0x11 ∷ 0x02 ∷ []) 0 ≡ Broken 2 BadChildren
unfolding read_table read_table_at
bad_children = refl

half_pair_without_a_form : read_table_at (0x01 ∷ 0x11 ∷ 0x00 ∷ 0x03 ∷ 0x00 ∷ []) 0 ≡ Broken 3 HalfPair
unfolding read_table read_table_at
half_pair_without_a_form = refl

half_pair_without_a_name : read_table_at (0x01 ∷ 0x11 ∷ 0x00 ∷ 0x00 ∷ 0x08 ∷ []) 0 ≡ Broken 3 HalfPair
unfolding read_table read_table_at
half_pair_without_a_name = refl

duplicate_code : read_table_at (0x01 ∷ 0x11 ∷ 0x00 ∷ 0x00 ∷ 0x00 ∷ 0x01 ∷ []) 0 ≡ Broken 5 DuplicateCode
unfolding read_table read_table_at
duplicate_code = refl

padded_duplicate_code : read_table_at (0x01 ∷ 0x11 ∷ 0x00 ∷ 0x00 ∷ 0x00 ∷ 0x81 ∷ 0x00 ∷ []) 0 ≡ Broken 5 DuplicateCode
unfolding read_table read_table_at
padded_duplicate_code = refl

table_cut : read_table_at (0x01 ∷ 0x11 ∷ 0x00 ∷ 0x03 ∷ 0x08 ∷ []) 0 ≡ Broken 5 Truncated
unfolding read_table read_table_at
table_cut = refl

table_cut_behind_a_declaration : read_table_at first_table 3 ≡ Broken 8 Truncated
unfolding read_table read_table_at
table_cut_behind_a_declaration = refl

table_at_the_sections_end : read_table_at first_table 8 ≡ Broken 8 AbbrevOffset
unfolding read_table read_table_at
table_at_the_sections_end = refl

name_without_an_end : read_table_at (0x01 ∷ 0x11 ∷ 0x00 ∷ 0x80 ∷ 0x80 ∷ 0x80 ∷ 0x80 ∷ 0x80 ∷ 0x80 ∷ 0x80 ∷ 0x80 ∷ 0x80 ∷ 0x80 ∷ 0x80 ∷ 0x80 ∷ 0x80 ∷ 0x80 ∷ 0x80 ∷ 0x80 ∷ []) 0 ≡ Broken 3 LebTooLong
unfolding read_table read_table_at
name_without_an_end = refl

-- a fault of the constant stands at the constant
constant_too_big : read_table_at (0x01 ∷ 0x11 ∷ 0x00 ∷ 0x0b ∷ 0x21 ∷ 0x80 ∷ 0x80 ∷ 0x80 ∷ 0x80 ∷ 0x80 ∷ 0x80 ∷ 0x80 ∷ 0x80 ∷ 0x80 ∷ 0x01 ∷ []) 0 ≡ Broken 5 LebTooBig
unfolding read_table read_table_at
constant_too_big = refl

-- ---- 1,024 pairs

abbrev pairs_of_first : List Declaration → ℕ
pairs_of_first [] = 0
pairs_of_first (d ∷ ds) = length d.pairs

-- the count of declarations, and of the pairs of the first
abbrev counts : Outcome Table → Option (ℕ × ℕ)
counts (Found t size) = Some (length t.declarations, pairs_of_first t.declarations)
counts (Broken offset reason) = None

-- a declaration with so many pairs, and what follows them
abbrev with_pairs : ℕ → List ℕ → List ℕ
with_pairs n rest = (0x01 ∷ 0x11 ∷ 0x00 ∷ []) ++ (repeat n (0x03 ∷ 0x08 ∷ []) ++ rest)

most_pairs_that_are_read : counts (read_table_at (with_pairs 1024 (0x00 ∷ 0x00 ∷ 0x00 ∷ [])) 0) ≡ Some (1, 1024)
unfolding read_table read_table_at
most_pairs_that_are_read = refl

too_many_pairs : read_table_at (with_pairs 1025 (0x00 ∷ 0x00 ∷ 0x00 ∷ [])) 0 ≡ Broken 2051 TooManyPairs
unfolding read_table read_table_at
too_many_pairs = refl

half_before_too_many : read_table_at (with_pairs 1024 (0x03 ∷ 0x00 ∷ [])) 0 ≡ Broken 2051 HalfPair
unfolding read_table read_table_at
half_before_too_many = refl
