-- Worked rows: the bytes of units and the offsets of entries, computed by the definitions.
use Rattle.std.specs.Prelude.{◌≡◌, true, false, ◌∷◌, [], Some, None}
use Rattle.std.proofs.Common.{refl}
use Rattle.dw_leb.specs.declared.order.Order.TheVariants.{Little, Big}
use Rattle.dw_leb.specs.declared.order.Format.TheVariants.{Dwarf32, Dwarf64}
use Rattle.dw_form.specs.Form.{shape, shaped, attribute, Num, Text}
use Rattle.dw_abbrev.specs.Table.{Table}
use Rattle.dw_header.specs.declared.kind.Kind.TheVariants.{Compile, TypeUnit, Skeleton, Four}
use Rattle.dw_tree.specs.Tree.{Tree, leaf, branch, none, more, children, nesting}
use Rattle.dw_unit.specs.Unit.{bytes_of}
use Rattle.dw_tree.specs.Spelling.{tree_bytes}
use Rattle.dw_tree.specs.Offset.{node_at, offset_at, end_at}
use Rattle.dw_unit.proofs.Samples.{narrow, plain, pair, declaration, table_of, base_types, first, named, headed, unit_of, compiled, little}

-- a compile unit of the name "a", and in it a base type
abbrev with_a_child : Tree
with_a_child = branch (narrow 1) (plain (Text (0x61 ∷ [])) ∷ []) (more (leaf (narrow 2) (plain (Num 4) ∷ [])) none) 1

-- compile unit, base type, subroutine type, formal parameter, unspecified parameters, pointer, array, subrange, variable
abbrev type_table : Table
type_table = table_of (declaration 1 0x11 true [] ∷ declaration 2 0x24 false (pair 3 8 None ∷ []) ∷ declaration 3 0x15 true (pair 0x49 0x11 None ∷ [])
    ∷ declaration 4 5 false (pair 0x49 0x11 None ∷ []) ∷ declaration 5 0x18 false [] ∷ declaration 6 0x0f false (pair 0x49 0x11 None ∷ [])
    ∷ declaration 7 1 true (pair 0x49 0x11 None ∷ []) ∷ declaration 8 0x21 false (pair 0x2f 0x0b None ∷ []) ∷ declaration 9 0x34 false (pair 3 8 None ∷ pair 0x49 0x11 None ∷ []) ∷ [])

-- int (*f[3])(char, ...)
abbrev array_of_functions : Tree
array_of_functions = branch (narrow 1) []
    (more (leaf (narrow 2) (plain (Text (0x69 ∷ 0x6e ∷ 0x74 ∷ [])) ∷ []))
    (more (leaf (narrow 2) (plain (Text (0x63 ∷ 0x68 ∷ 0x61 ∷ 0x72 ∷ [])) ∷ []))
    (more (branch (narrow 3) (plain (Num 13) ∷ []) (more (leaf (narrow 4) (plain (Num 18) ∷ [])) (more (leaf (narrow 5) []) none)) 1)
    (more (leaf (narrow 6) (plain (Num 24) ∷ []))
    (more (branch (narrow 7) (plain (Num 30) ∷ []) (more (leaf (narrow 8) (plain (Num 2) ∷ [])) none) 1)
    (more (leaf (narrow 9) (plain (Text (0x66 ∷ [])) ∷ plain (Num 32) ∷ [])) none)))))) 1

-- ---- units as they are written

the_fifteen_bytes_written : bytes_of (compiled first named) ≡ 0x0b ∷ 0x00 ∷ 0x00 ∷ 0x00 ∷ 0x05 ∷ 0x00 ∷ 0x01 ∷ 0x08 ∷ 0x00 ∷ 0x00 ∷ 0x00 ∷ 0x00 ∷ 0x01 ∷ 0x61 ∷ 0x00 ∷ []
unfolding shape attribute shaped children nesting
the_fifteen_bytes_written = refl

padded_code_written : bytes_of (compiled first (leaf (record { value = 1; width = 2 }) (plain (Text (0x61 ∷ [])) ∷ []))) ≡ 0x0c ∷ 0x00 ∷ 0x00 ∷ 0x00 ∷ 0x05 ∷ 0x00 ∷ 0x01 ∷ 0x08 ∷ 0x00 ∷ 0x00 ∷ 0x00 ∷ 0x00 ∷ 0x81 ∷ 0x00 ∷ 0x61 ∷ 0x00 ∷ []
unfolding shape attribute shaped children nesting
padded_code_written = refl

padding_written : bytes_of (record { header = headed Little Dwarf32 Compile; table = first; root = named; padding = 1 ∷ 2 ∷ [] }) ≡ 0x0e ∷ 0x00 ∷ 0x00 ∷ 0x00 ∷ 0x05 ∷ 0x00 ∷ 0x01 ∷ 0x08 ∷ 0x00 ∷ 0x00 ∷ 0x00 ∷ 0x00 ∷ 0x01 ∷ 0x61 ∷ 0x00 ∷ 0x00 ∷ 0x80 ∷ 0x00 ∷ []
unfolding shape attribute shaped children nesting
padding_written = refl

sixty_four_bit_unit_written : bytes_of (unit_of first (headed Little Dwarf64 Compile) named) ≡ 0xff ∷ 0xff ∷ 0xff ∷ 0xff ∷ 0x0f ∷ 0x00 ∷ 0x00 ∷ 0x00 ∷ 0x00 ∷ 0x00 ∷ 0x00 ∷ 0x00 ∷ 0x05 ∷ 0x00 ∷ 0x01 ∷ 0x08 ∷ 0x00 ∷ 0x00 ∷ 0x00 ∷ 0x00 ∷ 0x00 ∷ 0x00 ∷ 0x00 ∷ 0x00 ∷ 0x01 ∷ 0x61 ∷ 0x00 ∷ []
unfolding shape attribute shaped children nesting
sixty_four_bit_unit_written = refl

big_endian_written : bytes_of (unit_of first (headed Big Dwarf32 Compile) named) ≡ 0x00 ∷ 0x00 ∷ 0x00 ∷ 0x0b ∷ 0x00 ∷ 0x05 ∷ 0x01 ∷ 0x08 ∷ 0x00 ∷ 0x00 ∷ 0x00 ∷ 0x00 ∷ 0x01 ∷ 0x61 ∷ 0x00 ∷ []
unfolding shape attribute shaped children nesting
big_endian_written = refl

skeleton_unit_written : bytes_of (unit_of first (headed Little Dwarf32 (Skeleton 0x0102030405060708)) named) ≡ 0x13 ∷ 0x00 ∷ 0x00 ∷ 0x00 ∷ 0x05 ∷ 0x00 ∷ 0x04 ∷ 0x08 ∷ 0x00 ∷ 0x00 ∷ 0x00 ∷ 0x00 ∷ 0x08 ∷ 0x07 ∷ 0x06 ∷ 0x05 ∷ 0x04 ∷ 0x03 ∷ 0x02 ∷ 0x01 ∷ 0x01 ∷ 0x61 ∷ 0x00 ∷ []
unfolding shape attribute shaped children nesting
skeleton_unit_written = refl

type_unit_written : bytes_of (unit_of first (headed Little Dwarf32 (TypeUnit 0x1122334455667788 24)) named) ≡ 0x17 ∷ 0x00 ∷ 0x00 ∷ 0x00 ∷ 0x05 ∷ 0x00 ∷ 0x02 ∷ 0x08 ∷ 0x00 ∷ 0x00 ∷ 0x00 ∷ 0x00 ∷ 0x88 ∷ 0x77 ∷ 0x66 ∷ 0x55 ∷ 0x44 ∷ 0x33 ∷ 0x22 ∷ 0x11 ∷ 0x18 ∷ 0x00 ∷ 0x00 ∷ 0x00 ∷ 0x01 ∷ 0x61 ∷ 0x00 ∷ []
unfolding shape attribute shaped children nesting
type_unit_written = refl

four_unit_written : bytes_of (unit_of first (headed Little Dwarf32 Four) named) ≡ 0x0a ∷ 0x00 ∷ 0x00 ∷ 0x00 ∷ 0x04 ∷ 0x00 ∷ 0x00 ∷ 0x00 ∷ 0x00 ∷ 0x00 ∷ 0x08 ∷ 0x01 ∷ 0x61 ∷ 0x00 ∷ []
unfolding shape attribute shaped children nesting
four_unit_written = refl

sixty_four_bit_big_endian_four_unit_written : bytes_of (unit_of first (headed Big Dwarf64 Four) named) ≡ 0xff ∷ 0xff ∷ 0xff ∷ 0xff ∷ 0x00 ∷ 0x00 ∷ 0x00 ∷ 0x00 ∷ 0x00 ∷ 0x00 ∷ 0x00 ∷ 0x0e ∷ 0x00 ∷ 0x04 ∷ 0x00 ∷ 0x00 ∷ 0x00 ∷ 0x00 ∷ 0x00 ∷ 0x00 ∷ 0x00 ∷ 0x00 ∷ 0x08 ∷ 0x01 ∷ 0x61 ∷ 0x00 ∷ []
unfolding shape attribute shaped children nesting
sixty_four_bit_big_endian_four_unit_written = refl

root_with_a_child_written : bytes_of (compiled base_types with_a_child) ≡ 0x0e ∷ 0x00 ∷ 0x00 ∷ 0x00 ∷ 0x05 ∷ 0x00 ∷ 0x01 ∷ 0x08 ∷ 0x00 ∷ 0x00 ∷ 0x00 ∷ 0x00 ∷ 0x01 ∷ 0x61 ∷ 0x00 ∷ 0x02 ∷ 0x04 ∷ 0x00 ∷ []
unfolding shape attribute shaped children nesting
root_with_a_child_written = refl

array_of_functions_written : bytes_of (compiled type_table array_of_functions) ≡ 0x26 ∷ 0x00 ∷ 0x00 ∷ 0x00 ∷ 0x05 ∷ 0x00 ∷ 0x01 ∷ 0x08 ∷ 0x00 ∷ 0x00 ∷ 0x00 ∷ 0x00 ∷ 0x01 ∷ 0x02 ∷ 0x69 ∷ 0x6e ∷ 0x74 ∷ 0x00 ∷ 0x02 ∷ 0x63 ∷ 0x68 ∷ 0x61 ∷ 0x72 ∷ 0x00 ∷ 0x03 ∷ 0x0d ∷ 0x04 ∷ 0x12 ∷ 0x05 ∷ 0x00 ∷ 0x06 ∷ 0x18 ∷ 0x07 ∷ 0x1e ∷ 0x08 ∷ 0x02 ∷ 0x00 ∷ 0x09 ∷ 0x66 ∷ 0x00 ∷ 0x20 ∷ 0x00 ∷ []
unfolding shape attribute shaped children nesting
array_of_functions_written = refl

-- ---- entries by their paths, their offsets and their ends

offset_of_the_root : offset_at (little Dwarf32) base_types 12 with_a_child [] ≡ Some 12
unfolding shape attribute shaped tree_bytes offset_at
offset_of_the_root = refl

offset_of_the_child : offset_at (little Dwarf32) base_types 12 with_a_child (0 ∷ []) ≡ Some 15
unfolding shape attribute shaped tree_bytes offset_at
offset_of_the_child = refl

offset_of_no_child : offset_at (little Dwarf32) base_types 12 with_a_child (1 ∷ []) ≡ None
unfolding shape attribute shaped tree_bytes offset_at
offset_of_no_child = refl

offset_of_the_first_type : offset_at (little Dwarf32) type_table 12 array_of_functions (0 ∷ []) ≡ Some 13
unfolding shape attribute shaped tree_bytes offset_at
offset_of_the_first_type = refl

offset_of_the_second_type : offset_at (little Dwarf32) type_table 12 array_of_functions (1 ∷ []) ≡ Some 18
unfolding shape attribute shaped tree_bytes offset_at
offset_of_the_second_type = refl

offset_of_the_function_type : offset_at (little Dwarf32) type_table 12 array_of_functions (2 ∷ []) ≡ Some 24
unfolding shape attribute shaped tree_bytes offset_at
offset_of_the_function_type = refl

offset_of_the_parameter : offset_at (little Dwarf32) type_table 12 array_of_functions (2 ∷ 0 ∷ []) ≡ Some 26
unfolding shape attribute shaped tree_bytes offset_at
offset_of_the_parameter = refl

offset_of_the_second_parameter : offset_at (little Dwarf32) type_table 12 array_of_functions (2 ∷ 1 ∷ []) ≡ Some 28
unfolding shape attribute shaped tree_bytes offset_at
offset_of_the_second_parameter = refl

offset_of_the_pointer_type : offset_at (little Dwarf32) type_table 12 array_of_functions (3 ∷ []) ≡ Some 30
unfolding shape attribute shaped tree_bytes offset_at
offset_of_the_pointer_type = refl

offset_of_the_array_type : offset_at (little Dwarf32) type_table 12 array_of_functions (4 ∷ []) ≡ Some 32
unfolding shape attribute shaped tree_bytes offset_at
offset_of_the_array_type = refl

offset_of_the_array_bound : offset_at (little Dwarf32) type_table 12 array_of_functions (4 ∷ 0 ∷ []) ≡ Some 34
unfolding shape attribute shaped tree_bytes offset_at
offset_of_the_array_bound = refl

offset_of_the_variable : offset_at (little Dwarf32) type_table 12 array_of_functions (5 ∷ []) ≡ Some 37
unfolding shape attribute shaped tree_bytes offset_at
offset_of_the_variable = refl

-- a null entry is no entry of the tree
offset_of_a_null : offset_at (little Dwarf32) type_table 12 array_of_functions (2 ∷ 2 ∷ []) ≡ None
unfolding shape attribute shaped tree_bytes offset_at
offset_of_a_null = refl

child_by_its_path : node_at with_a_child (0 ∷ []) ≡ Some (leaf (narrow 2) (plain (Num 4) ∷ []))
unfolding node_at
child_by_its_path = refl

end_of_the_child : end_at (little Dwarf32) base_types 12 with_a_child (0 ∷ []) ≡ Some 17
unfolding shape attribute shaped tree_bytes end_at
end_of_the_child = refl

-- behind the null that ends its children
end_of_the_root : end_at (little Dwarf32) base_types 12 with_a_child [] ≡ Some 18
unfolding shape attribute shaped tree_bytes end_at
end_of_the_root = refl

end_of_the_function_type : end_at (little Dwarf32) type_table 12 array_of_functions (2 ∷ []) ≡ Some 30
unfolding shape attribute shaped tree_bytes end_at
end_of_the_function_type = refl
