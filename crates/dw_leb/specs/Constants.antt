-- The numbers of tags, attributes and forms by the names of the standard (tables 7.3, 7.5 and 7.6), and of two forms of
-- GNU. The cases in `library_cases/data/names` pin the program's constants of these names to the same numbers.
use Rattle.std.specs.Prelude.{ℕ}

-- ---- tags

abbrev pub DW_TAG_array_type : ℕ
DW_TAG_array_type = 0x01

abbrev pub DW_TAG_class_type : ℕ
DW_TAG_class_type = 0x02

abbrev pub DW_TAG_enumeration_type : ℕ
DW_TAG_enumeration_type = 0x04

abbrev pub DW_TAG_formal_parameter : ℕ
DW_TAG_formal_parameter = 0x05

abbrev pub DW_TAG_member : ℕ
DW_TAG_member = 0x0d

abbrev pub DW_TAG_pointer_type : ℕ
DW_TAG_pointer_type = 0x0f

abbrev pub DW_TAG_reference_type : ℕ
DW_TAG_reference_type = 0x10

abbrev pub DW_TAG_compile_unit : ℕ
DW_TAG_compile_unit = 0x11

abbrev pub DW_TAG_structure_type : ℕ
DW_TAG_structure_type = 0x13

abbrev pub DW_TAG_subroutine_type : ℕ
DW_TAG_subroutine_type = 0x15

abbrev pub DW_TAG_typedef : ℕ
DW_TAG_typedef = 0x16

abbrev pub DW_TAG_union_type : ℕ
DW_TAG_union_type = 0x17

abbrev pub DW_TAG_unspecified_parameters : ℕ
DW_TAG_unspecified_parameters = 0x18

abbrev pub DW_TAG_subrange_type : ℕ
DW_TAG_subrange_type = 0x21

abbrev pub DW_TAG_base_type : ℕ
DW_TAG_base_type = 0x24

abbrev pub DW_TAG_const_type : ℕ
DW_TAG_const_type = 0x26

abbrev pub DW_TAG_subprogram : ℕ
DW_TAG_subprogram = 0x2e

abbrev pub DW_TAG_variable : ℕ
DW_TAG_variable = 0x34

abbrev pub DW_TAG_volatile_type : ℕ
DW_TAG_volatile_type = 0x35

abbrev pub DW_TAG_restrict_type : ℕ
DW_TAG_restrict_type = 0x37

abbrev pub DW_TAG_unspecified_type : ℕ
DW_TAG_unspecified_type = 0x3b

abbrev pub DW_TAG_partial_unit : ℕ
DW_TAG_partial_unit = 0x3c

abbrev pub DW_TAG_type_unit : ℕ
DW_TAG_type_unit = 0x41

abbrev pub DW_TAG_rvalue_reference_type : ℕ
DW_TAG_rvalue_reference_type = 0x42

abbrev pub DW_TAG_atomic_type : ℕ
DW_TAG_atomic_type = 0x47

abbrev pub DW_TAG_skeleton_unit : ℕ
DW_TAG_skeleton_unit = 0x4a

-- ---- attributes

abbrev pub DW_AT_sibling : ℕ
DW_AT_sibling = 0x01

abbrev pub DW_AT_name : ℕ
DW_AT_name = 0x03

abbrev pub DW_AT_prototyped : ℕ
DW_AT_prototyped = 0x27

abbrev pub DW_AT_upper_bound : ℕ
DW_AT_upper_bound = 0x2f

abbrev pub DW_AT_count : ℕ
DW_AT_count = 0x37

abbrev pub DW_AT_type : ℕ
DW_AT_type = 0x49

abbrev pub DW_AT_str_offsets_base : ℕ
DW_AT_str_offsets_base = 0x72

-- ---- forms

abbrev pub DW_FORM_addr : ℕ
DW_FORM_addr = 0x01

abbrev pub DW_FORM_block2 : ℕ
DW_FORM_block2 = 0x03

abbrev pub DW_FORM_block4 : ℕ
DW_FORM_block4 = 0x04

abbrev pub DW_FORM_data2 : ℕ
DW_FORM_data2 = 0x05

abbrev pub DW_FORM_data4 : ℕ
DW_FORM_data4 = 0x06

abbrev pub DW_FORM_data8 : ℕ
DW_FORM_data8 = 0x07

abbrev pub DW_FORM_string : ℕ
DW_FORM_string = 0x08

abbrev pub DW_FORM_block : ℕ
DW_FORM_block = 0x09

abbrev pub DW_FORM_block1 : ℕ
DW_FORM_block1 = 0x0a

abbrev pub DW_FORM_data1 : ℕ
DW_FORM_data1 = 0x0b

abbrev pub DW_FORM_flag : ℕ
DW_FORM_flag = 0x0c

abbrev pub DW_FORM_sdata : ℕ
DW_FORM_sdata = 0x0d

abbrev pub DW_FORM_strp : ℕ
DW_FORM_strp = 0x0e

abbrev pub DW_FORM_udata : ℕ
DW_FORM_udata = 0x0f

abbrev pub DW_FORM_ref_addr : ℕ
DW_FORM_ref_addr = 0x10

abbrev pub DW_FORM_ref1 : ℕ
DW_FORM_ref1 = 0x11

abbrev pub DW_FORM_ref2 : ℕ
DW_FORM_ref2 = 0x12

abbrev pub DW_FORM_ref4 : ℕ
DW_FORM_ref4 = 0x13

abbrev pub DW_FORM_ref8 : ℕ
DW_FORM_ref8 = 0x14

abbrev pub DW_FORM_ref_udata : ℕ
DW_FORM_ref_udata = 0x15

abbrev pub DW_FORM_indirect : ℕ
DW_FORM_indirect = 0x16

abbrev pub DW_FORM_sec_offset : ℕ
DW_FORM_sec_offset = 0x17

abbrev pub DW_FORM_exprloc : ℕ
DW_FORM_exprloc = 0x18

abbrev pub DW_FORM_flag_present : ℕ
DW_FORM_flag_present = 0x19

abbrev pub DW_FORM_strx : ℕ
DW_FORM_strx = 0x1a

abbrev pub DW_FORM_addrx : ℕ
DW_FORM_addrx = 0x1b

abbrev pub DW_FORM_ref_sup4 : ℕ
DW_FORM_ref_sup4 = 0x1c

abbrev pub DW_FORM_strp_sup : ℕ
DW_FORM_strp_sup = 0x1d

abbrev pub DW_FORM_data16 : ℕ
DW_FORM_data16 = 0x1e

abbrev pub DW_FORM_line_strp : ℕ
DW_FORM_line_strp = 0x1f

abbrev pub DW_FORM_ref_sig8 : ℕ
DW_FORM_ref_sig8 = 0x20

abbrev pub DW_FORM_implicit_const : ℕ
DW_FORM_implicit_const = 0x21

abbrev pub DW_FORM_loclistx : ℕ
DW_FORM_loclistx = 0x22

abbrev pub DW_FORM_rnglistx : ℕ
DW_FORM_rnglistx = 0x23

abbrev pub DW_FORM_ref_sup8 : ℕ
DW_FORM_ref_sup8 = 0x24

abbrev pub DW_FORM_strx1 : ℕ
DW_FORM_strx1 = 0x25

abbrev pub DW_FORM_strx2 : ℕ
DW_FORM_strx2 = 0x26

abbrev pub DW_FORM_strx3 : ℕ
DW_FORM_strx3 = 0x27

abbrev pub DW_FORM_strx4 : ℕ
DW_FORM_strx4 = 0x28

abbrev pub DW_FORM_addrx1 : ℕ
DW_FORM_addrx1 = 0x29

abbrev pub DW_FORM_addrx2 : ℕ
DW_FORM_addrx2 = 0x2a

abbrev pub DW_FORM_addrx3 : ℕ
DW_FORM_addrx3 = 0x2b

abbrev pub DW_FORM_addrx4 : ℕ
DW_FORM_addrx4 = 0x2c

abbrev pub DW_FORM_GNU_ref_alt : ℕ
DW_FORM_GNU_ref_alt = 0x1f20

abbrev pub DW_FORM_GNU_strp_alt : ℕ
DW_FORM_GNU_strp_alt = 0x1f21
