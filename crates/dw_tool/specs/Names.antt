-- The names of tags and attributes (sections 7.5.3 and 7.5.4) that this project prints.
use Rattle.std.specs.Prelude.{ℕ, List, [], ◌∷◌, ◌==◌, Option, codes, find, option_map}
use Rattle.std.specs.Str.{bytes_eq}

-- numbers, each with its name
abbrev pub Names : Type 0
Names = List (ℕ × List ℕ)

-- the name of the number, or none
abbrev pub name_in : Names → ℕ → Option (List ℕ)
name_in names number = option_map (λ entry. entry.1) (find (λ entry. entry.0 == number) names)

-- the number of the name, or none
abbrev pub number_named : Names → List ℕ → Option ℕ
number_named names name = option_map (λ entry. entry.0) (find (λ entry. bytes_eq entry.1 name) names)

-- what stands after DW_TAG_
abbrev pub tag_names : Names
tag_names =
    (1, codes "array_type") ∷ (2, codes "class_type") ∷ (4, codes "enumeration_type") ∷
    (5, codes "formal_parameter") ∷ (10, codes "label") ∷ (11, codes "lexical_block") ∷
    (13, codes "member") ∷ (15, codes "pointer_type") ∷ (16, codes "reference_type") ∷
    (17, codes "compile_unit") ∷ (19, codes "structure_type") ∷ (21, codes "subroutine_type") ∷
    (22, codes "typedef") ∷ (23, codes "union_type") ∷ (24, codes "unspecified_parameters") ∷
    (28, codes "inheritance") ∷ (29, codes "inlined_subroutine") ∷ (33, codes "subrange_type") ∷
    (36, codes "base_type") ∷ (38, codes "const_type") ∷ (40, codes "enumerator") ∷
    (46, codes "subprogram") ∷ (52, codes "variable") ∷ (53, codes "volatile_type") ∷
    (55, codes "restrict_type") ∷ (57, codes "namespace") ∷ (59, codes "unspecified_type") ∷
    (60, codes "partial_unit") ∷ (65, codes "type_unit") ∷ (66, codes "rvalue_reference_type") ∷
    (71, codes "atomic_type") ∷ (72, codes "call_site") ∷ (73, codes "call_site_parameter") ∷
    (74, codes "skeleton_unit") ∷ []

-- what stands after DW_AT_
abbrev pub attribute_names : Names
attribute_names =
    (1, codes "sibling") ∷ (2, codes "location") ∷ (3, codes "name") ∷ (11, codes "byte_size") ∷
    (13, codes "bit_size") ∷ (16, codes "stmt_list") ∷ (17, codes "low_pc") ∷
    (18, codes "high_pc") ∷ (19, codes "language") ∷ (27, codes "comp_dir") ∷
    (28, codes "const_value") ∷ (32, codes "inline") ∷ (34, codes "lower_bound") ∷
    (37, codes "producer") ∷ (39, codes "prototyped") ∷ (47, codes "upper_bound") ∷
    (49, codes "abstract_origin") ∷ (50, codes "accessibility") ∷ (52, codes "artificial") ∷
    (55, codes "count") ∷ (56, codes "data_member_location") ∷ (57, codes "decl_column") ∷
    (58, codes "decl_file") ∷ (59, codes "decl_line") ∷ (60, codes "declaration") ∷
    (62, codes "encoding") ∷ (63, codes "external") ∷ (64, codes "frame_base") ∷
    (71, codes "specification") ∷ (73, codes "type") ∷ (85, codes "ranges") ∷
    (87, codes "call_column") ∷ (88, codes "call_file") ∷ (89, codes "call_line") ∷
    (105, codes "signature") ∷ (107, codes "data_bit_offset") ∷ (110, codes "linkage_name") ∷
    (114, codes "str_offsets_base") ∷ (115, codes "addr_base") ∷ (116, codes "rnglists_base") ∷
    (122, codes "call_all_calls") ∷ (125, codes "call_return_pc") ∷ (126, codes "call_value") ∷
    (127, codes "call_origin") ∷ (135, codes "noreturn") ∷ (136, codes "alignment") ∷
    (140, codes "loclists_base") ∷ []
