-- How the entries of types are written, by their tags, and the words for them.
use Rattle.std.specs.Prelude.{ℕ, List, [], ◌∷◌, codes, unwrap_or}
use Rattle.dw_leb.specs.Constants.{DW_TAG_array_type, DW_TAG_atomic_type, DW_TAG_base_type, DW_TAG_class_type}
use Rattle.dw_leb.specs.Constants.{DW_TAG_const_type, DW_TAG_enumeration_type, DW_TAG_pointer_type}
use Rattle.dw_leb.specs.Constants.{DW_TAG_reference_type, DW_TAG_restrict_type, DW_TAG_rvalue_reference_type}
use Rattle.dw_leb.specs.Constants.{DW_TAG_structure_type, DW_TAG_subprogram, DW_TAG_subroutine_type, DW_TAG_typedef}
use Rattle.dw_leb.specs.Constants.{DW_TAG_union_type, DW_TAG_unspecified_type, DW_TAG_volatile_type}
use Rattle.dw_form.specs.Form.{at_number}
use Rattle.dw_ctype.specs.declared.kind.Keyword.{Keyword}
use Rattle.dw_ctype.specs.declared.kind.Keyword.TheVariants.{Struct, Union, Enum, Class}
use Rattle.dw_ctype.specs.declared.kind.PointerKind.{PointerKind}
use Rattle.dw_ctype.specs.declared.kind.PointerKind.TheVariants.{Pointer, Reference, RvalueReference}
use Rattle.dw_ctype.specs.declared.kind.Qualifier.{Qualifier}
use Rattle.dw_ctype.specs.declared.kind.Qualifier.TheVariants.{Const, Volatile, Restrict, Atomic}
use Rattle.dw_ctype.specs.declared.kind.Kind.{Kind}
use Rattle.dw_ctype.specs.declared.kind.Kind.TheVariants.{Named, Tagged, Marked, Qualified, Array, Function, Other}

-- base_type, typedef, unspecified_type; structure_type, union_type, enumeration_type, class_type; pointer_type,
-- reference_type, rvalue_reference_type; const_type, volatile_type, restrict_type, atomic_type; array_type;
-- subroutine_type, subprogram
abbrev pub kinds : List (ℕ × Kind)
kinds =
    (DW_TAG_base_type, Named)
    ∷ (DW_TAG_typedef, Named)
    ∷ (DW_TAG_unspecified_type, Named)
    ∷ (DW_TAG_structure_type, Tagged Struct)
    ∷ (DW_TAG_union_type, Tagged Union)
    ∷ (DW_TAG_enumeration_type, Tagged Enum)
    ∷ (DW_TAG_class_type, Tagged Class)
    ∷ (DW_TAG_pointer_type, Marked Pointer)
    ∷ (DW_TAG_reference_type, Marked Reference)
    ∷ (DW_TAG_rvalue_reference_type, Marked RvalueReference)
    ∷ (DW_TAG_const_type, Qualified Const)
    ∷ (DW_TAG_volatile_type, Qualified Volatile)
    ∷ (DW_TAG_restrict_type, Qualified Restrict)
    ∷ (DW_TAG_atomic_type, Qualified Atomic)
    ∷ (DW_TAG_array_type, Array)
    ∷ (DW_TAG_subroutine_type, Function)
    ∷ (DW_TAG_subprogram, Function)
    ∷ []

abbrev pub kind : ℕ → Kind
kind tag = unwrap_or (at_number tag kinds) Other

-- the word and a space
abbrev pub keyword : Keyword → List ℕ
keyword Struct = codes "struct "
keyword Union = codes "union "
keyword Enum = codes "enum "
keyword Class = codes "class "

abbrev pub mark : PointerKind → List ℕ
mark Pointer = codes "*"
mark Reference = codes "&"
mark RvalueReference = codes "&&"

abbrev pub qualifier : Qualifier → List ℕ
qualifier Const = codes "const"
qualifier Volatile = codes "volatile"
qualifier Restrict = codes "restrict"
qualifier Atomic = codes "_Atomic"
