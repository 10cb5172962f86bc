-- Where the entries of a unit's strings begin in .debug_str_offsets (sections 3.1.1 and 7.26).
use Rattle.std.proofs.Common.{ℕ, List, Option, Some, None}
use Rattle.dw_leb.specs.Constants.{DW_AT_str_offsets_base}
use Rattle.dw_form.specs.Lent.{number_in}
use Rattle.dw_tree.specs.Lent.{LentAttribute, root_of, attributes_of, first_named}
use Rattle.dw_unit.specs.Unit.{WholeUnit, tree_of}
use Rattle.dw_section.specs.Item.{Item, Known, Other}
use Rattle.dw_section.specs.Lookup.{unit_at}

-- the number that an attribute's value is: one of at most eight bytes, or an unsigned LEB128
abbrev pub number_of : Option LentAttribute → Option ℕ
number_of None = None
number_of (Some a) = number_in a.attr.value

-- the first DW_AT_str_offsets_base of the root, if its value is a number
abbrev pub base_of : WholeUnit → Option ℕ
base_of u = number_of (first_named DW_AT_str_offsets_base (attributes_of (root_of (tree_of u))))

abbrev pub base_if : Option WholeUnit → Option ℕ
base_if None = None
base_if (Some u) = base_of u

-- the base of the unit of a number
abbrev pub str_offsets_base : List Item → ℕ → Option ℕ
str_offsets_base items i = base_if (unit_at items i)

-- ---- what a section keeps of it

abbrev pub base_in : Item → Option ℕ
base_in (Known u) = base_of u
base_in (Other bytes) = None
