-- Worked rows: the children of an entry, computed by the plain reader.
use Rattle.std.specs.Prelude.{◌≡◌, ◌∷◌, []}
use Rattle.std.proofs.Common.{refl}
use Rattle.dw_leb.specs.declared.errors.Reason.TheVariants.{Truncated, PastUnit, UnknownCode, TooDeep}
use Rattle.dw_leb.specs.declared.order.Format.TheVariants.{Dwarf32}
use Rattle.dw_leb.specs.Reader.{Found, Broken}
use Rattle.dw_form.specs.Form.{shape, Num, Text}
use Rattle.dw_form.specs.ReadForm.{read_attribute}
use Rattle.dw_tree.specs.Tree.{leaf, branch, none, more}
use Rattle.dw_tree.specs.ReadTree.{read_children}
use Rattle.dw_unit.proofs.Samples.{narrow, plain, base_types, little}

-- ---- children, up to a null

no_children : read_children (little Dwarf32) base_types 1 (0x00 ∷ []) 99 ≡ Found (none, narrow 0) 1
unfolding shape read_attribute read_children
no_children = refl

one_child : read_children (little Dwarf32) base_types 1 (0x02 ∷ 0x04 ∷ 0x00 ∷ []) 99 ≡ Found (more (leaf (narrow 2) (plain (Num 4) ∷ [])) none, narrow 0) 3
unfolding shape read_attribute read_children
one_child = refl

two_children_and_a_padded_null : read_children (little Dwarf32) base_types 1 (0x02 ∷ 0x04 ∷ 0x02 ∷ 0x04 ∷ 0x80 ∷ 0x00 ∷ []) 6 ≡ Found (more (leaf (narrow 2) (plain (Num 4) ∷ [])) (more (leaf (narrow 2) (plain (Num 4) ∷ [])) none), record { value = 0; width = 2 }) 6
unfolding shape read_attribute read_children
two_children_and_a_padded_null = refl

-- the end of the unit closes no list of children
missing_null : read_children (little Dwarf32) base_types 1 (0x02 ∷ 0x04 ∷ []) 2 ≡ Broken 2 PastUnit
unfolding shape read_attribute read_children
missing_null = refl

missing_null_cut : read_children (little Dwarf32) base_types 1 (0x02 ∷ 0x04 ∷ []) 3 ≡ Broken 2 Truncated
unfolding shape read_attribute read_children
missing_null_cut = refl

value_of_the_second_child_cut : read_children (little Dwarf32) base_types 1 (0x02 ∷ 0x04 ∷ 0x02 ∷ []) 9 ≡ Broken 3 Truncated
unfolding shape read_attribute read_children
value_of_the_second_child_cut = refl

unknown_child : read_children (little Dwarf32) base_types 1 (0x02 ∷ 0x04 ∷ 0x07 ∷ []) 9 ≡ Broken 2 UnknownCode
unfolding shape read_attribute read_children
unknown_child = refl

-- ---- the deepest level

null_below_the_deepest_level : read_children (little Dwarf32) base_types 0 (0x00 ∷ []) 99 ≡ Found (none, narrow 0) 1
unfolding shape read_attribute read_children
null_below_the_deepest_level = refl

child_below_the_deepest_level : read_children (little Dwarf32) base_types 0 (0x02 ∷ 0x04 ∷ 0x00 ∷ []) 99 ≡ Broken 0 TooDeep
unfolding shape read_attribute read_children
child_below_the_deepest_level = refl

-- depth is judged before the code is looked up
unknown_child_below_the_deepest_level : read_children (little Dwarf32) base_types 0 (0x07 ∷ []) 99 ≡ Broken 0 TooDeep
unfolding shape read_attribute read_children
unknown_child_below_the_deepest_level = refl

-- a child with children of its own, whose bytes end before its null
child_with_children : read_children (little Dwarf32) base_types 1 (0x02 ∷ 0x04 ∷ 0x01 ∷ 0x61 ∷ 0x00 ∷ []) 99 ≡ Broken 5 Truncated
unfolding shape read_attribute read_children
child_with_children = refl

grandchildren : read_children (little Dwarf32) base_types 2 (0x01 ∷ 0x61 ∷ 0x00 ∷ 0x02 ∷ 0x04 ∷ 0x80 ∷ 0x00 ∷ 0x00 ∷ []) 99
    ≡ Found (more (branch (narrow 1) (plain (Text (0x61 ∷ [])) ∷ []) (more (leaf (narrow 2) (plain (Num 4) ∷ [])) none) 2) none, narrow 0) 8
unfolding shape read_attribute read_children
grandchildren = refl
