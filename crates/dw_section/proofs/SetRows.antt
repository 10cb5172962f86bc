-- Worked rows: numbers that are put in sections which the plain reader reads, and why others aren't.
use Rattle.std.specs.Prelude.{ℕ, ℤ, pos, negsuc, ◌≡◌, List, ◌∷◌, [], ◌++◌, Option, Some, None, Result, Ok, Err}
use Rattle.std.proofs.Common.{refl}
use Rattle.dw_leb.specs.declared.order.Order.TheVariants.{Little}
use Rattle.dw_form.specs.Form.{shape, attribute, shaped}
use Rattle.dw_form.specs.ReadForm.{read_attribute}
use Rattle.dw_abbrev.specs.ReadTable.{read_table, read_table_at}
use Rattle.dw_header.specs.ReadHeader.{read_fields}
use Rattle.dw_header.specs.declared.versions.Versions.TheVariants.{Five}
use Rattle.dw_tree.specs.Tree.{children, nesting}
use Rattle.dw_tree.specs.Spelling.{tree_bytes}
use Rattle.dw_tree.specs.ReadTree.{read_children, read_tree}
use Rattle.dw_unit.specs.ReadUnit.{read_unit_under}
use Rattle.dw_section.specs.declared.id.EntryId.{EntryId}
use Rattle.dw_section.specs.declared.set_refusal.SetRefusal.{SetRefusal}
use Rattle.dw_section.specs.declared.set_refusal.SetRefusal.TheVariants as refused
use Rattle.dw_section.specs.Section.{WholeSection, section_bytes}
use Rattle.dw_section.specs.ReadSection.{SectionAnswer, Items, Fails, read_item, read_section}
use Rattle.dw_section.specs.SetNumber.{set_refusal, edited}
use Rattle.dw_section.proofs.SectionRows.{fifteen, first_table}
use Rattle.dw_section.proofs.ReferenceRows.{id, two_tables, refers}

abbrev put_or : Option SetRefusal → WholeSection → Option (Result (List ℕ) SetRefusal)
put_or None s = Some (Ok (section_bytes s))
put_or (Some why) s = Some (Err why)

-- the bytes of the edited section, or why the number isn't put
abbrev after : SectionAnswer → EntryId → ℕ → ℤ → Option (Result (List ℕ) SetRefusal)
after (Items items) i name x =
    let s : WholeSection = record { order = Little; versions = Five; items = items } in
    put_or (set_refusal s i name x) (edited s i name x)
after (Fails s offset reason) i name x = None

abbrev bytes_are : List ℕ → Option (Result (List ℕ) SetRefusal)
bytes_are bytes = Some (Ok bytes)

abbrev refused_as : SetRefusal → Option (Result (List ℕ) SetRefusal)
refused_as why = Some (Err why)

-- ---- a reference into the section

to_itself : after (read_section Five Little two_tables (fifteen ++ refers 12)) (id 1 12) 0x49 (pos 27) ≡ bytes_are (fifteen ++ refers 27)
unfolding shape attribute shaped children read_attribute read_table read_table_at read_fields read_children read_tree read_unit_under nesting tree_bytes read_section read_item
to_itself = refl

to_a_header : after (read_section Five Little two_tables (fifteen ++ refers 12)) (id 1 12) 0x49 (pos 15) ≡ refused_as refused.BadTarget
unfolding shape attribute shaped children read_attribute read_table read_table_at read_fields read_children read_tree read_unit_under nesting tree_bytes read_section read_item
to_a_header = refl

no_entry : after (read_section Five Little two_tables (fifteen ++ refers 12)) (id 1 11) 0x49 (pos 12) ≡ refused_as refused.NoEntry
unfolding shape attribute shaped children read_attribute read_table read_table_at read_fields read_children read_tree read_unit_under nesting tree_bytes read_section read_item
no_entry = refl

-- ---- a text

a_text : after (read_section Five Little first_table fifteen) (id 0 12) 0x03 (pos 1) ≡ refused_as refused.NotANumber
unfolding shape attribute shaped children read_attribute read_table read_table_at read_fields read_children read_tree read_unit_under nesting tree_bytes read_section read_item
a_text = refl

no_type : after (read_section Five Little first_table fifteen) (id 0 12) 0x49 (pos 1) ≡ refused_as refused.NoAttribute
unfolding shape attribute shaped children read_attribute read_table read_table_at read_fields read_children read_tree read_unit_under nesting tree_bytes read_section read_item
no_type = refl

-- ---- an indirect value: udata, 5 in two bytes

abbrev indirect_table : List ℕ
indirect_table = 0x01 ∷ 0x11 ∷ 0x00 ∷ 0x0b ∷ 0x16 ∷ 0x00 ∷ 0x00 ∷ 0x00 ∷ []

abbrev of_size : ℕ → ℕ → List ℕ
of_size low high = 0x0c ∷ 0x00 ∷ 0x00 ∷ 0x00 ∷ 0x05 ∷ 0x00 ∷ 0x01 ∷ 0x08 ∷ 0x00 ∷ 0x00 ∷ 0x00 ∷ 0x00 ∷ 0x01 ∷ 0x0f ∷ low ∷ high ∷ []

padded : after (read_section Five Little indirect_table (of_size 0x85 0x00)) (id 0 12) 0x0b (pos 6) ≡ bytes_are (of_size 0x86 0x00)
unfolding shape attribute shaped children read_attribute read_table read_table_at read_fields read_children read_tree read_unit_under nesting tree_bytes read_section read_item
padded = refl

two_groups : after (read_section Five Little indirect_table (of_size 0x85 0x00)) (id 0 12) 0x0b (pos 300) ≡ bytes_are (of_size 0xac 0x02)
unfolding shape attribute shaped children read_attribute read_table read_table_at read_fields read_children read_tree read_unit_under nesting tree_bytes read_section read_item
two_groups = refl

three_groups : after (read_section Five Little indirect_table (of_size 0x85 0x00)) (id 0 12) 0x0b (pos 16384) ≡ refused_as refused.DoesNotFit
unfolding shape attribute shaped children read_attribute read_table read_table_at read_fields read_children read_tree read_unit_under nesting tree_bytes read_section read_item
three_groups = refl

below_zero : after (read_section Five Little indirect_table (of_size 0x85 0x00)) (id 0 12) 0x0b (negsuc 0) ≡ refused_as refused.DoesNotFit
unfolding shape attribute shaped children read_attribute read_table read_table_at read_fields read_children read_tree read_unit_under nesting tree_bytes read_section read_item
below_zero = refl

-- ---- siblings: root at 12, namespace at 13, its null at 18, the root's at 19

abbrev sibling_table : List ℕ
sibling_table = 0x01 ∷ 0x11 ∷ 0x01 ∷ 0x00 ∷ 0x00 ∷ 0x02 ∷ 0x39 ∷ 0x01 ∷ 0x01 ∷ 0x13 ∷ 0x00 ∷ 0x00 ∷ 0x00 ∷ []

abbrev sibling_at : ℕ → List ℕ
sibling_at v = 0x10 ∷ 0x00 ∷ 0x00 ∷ 0x00 ∷ 0x05 ∷ 0x00 ∷ 0x01 ∷ 0x08 ∷ 0x00 ∷ 0x00 ∷ 0x00 ∷ 0x00 ∷ 0x01 ∷ 0x02 ∷ v ∷ 0x00 ∷ 0x00 ∷ 0x00 ∷ 0x00 ∷ 0x00 ∷ []

to_its_own_null : after (read_section Five Little sibling_table (sibling_at 0x13)) (id 0 13) 0x01 (pos 18) ≡ refused_as refused.BadTarget
unfolding shape attribute shaped children read_attribute read_table read_table_at read_fields read_children read_tree read_unit_under nesting tree_bytes read_section read_item
to_its_own_null = refl

-- that of a last child is a null's offset
to_the_next_null : after (read_section Five Little sibling_table (sibling_at 0x12)) (id 0 13) 0x01 (pos 19) ≡ bytes_are (sibling_at 0x13)
unfolding shape attribute shaped children read_attribute read_table read_table_at read_fields read_children read_tree read_unit_under nesting tree_bytes read_section read_item
to_the_next_null = refl

-- ---- the constant of a declaration

abbrev constant_table : List ℕ
constant_table = 0x01 ∷ 0x11 ∷ 0x00 ∷ 0x0b ∷ 0x21 ∷ 0xff ∷ 0x7f ∷ 0x00 ∷ 0x00 ∷ 0x00 ∷ []

abbrev of_constant : List ℕ
of_constant = 0x09 ∷ 0x00 ∷ 0x00 ∷ 0x00 ∷ 0x05 ∷ 0x00 ∷ 0x01 ∷ 0x08 ∷ 0x00 ∷ 0x00 ∷ 0x00 ∷ 0x00 ∷ 0x01 ∷ []

in_the_table : after (read_section Five Little constant_table of_constant) (id 0 12) 0x0b (pos 4) ≡ refused_as refused.InTable
unfolding shape attribute shaped children read_attribute read_table read_table_at read_fields read_children read_tree read_unit_under nesting tree_bytes read_section read_item
in_the_table = refl

-- ---- of two attributes of a name the first

abbrev twice_table : List ℕ
twice_table = 0x01 ∷ 0x11 ∷ 0x00 ∷ 0x0b ∷ 0x0b ∷ 0x0b ∷ 0x0b ∷ 0x00 ∷ 0x00 ∷ 0x00 ∷ []

abbrev two_sizes : ℕ → ℕ → List ℕ
two_sizes a b = 0x0b ∷ 0x00 ∷ 0x00 ∷ 0x00 ∷ 0x05 ∷ 0x00 ∷ 0x01 ∷ 0x08 ∷ 0x00 ∷ 0x00 ∷ 0x00 ∷ 0x00 ∷ 0x01 ∷ a ∷ b ∷ []

the_first : after (read_section Five Little twice_table (two_sizes 1 2)) (id 0 12) 0x0b (pos 255) ≡ bytes_are (two_sizes 255 2)
unfolding shape attribute shaped children read_attribute read_table read_table_at read_fields read_children read_tree read_unit_under nesting tree_bytes read_section read_item
the_first = refl
