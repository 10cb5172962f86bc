-- The entries of a name in a section, a line for each.
use Rattle.std.specs.Prelude.{ℕ, suc, ◌+◌, Bool, true, false, List, [], ◌∷◌, ◌++◌, Option, Some, None, codes, if◌then◌else◌}
use Rattle.dw_leb.specs.Constants.{DW_AT_name}
use Rattle.dw_tree.specs.Lent.{LentAttribute, EntryAt, attributes_of, entries_of, first_named}
use Rattle.dw_unit.specs.Unit.{tree_of}
use Rattle.dw_section.specs.Item.{Item, Known, Other}
use Rattle.dw_section.specs.Section.{WholeSection}
use Rattle.dw_strings.specs.Text.{StringSections, is_text}
use Rattle.dw_tool.specs.Show.{start_at, tag_at, text_of}
use Rattle.dw_tool.specs.Text.{hexadecimal, tag_text}

abbrev pub has_text : StringSections → List Item → ℕ → List ℕ → Option LentAttribute → Bool
has_text strings items item name None = false
has_text strings items item name (Some a) = is_text name (text_of strings items item a)

-- the first DW_AT_name of the entry has this text
abbrev pub is_named : StringSections → List Item → ℕ → List ℕ → EntryAt → Bool
is_named strings items item name e = has_text strings items item name (first_named DW_AT_name (attributes_of e))

-- where it begins if its unit starts here, and its tag
abbrev pub found_line : ℕ → EntryAt → List ℕ
found_line start e = hexadecimal (start + e.offset) ++ (codes " " ++ (tag_text (tag_at e) ++ codes "\n"))

abbrev pub found_entry : StringSections → List Item → ℕ → List ℕ → EntryAt → List ℕ
found_entry strings items item name e =
    if is_named strings items item name e then found_line (start_at items item) e else []

abbrev pub found_entries : StringSections → List Item → ℕ → List ℕ → List EntryAt → List ℕ
found_entries strings items item name [] = []
found_entries strings items item name (e ∷ rest) =
    found_entry strings items item name e ++ found_entries strings items item name rest

-- of a unit the entries of this name, each before those below it; what isn't read has none
abbrev pub found_item : StringSections → List Item → ℕ → List ℕ → Item → List ℕ
found_item strings items number name (Known u) = found_entries strings items number name (entries_of (tree_of u))
found_item strings items number name (Other bytes) = []

-- of items one after the other, the first of which has this number
abbrev pub found_items : StringSections → List Item → ℕ → List ℕ → List Item → List ℕ
found_items strings items number name [] = []
found_items strings items number name (x ∷ xs) =
    found_item strings items number name x ++ found_items strings items (suc number) name xs

abbrev pub found_text : StringSections → List ℕ → WholeSection → List ℕ
found_text strings name s = found_items strings s.items 0 name s.items

-- whether a line was found
abbrev pub is_any : List ℕ → Bool
is_any [] = false
is_any (byte ∷ rest) = true
