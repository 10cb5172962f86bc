-- The text of an entry in the pieces in which it is appended: each newline is in one piece with the beginning of the
-- line behind it.
use Rattle.std.specs.Prelude.{ℕ, ◌+◌, List, [], ◌∷◌, ◌++◌, codes}
use Rattle.dw_tree.specs.Lent.{LentAttribute, EntryAt}
use Rattle.dw_section.specs.Item.{Item}
use Rattle.dw_strings.specs.Text.{StringSections}
use Rattle.dw_tool.specs.Show.{placed_value, tag_at}
use Rattle.dw_tool.specs.Text.{attribute_text, labelled, labelled_decimal, tag_text}

-- what is behind a label, and isn't written
abbrev pub padding : List ℕ
padding = codes "                        "

-- a tag of this name in the line of its entry
abbrev pub tag_label : List ℕ → List ℕ
tag_label name = codes " DW_TAG_" ++ name

-- what stands before the value of an attribute of this name
abbrev pub attribute_label : List ℕ → List ℕ
attribute_label name = codes "\n  DW_AT_" ++ (name ++ codes " ")

-- the depth of an entry, and what stands between it and the entry's offset
abbrev pub depth_text : ℕ → List ℕ
depth_text depth = labelled_decimal (codes "<") depth ++ codes "> "

-- the line of an entry without its newline
abbrev pub entry_head : ℕ → EntryAt → List ℕ
entry_head start e =
    labelled_decimal (codes "<") e.depth
    ++ (labelled (codes "> ") (start + e.offset) ++ (codes " " ++ tag_text (tag_at e)))

-- a newline, and the line of an attribute without its own
abbrev pub next_attribute : StringSections → List Item → ℕ → LentAttribute → List ℕ
next_attribute strings items item a =
    codes "\n  " ++ (attribute_text a.name ++ (codes " " ++ placed_value strings items item a))

abbrev pub next_attributes : StringSections → List Item → ℕ → List LentAttribute → List ℕ
next_attributes strings items item [] = []
next_attributes strings items item (a ∷ rest) =
    next_attribute strings items item a ++ next_attributes strings items item rest
