-- The text of a section: of its items, of the entries of its units, of their attributes.
use Rattle.std.specs.Prelude.{ℕ, suc, ◌+◌, ◌==◌, List, [], ◌∷◌, ◌++◌, length, take, Option, Some, None, Ok, Err, codes, if◌then◌else◌}
use Rattle.std.specs.Fmt.{signed_decimal}
use Rattle.dw_leb.specs.Constants.{DW_FORM_string}
use Rattle.dw_leb.specs.declared.order.Format.{Format}
use Rattle.dw_leb.specs.declared.order.Format.TheVariants.{Dwarf32, Dwarf64}
use Rattle.dw_form.specs.Form.{Value, Num, Wide, Uleb, Sleb, Block, Text, Present, Implicit}
use Rattle.dw_abbrev.specs.Table.{declared}
use Rattle.dw_tree.specs.Lent.{LentAttribute, EntryAt, attributes_of, code_of, entries_of, tag_of}
use Rattle.dw_header.specs.declared.kind.Kind.{Kind}
use Rattle.dw_header.specs.declared.kind.Kind.TheVariants.{Compile, Partial, TypeUnit, Skeleton, Four}
use Rattle.dw_header.specs.Header.{Header}
use Rattle.dw_unit.specs.Unit.{WholeUnit, bytes_of, tree_of}
use Rattle.dw_section.specs.declared.id.EntryId.{EntryId}
use Rattle.dw_section.specs.declared.id.RefFault.{RefFault}
use Rattle.dw_section.specs.declared.id.RefFault.TheVariants.{NotReference, OutsideUnit, OutsideSection, NotAnEntry, InOther, NoSignature, BadTypeOffset, Supplementary}
use Rattle.dw_section.specs.Item.{Item, Known, Other}
use Rattle.dw_section.specs.Section.{WholeSection, items_bytes}
use Rattle.dw_section.specs.Reference.{Target, named}
use Rattle.dw_section.specs.Lookup.{unit_at}
use Rattle.dw_strings.specs.declared.fault.StrFault.{StrFault}
use Rattle.dw_strings.specs.declared.fault.StrFault.TheVariants as fault
use Rattle.dw_strings.specs.Text.{StringSections, Named, named_text}
use Rattle.dw_tool.specs.Text.{attribute_text, block, hexadecimal, labelled, labelled_decimal, quoted, tag_text}

abbrev pub value_text : Value → List ℕ
value_text (Num x) = hexadecimal x
value_text (Wide x) = hexadecimal x
value_text (Uleb u) = hexadecimal u.value
value_text (Sleb s) = signed_decimal s.value
value_text (Block width bytes) = block bytes
value_text (Text bytes) = quoted bytes
value_text Present = codes "present"
value_text (Implicit s) = signed_decimal s.value

-- ---- offsets in the section

-- where the item of a number starts: behind the bytes of those before it
abbrev pub start_at : List Item → ℕ → ℕ
start_at items number = length (items_bytes (take number items))

-- where an entry begins
abbrev pub offset_in : List Item → EntryId → ℕ
offset_in items id = start_at items id.item + id.offset

-- ---- what references name

-- why a reference names no entry; a value that is no reference has nothing to say
abbrev pub unresolved : RefFault → List ℕ
unresolved NotReference = []
unresolved OutsideUnit = codes " -> OutsideUnit"
unresolved OutsideSection = codes " -> OutsideSection"
unresolved NotAnEntry = codes " -> NotAnEntry"
unresolved InOther = codes " -> InOther"
unresolved NoSignature = codes " -> NoSignature"
unresolved BadTypeOffset = codes " -> BadTypeOffset"
unresolved Supplementary = codes " -> Supplementary"

-- where the entry that is named begins
abbrev pub target_text : List Item → Target → List ℕ
target_text items (Ok id) = labelled (codes " -> ") (offset_in items id)
target_text items (Err why) = unresolved why

-- ---- what texts are named

-- why no text is named; a value that is no text has nothing to say
abbrev pub no_text : StrFault → List ℕ
no_text fault.NotText = []
no_text fault.PastSection = codes " PastSection"
no_text fault.NoZero = codes " NoZero"
no_text fault.NoBase = codes " NoBase"
no_text fault.PastOffsets = codes " PastOffsets"
no_text fault.Supplementary = codes " Supplementary"

abbrev pub named_quoted : Named → List ℕ
named_quoted (Ok bytes) = codes " " ++ quoted bytes
named_quoted (Err why) = no_text why

-- ---- attributes and entries of the unit that is this item of a section

abbrev pub target_if : List Item → ℕ → LentAttribute → Option WholeUnit → Target
target_if items item a None = Err NotReference
target_if items item a (Some u) = named items item u a.form a.attr.value

-- what an attribute's value names
abbrev pub target_of : List Item → ℕ → LentAttribute → Target
target_of items item a = target_if items item a (unit_at items item)

abbrev pub text_if : StringSections → LentAttribute → Option WholeUnit → Named
text_if strings a None = Err fault.NotText
text_if strings a (Some u) = named_text strings u a.form a.attr.value

-- the text that an attribute's value names
abbrev pub text_of : StringSections → List Item → ℕ → LentAttribute → Named
text_of strings items item a = text_if strings a (unit_at items item)

-- behind a number that names a text, that text; of the form string the value itself is the text
abbrev pub stored_text : StringSections → List Item → ℕ → LentAttribute → List ℕ
stored_text strings items item a = if a.form == DW_FORM_string then [] else named_quoted (text_of strings items item a)

-- what stands behind a value: what it names, an entry or a text
abbrev pub named_behind : StringSections → List Item → ℕ → LentAttribute → List ℕ
named_behind strings items item a = target_text items (target_of items item a) ++ stored_text strings items item a

-- the value in its place, and behind it what it names
abbrev pub placed_value : StringSections → List Item → ℕ → LentAttribute → List ℕ
placed_value strings items item a = value_text a.attr.value ++ named_behind strings items item a

abbrev pub attribute_line : StringSections → List Item → ℕ → LentAttribute → List ℕ
attribute_line strings items item a =
    codes "  " ++ (attribute_text a.name ++ (codes " " ++ (placed_value strings items item a ++ codes "\n")))

abbrev pub attribute_lines : StringSections → List Item → ℕ → List LentAttribute → List ℕ
attribute_lines strings items item [] = []
attribute_lines strings items item (a ∷ rest) =
    attribute_line strings items item a ++ attribute_lines strings items item rest

-- the tag that an entry's declaration gives it
abbrev pub tag_at : EntryAt → ℕ
tag_at e = tag_of (declared e.table (code_of e.node).value)

-- its depth, where it begins if its unit starts here, and its tag
abbrev pub entry_line : ℕ → EntryAt → List ℕ
entry_line start e =
    labelled_decimal (codes "<") e.depth
    ++ (labelled (codes "> ") (start + e.offset) ++ (codes " " ++ (tag_text (tag_at e) ++ codes "\n")))

abbrev pub entry_text : StringSections → List Item → ℕ → EntryAt → List ℕ
entry_text strings items item e =
    entry_line (start_at items item) e ++ attribute_lines strings items item (attributes_of e)

abbrev pub entries_text : StringSections → List Item → ℕ → List EntryAt → List ℕ
entries_text strings items item [] = []
entries_text strings items item (e ∷ rest) = entry_text strings items item e ++ entries_text strings items item rest

-- ---- headers

abbrev pub kind_text : Kind → List ℕ
kind_text Compile = codes "compile"
kind_text Partial = codes "partial"
kind_text (TypeUnit signature offset) = codes "type"
kind_text (Skeleton id) = codes "skeleton"
kind_text Four = codes "four"

abbrev pub format_text : Format → List ℕ
format_text Dwarf32 = codes " 32"
format_text Dwarf64 = codes " 64"

-- what a kind adds
abbrev pub added_text : Kind → List ℕ
added_text Compile = []
added_text Partial = []
added_text (TypeUnit signature offset) = labelled (codes " signature ") signature ++ labelled (codes " type ") offset
added_text (Skeleton id) = labelled (codes " dwo ") id
added_text Four = []

-- the unit's size, the offset of its abbreviation table, and the size of an address
abbrev pub header_sizes : Header → ℕ → List ℕ
header_sizes h size =
    labelled_decimal (codes " size ") size
    ++ (labelled (codes " abbrev ") h.abbrev_offset ++ labelled_decimal (codes " addr ") h.address_size)

-- the header of a unit of this size that starts here
abbrev pub header_line : ℕ → Header → ℕ → List ℕ
header_line start h size =
    labelled (codes "unit ") start
    ++ (codes " "
    ++ (kind_text h.kind ++ (format_text h.format ++ (header_sizes h size ++ (added_text h.kind ++ codes "\n")))))

-- ---- items

-- a unit: its header, and its entries, each before those below it
abbrev pub unit_text : StringSections → List Item → ℕ → WholeUnit → List ℕ
unit_text strings items item u =
    header_line (start_at items item) u.header (length (bytes_of u))
    ++ entries_text strings items item (entries_of (tree_of u))

-- an item that isn't read starts here and has so many bytes
abbrev pub other_line : ℕ → ℕ → List ℕ
other_line start size = labelled (codes "other ") start ++ (labelled_decimal (codes " size ") size ++ codes "\n")

abbrev pub item_text : StringSections → List Item → ℕ → Item → List ℕ
item_text strings items number (Known u) = unit_text strings items number u
item_text strings items number (Other bytes) = other_line (start_at items number) (length bytes)

-- items one after the other, the first of which has this number
abbrev pub items_text : StringSections → List Item → ℕ → List Item → List ℕ
items_text strings items number [] = []
items_text strings items number (x ∷ xs) = item_text strings items number x ++ items_text strings items (suc number) xs

-- the texts that it names are in the sections of texts
abbrev pub section_text : StringSections → WholeSection → List ℕ
section_text strings s = items_text strings s.items 0 s.items
