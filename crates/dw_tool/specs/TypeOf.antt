-- The type of the entry at an offset of a section, as a line of text.
use Rattle.std.specs.Prelude.{◌≡◌, ℕ, Bool, List, [], ◌++◌, Option, Some, None, Result, Ok, Err, codes, unwrap_or, ◌==◌, ◌||◌, if◌then◌else◌}
use Rattle.dw_leb.specs.Constants.{DW_TAG_formal_parameter, DW_TAG_member, DW_TAG_subprogram, DW_TAG_variable}
use Rattle.dw_tree.specs.Lent.{EntryAt}
use Rattle.dw_section.specs.Lookup.{entry, find}
use Rattle.dw_section.specs.Section.{WholeSection}
use Rattle.dw_section.specs.declared.id.EntryId.{EntryId}
use Rattle.dw_strings.specs.Text.{StringSections}
use Rattle.dw_ctype.specs.declared.fault.TypeError.{TypeError}
use Rattle.dw_ctype.specs.declared.fault.TypeError.TheVariants.{NoEntry, NoMemory}
use Rattle.dw_ctype.specs.Answer.{answer}
use Rattle.dw_ctype.specs.Types.{Source, name_of, tag}

-- a variable, formal_parameter, member or subprogram
abbrev pub has_name : ℕ → Bool
has_name tag =
    tag == DW_TAG_variable || (tag == DW_TAG_formal_parameter || (tag == DW_TAG_member || tag == DW_TAG_subprogram))

-- the name of such an entry, where it can be looked up
abbrev pub own_name : Source → ℕ → EntryAt → List ℕ
own_name s i e = if has_name (tag e) then unwrap_or (name_of s i e) [] else []

abbrev pub name_shown : Source → ℕ → Option EntryAt → List ℕ
name_shown s i None = []
name_shown s i (Some e) = own_name s i e

abbrev pub line_of : Result (List ℕ) TypeError → Result (List ℕ) TypeError
line_of (Ok text) = Ok (text ++ codes "\n")
line_of (Err why) = Err why

abbrev pub line_at : Source → Option EntryId → Result (List ℕ) TypeError
line_at s None = Err NoEntry
line_at s (Some id) = line_of (answer s id (name_shown s id.item (entry s.items id)))

-- the line, or why there is none, whatever memory there is
abbrev pub type_line : StringSections → ℕ → WholeSection → Result (List ℕ) TypeError
type_line strings offset section =
    line_at (record { items = section.items; strings = strings }) (find section.items offset)

-- why there is no line: there is none, or memory was refused for one
abbrev pub OrMemory : Result (List ℕ) TypeError → TypeError → Type 0
OrMemory (Err why) error = error ≡ why
OrMemory (Ok line) error = error ≡ NoMemory
