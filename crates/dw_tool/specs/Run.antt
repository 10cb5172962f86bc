-- What a run reads, and what it writes.
use Rattle.std.specs.Prelude.{◌≡◌, ◌<◌, ℕ, List, length, Option, Result, Ok, Err, IsSome, ⊤, ◌⊎◌, if◌then◌else◌}
use Rattle.std.specs.Io.KnownBytes.{Appends, Consumes, Keeps}
use Rattle.dw_leb.specs.declared.order.Order.{Order}
use Rattle.dw_leb.specs.declared.errors.ReadError.TheVariants as reads
use Rattle.dw_leb.specs.Watch.{AppendsFront}
use Rattle.dw_header.specs.declared.versions.Versions.{Versions}
use Rattle.dw_section.specs.Lookup.{unit_at}
use Rattle.dw_section.specs.Section.{WholeSection, section_bytes}
use Rattle.dw_section.specs.Reads.{TakesSection, TakesNoSection}
use Rattle.dw_check.specs.Findings.{findings}
use Rattle.dw_ctype.specs.declared.fault.TypeError.{TypeError}
use Rattle.dw_tool.specs.declared.command.Command.{Command}
use Rattle.dw_tool.specs.declared.command.Command.TheVariants.{Show, Find, TypeOf, Check, SetNumber, Copy}
use Rattle.dw_tool.specs.declared.status.Status.{Status}
use Rattle.dw_tool.specs.declared.status.Status.TheVariants.{Good, Bad}
use Rattle.dw_tool.specs.declared.status.ToolError.{ToolError}
use Rattle.dw_tool.specs.declared.status.ToolError.TheVariants as tool
use Rattle.dw_strings.specs.Text.{StringSections}
use Rattle.dw_tool.specs.Show.{section_text}
use Rattle.dw_tool.specs.Find.{found_text, is_any}
use Rattle.dw_tool.specs.Findings.{findings_text}
use Rattle.dw_tool.specs.Set.{set_at}
use Rattle.dw_tool.specs.Status.{refused_type}
use Rattle.dw_tool.specs.declared.status.Refused.{Refused}
use Rattle.dw_tool.specs.TypeOf.{type_line}

-- the line of a type, with its error as one of a run
abbrev pub told : Result (List ℕ) TypeError → Result (List ℕ) ToolError
told (Ok line) = Ok line
told (Err why) = Err (refused_type why)

-- the bytes of the section that a number was set in
abbrev pub bytes_then : Result WholeSection Refused → Result (List ℕ) ToolError
bytes_then (Ok s) = Ok (section_bytes s)
bytes_then (Err why) = Err (tool.Refused why)

-- of a section `show` writes the text, `find` the entries of a name, `type` the type of an entry, `check` what is
-- wrong, `set` the bytes with a number in the place of another, and `copy` the bytes
abbrev pub output : Command → StringSections → WholeSection → Result (List ℕ) ToolError
output Show strings s = Ok (section_text strings s)
output (Find name) strings s = Ok (found_text strings name.now s)
output (TypeOf offset) strings s = told (type_line strings offset s)
output Check strings s = Ok (findings_text (findings strings s))
output (SetNumber offset name value) strings s = bytes_then (set_at offset name value s)
output Copy strings s = Ok (section_bytes s)

-- nothing was found where no line is written
abbrev pub found_status : List ℕ → Status
found_status text = if is_any text then Good else Bad

-- something is wrong where a line is written
abbrev pub checked_status : List ℕ → Status
checked_status text = if is_any text then Bad else Good

-- `find` and `check` say so by their status
abbrev pub status_of : Command → List ℕ → Status
status_of Show text = Good
status_of (Find name) text = found_status text
status_of (TypeOf offset) text = Good
status_of Check text = checked_status text
status_of (SetNumber offset name value) text = Good
status_of Copy text = Good

-- `type` makes its line before it writes it, and `check` its findings, where there is a unit; the others need no memory
-- once the section is read
abbrev pub NeedsMemory : Command → WholeSection → Type 0
NeedsMemory Show s = ⊥
NeedsMemory (Find name) s = ⊥
NeedsMemory (TypeOf offset) s = ⊤
NeedsMemory Check s = (item : ℕ) × IsSome (unit_at s.items item)
NeedsMemory (SetNumber offset name value) s = ⊥
NeedsMemory Copy s = ⊥

-- What is written of a section, by what the writer holds before and after, and answered. Where there is no output
-- nothing is written.
abbrev pub Writes : Command → StringSections → WholeSection → Option (List ℕ) → Option (List ℕ)
    → Result Status ToolError → Type 0
Writes command strings s held held' (Ok status) =
    (text : List ℕ) × (output command strings s ≡ Ok text) × Appends held held' text × (status ≡ status_of command text)
Writes command strings s held held' (Err (tool.Write kind)) =
    (text : List ℕ) × (output command strings s ≡ Ok text) × AppendsFront held held' text
Writes command strings s held held' (Err (tool.Refused r)) =
    (output command strings s ≡ Err (tool.Refused r)) × Keeps held held'
Writes command strings s held held' (Err tool.Memory) =
    (text : List ℕ) × (output command strings s ≡ Ok text) × NeedsMemory command s × Keeps held held'
Writes command strings s held held' (Err (tool.Fault f)) = ⊥
Writes command strings s held held' (Err (tool.Read kind)) = ⊥

-- What a run answers, by the bytes that its reader has left and its writer holds, before and after. Nothing is written
-- before the whole section was read, and nothing at all where it is refused. A fault is the section's first one.
abbrev pub Runs : Command → StringSections → Versions → Order → List ℕ → Option (List ℕ) → Option (List ℕ)
    → Option (List ℕ) → Option (List ℕ) → Result Status ToolError → Type 0
Runs command strings versions order abbreviations left left' held held' (Err (tool.Fault f)) =
    TakesNoSection versions order abbreviations left left' (reads.Fault f) × Keeps held held'
Runs command strings versions order abbreviations left left' held held' (Err (tool.Read kind)) =
    TakesNoSection versions order abbreviations left left' (reads.Io kind) × Keeps held held'
Runs command strings versions order abbreviations left left' held held' (Err tool.Memory) =
    (TakesNoSection versions order abbreviations left left' reads.NoMemory × Keeps held held')
    ⊎ ((s : WholeSection) × TakesSection versions order abbreviations left left' s
    × Writes command strings s held held' (Err tool.Memory))
Runs command strings versions order abbreviations left left' held held' (Err (tool.Write kind)) =
    (s : WholeSection) × TakesSection versions order abbreviations left left' s
    × Writes command strings s held held' (Err (tool.Write kind))
Runs command strings versions order abbreviations left left' held held' (Err (tool.Refused r)) =
    (s : WholeSection) × TakesSection versions order abbreviations left left' s
    × Writes command strings s held held' (Err (tool.Refused r))
Runs command strings versions order abbreviations left left' held held' (Ok status) =
    (s : WholeSection) × TakesSection versions order abbreviations left left' s
    × Writes command strings s held held' (Ok status)

-- At Memory there was something to keep: of known bytes at least one was read.
abbrev pub TookBytes : {X : Type 0} → Option (List ℕ) → Option (List ℕ) → Result X ToolError → Type 0
TookBytes left left' (Ok x) = ⊤
TookBytes left left' (Err (tool.Fault f)) = ⊤
TookBytes left left' (Err (tool.Refused r)) = ⊤
TookBytes left left' (Err (tool.Read kind)) = ⊤
TookBytes left left' (Err (tool.Write kind)) = ⊤
TookBytes left left' (Err tool.Memory) = (bytes : List ℕ) × (0 < length bytes) × Consumes left left' bytes
