-- A run by a command line: the files that it reads, what it makes of them, and how it ends.
use Rattle.std.specs.Prelude.{◌≡◌, ◌≢◌, ◌⊎◌, ◌<◌, ℕ, List, [], ◌∷◌, length, Option, Some, None, Result, Ok, Err, IsErrAnd, Vec, slice_get}
use Rattle.std.specs.Io.KnownBytes.{Consumes}
use Rattle.std.specs.declared.io.ErrorKind.{ErrorKind}
use Rattle.std.specs.Option.{option_map_or}
use Rattle.std.specs.declared.alloc.Global.{Global}
use Rattle.std.specs.Borrow.{Bor}
use Rattle.dw_strings.specs.Text.{StringSections}
use Rattle.dw_tool.specs.declared.failure.Failure.{Failure}
use Rattle.dw_tool.specs.declared.failure.Failure.TheVariants.{File, Output, Memory}
use Rattle.dw_tool.specs.declared.status.Status.{Status}
use Rattle.dw_tool.specs.declared.status.ToolError.{ToolError}
use Rattle.dw_tool.specs.Failure.{FailsAs, RunFails}
use Rattle.dw_tool.specs.Run.{Runs}
use Rattle.dw_cli.specs.declared.outcome.Line.{Line}
use Rattle.dw_cli.specs.declared.outcome.LineError.{LineError}
use Rattle.dw_cli.specs.declared.outcome.LineError.TheVariants as outcome
use Rattle.clap.specs.Kinds.{IsAmong}
use Rattle.clap.specs.Values.{kind_of}
use Rattle.clap.specs.Words.{Text}
use Rattle.dw_cli.specs.Line.{refusals}
use Rattle.clap.specs.declared.error.kind.ErrorKind.TheVariants.{DisplayHelp, DisplayVersion}

-- the files that are read whole, in the order in which they are opened
abbrev pub whole_files : Line → List (Option (Bor (List ℕ)))
whole_files line = Some line.abbrev ∷ line.str ∷ line.line_str ∷ line.str_offsets ∷ []

-- the bytes of the file with this number; none where there is no such file
abbrev pub file_at : List (Vec ℕ Global) → ℕ → List ℕ
file_at files n = option_map_or (λ file. file.items) (slice_get files n) []

-- the sections of texts among the files that were read, in that order
abbrev pub texts_in : List (Vec ℕ Global) → StringSections
texts_in files = record { str = file_at files 1; line_str = file_at files 2; str_offsets = file_at files 3 }

-- how the program ends where a run did so, whose reader reads the file with this path
abbrev pub RunEnds : Result Status ToolError → Bor (List ℕ) → Result Status Failure → Type 0
RunEnds (Ok status) info ended = ended ≡ Ok status
RunEnds (Err e) info ended = IsErrAnd ended (RunFails e info)

-- A run by a line, over files of these bytes: what it answers by the bytes that the reader of `.debug_info` has left
-- and the writer holds, before and after, and how the program ends.
abbrev pub RunsLine : Line → List (Vec ℕ Global) → Option (List ℕ) → Option (List ℕ) → Option (List ℕ) → Option (List ℕ)
    → Result Status Failure → Type 0
RunsLine line files left left' held held' ended =
    (ran : Result Status ToolError)
    × Runs line.command (texts_in files) line.versions line.order (file_at files 0) left left' held held' ran
    × RunEnds ran line.info ended

-- Where the reader of the file with this path failed, the program ends with that; else with the failure of no file.
abbrev pub ReadEnds : Bor (List ℕ) → Option ErrorKind → Result Status Failure → Type 0
ReadEnds info (Some kind) ended = IsErrAnd ended (FailsAs kind (File info))
ReadEnds info None ended = (path : Bor (List ℕ)) → ended ≢ Err (File path)

-- where the writer failed, it ends with a failure of standard output; else with none
abbrev pub WriteEnds : Option ErrorKind → Result Status Failure → Type 0
WriteEnds (Some kind) ended = IsErrAnd ended (FailsAs kind Output)
WriteEnds None ended = ended ≢ Err Output

-- For want of memory it ends, where neither of these failed, only after at least one byte was read.
abbrev pub MemoryEnds : Option (List ℕ) → Option (List ℕ) → Option ErrorKind → Option ErrorKind → Result Status Failure
    → Type 0
MemoryEnds left left' read write ended =
    ended ≡ Err Memory → read ≡ None → write ≡ None → (bytes : List ℕ) × (0 < length bytes) × Consumes left left' bytes

-- The exit status where words are no line: 2 after a mistake, 4 without memory. That of help is told by whether it
-- could be printed.
abbrev pub EndsWith : LineError → ℕ → Type 0
EndsWith (outcome.Parse e) status = (kind_of e ≢ DisplayHelp) → (kind_of e ≢ DisplayVersion) → status ≡ 2
EndsWith (outcome.BadWord bad) status = status ≡ 2
EndsWith outcome.Memory status = status ≡ 4

-- Words that the parser doesn't take, and by which no help is asked for, end with 2, or with 4 for want of memory.
abbrev pub EndsLine : List Text → ℕ → Type 0
EndsLine words status =
    (refusals words ≢ []) → (IsAmong DisplayHelp (refusals words) → ⊥) → (IsAmong DisplayVersion (refusals words) → ⊥)
    → (status ≡ 2) ⊎ (status ≡ 4)
