-- Errors of reading and writing as errors of a run, and the names of refusals.
use Rattle.std.specs.Prelude.{List, ℕ, Option, Some, None, Result, Ok, Err, codes}
use Rattle.std.specs.declared.io.ErrorKind.{ErrorKind}
use Rattle.dw_leb.specs.declared.errors.ReadError.{ReadError}
use Rattle.dw_leb.specs.declared.errors.ReadError.TheVariants as reads
use Rattle.dw_leb.specs.declared.errors.WriteError.{WriteError}
use Rattle.dw_leb.specs.declared.errors.WriteError.TheVariants as writes
use Rattle.dw_ctype.specs.declared.fault.TypeError.{TypeError}
use Rattle.dw_ctype.specs.declared.fault.TypeError.TheVariants as types
use Rattle.dw_section.specs.declared.set_refusal.SetRefusal.{SetRefusal}
use Rattle.dw_section.specs.declared.set_refusal.SetRefusal.TheVariants as sets
use Rattle.dw_tool.specs.declared.status.Refused.{Refused}
use Rattle.dw_tool.specs.declared.status.Refused.TheVariants.{NoEntry, TypeTooBig, NoAttribute, NotANumber, InTable, DoesNotFit, BadTarget}
use Rattle.dw_tool.specs.declared.status.ToolError.{ToolError}
use Rattle.dw_tool.specs.declared.status.ToolError.TheVariants as tool

-- the name of a refusal
abbrev pub refused_name : Refused → List ℕ
refused_name NoEntry = codes "NoEntry"
refused_name TypeTooBig = codes "TypeTooBig"
refused_name NoAttribute = codes "NoAttribute"
refused_name NotANumber = codes "NotANumber"
refused_name InTable = codes "InTable"
refused_name DoesNotFit = codes "DoesNotFit"
refused_name BadTarget = codes "BadTarget"

abbrev pub refused_read : ReadError → ToolError
refused_read (reads.Fault f) = tool.Fault f
refused_read reads.NoMemory = tool.Memory
refused_read (reads.Io kind) = tool.Read kind

abbrev pub refused_write : WriteError → ToolError
refused_write (writes.Io kind) = tool.Write kind

abbrev pub refused_type : TypeError → ToolError
refused_type types.NoEntry = tool.Refused NoEntry
refused_type types.TypeTooBig = tool.Refused TypeTooBig
refused_type types.NoMemory = tool.Memory

-- why a number isn't set, by the same name
abbrev pub refused_set : SetRefusal → Refused
refused_set sets.NoEntry = NoEntry
refused_set sets.NoAttribute = NoAttribute
refused_set sets.NotANumber = NotANumber
refused_set sets.InTable = InTable
refused_set sets.DoesNotFit = DoesNotFit
refused_set sets.BadTarget = BadTarget

-- the reader's fault that a run tells
abbrev pub run_reader_fault : {X : Type 0} → Result X ToolError → Option ErrorKind
run_reader_fault (Ok x) = None
run_reader_fault (Err (tool.Read kind)) = Some kind
run_reader_fault (Err (tool.Fault f)) = None
run_reader_fault (Err (tool.Refused r)) = None
run_reader_fault (Err (tool.Write kind)) = None
run_reader_fault (Err tool.Memory) = None

-- the writer's fault that a run tells
abbrev pub run_writer_fault : {X : Type 0} → Result X ToolError → Option ErrorKind
run_writer_fault (Ok x) = None
run_writer_fault (Err (tool.Write kind)) = Some kind
run_writer_fault (Err (tool.Fault f)) = None
run_writer_fault (Err (tool.Refused r)) = None
run_writer_fault (Err (tool.Read kind)) = None
run_writer_fault (Err tool.Memory) = None
