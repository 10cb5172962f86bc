-- How the program ends where it gave up: the exit status and the line on standard error.
use Rattle.std.specs.Prelude.{◌≡◌, ◌≢◌, List, ℕ, ◌++◌, Result, Ok, Err, codes}
use Rattle.std.specs.Borrow.{Bor}
use Rattle.std.specs.declared.io.ErrorKind.{ErrorKind}
use Rattle.std.specs.declared.io.ErrorKind.TheVariants.{OutOfMemory}
use Rattle.dw_leb.specs.ErrorText.{fault_text}
use Rattle.dw_tool.specs.declared.failure.Failure.{Failure}
use Rattle.dw_tool.specs.declared.failure.Failure.TheVariants.{Fault, Refused, File, Output, Memory}
use Rattle.dw_tool.specs.declared.status.Status.{Status}
use Rattle.dw_tool.specs.declared.status.Status.TheVariants.{Good, Bad}
use Rattle.dw_tool.specs.declared.status.ToolError.{ToolError}
use Rattle.dw_tool.specs.declared.status.ToolError.TheVariants as tool
use Rattle.dw_tool.specs.Status.{refused_name}

-- the line, without its end
abbrev pub failure_line : Failure → List ℕ
failure_line (Fault f) = fault_text f
failure_line (Refused r) = codes "refused " ++ refused_name r
failure_line (File path) = codes "file " ++ path.now
failure_line Output = codes "file standard output"
failure_line Memory = codes "memory"

abbrev pub failure_status : Failure → ℕ
failure_status (Fault f) = 1
failure_status (Refused r) = 1
failure_status (File path) = 3
failure_status Output = 3
failure_status Memory = 4

-- the exit status of a program that ran to its end, or gave up
abbrev pub exit_status : Result Status Failure → ℕ
exit_status (Ok Good) = 0
exit_status (Ok Bad) = 1
exit_status (Err failure) = failure_status failure

-- a device failed with an error of this kind: want of memory is no failure of the device
abbrev pub FailsAs : ErrorKind → Failure → Failure → Type 0
FailsAs kind device failure = (kind ≡ OutOfMemory → failure ≡ Memory) × (kind ≢ OutOfMemory → failure ≡ device)

-- why the program gives up where a run did, whose reader reads the file with this path
abbrev pub RunFails : ToolError → Bor (List ℕ) → Failure → Type 0
RunFails (tool.Fault f) info failure = failure ≡ Fault f
RunFails (tool.Refused r) info failure = failure ≡ Refused r
RunFails (tool.Read kind) info failure = FailsAs kind (File info) failure
RunFails (tool.Write kind) info failure = FailsAs kind Output failure
RunFails tool.Memory info failure = failure ≡ Memory
