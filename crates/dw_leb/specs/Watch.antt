-- A watched reader or writer, and the fault that it keeps.
use Rattle.std.specs.Prelude.{◌≤◌, ◌<◌, ℕ, zero, List, ◌∷◌, length, take, Option, Some, None, Result, Ok, Err, ⊤}
use Rattle.std.specs.Io.KnownBytes.{Appends, Consumes}
use Rattle.std.specs.IoError.{error_kind}
use Rattle.std.specs.declared.io.Error.{Error}
use Rattle.std.specs.declared.io.ErrorKind.{ErrorKind}
use Rattle.std.specs.declared.io.ErrorKind.TheVariants.{WriteZero}
use Rattle.dw_leb.specs.declared.watch.Watched.{Watched}
use Rattle.dw_leb.specs.declared.errors.ReadError.{ReadError}
use Rattle.dw_leb.specs.declared.errors.ReadError.TheVariants as reads
use Rattle.dw_leb.specs.declared.errors.WriteError.{WriteError}
use Rattle.dw_leb.specs.declared.errors.WriteError.TheVariants as writes

-- the reader or writer that is watched
abbrev pub inner_of : {T : Type 0} → Watched T → T
inner_of w = w.inner

-- the kind of the first call that failed
abbrev pub fault_of : {T : Type 0} → Watched T → Option ErrorKind
fault_of w = w.first

-- the fault of one read
abbrev pub read_fault : Result ℕ Error → Option ErrorKind
read_fault (Ok n) = None
read_fault (Err e) = Some (error_kind e)

-- the fault of one write of some bytes: an error, or that none of them was taken
abbrev pub write_fault : Result ℕ Error → List ℕ → Option ErrorKind
write_fault (Ok zero) (b ∷ bytes) = Some WriteZero
write_fault (Ok n) bytes = None
write_fault (Err e) bytes = Some (error_kind e)

-- the reader's fault that an answer tells
abbrev pub reader_fault : {X : Type 0} → Result X ReadError → Option ErrorKind
reader_fault (Err (reads.Io kind)) = Some kind
reader_fault (Err (reads.Fault f)) = None
reader_fault (Err reads.NoMemory) = None
reader_fault (Ok x) = None

-- the writer's fault that an answer tells
abbrev pub writer_fault : {X : Type 0} → Result X WriteError → Option ErrorKind
writer_fault (Err (writes.Io kind)) = Some kind
writer_fault (Ok x) = None

-- at most n known bytes are taken
abbrev pub ConsumesUpTo : Option (List ℕ) → Option (List ℕ) → ℕ → Type 0
ConsumesUpTo old new n = (bytes : List ℕ) × (length bytes ≤ n) × Consumes old new bytes

-- known bytes grow by a beginning of these
abbrev pub AppendsFront : Option (List ℕ) → Option (List ℕ) → List ℕ → Type 0
AppendsFront old new bytes = (n : ℕ) × (n ≤ length bytes) × Appends old new (take n bytes)

-- What a call that writes these bytes wrote: at Ok all of them, after an error a beginning.
abbrev pub Wrote : {X : Type 0} → Option (List ℕ) → Option (List ℕ) → List ℕ → Result X WriteError → Type 0
Wrote old new bytes (Ok x) = Appends old new bytes
Wrote old new bytes (Err e) = AppendsFront old new bytes

-- At NoMemory there was something to keep: of known bytes at least one was taken.
abbrev pub KeptSome : {X : Type 0} → Option (List ℕ) → Option (List ℕ) → Result X ReadError → Type 0
KeptSome old new (Ok x) = ⊤
KeptSome old new (Err (reads.Fault f)) = ⊤
KeptSome old new (Err reads.NoMemory) = (bytes : List ℕ) × (0 < length bytes) × Consumes old new bytes
KeptSome old new (Err (reads.Io kind)) = ⊤
