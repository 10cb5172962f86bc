-- Texts on their way to a writer, through a buffer.
use Rattle.std.specs.Prelude.{◌≡◌, ℕ, List, ◌++◌, Option, None, Result, Ok, Err}
use Rattle.std.specs.Borrow.{MutBor}
use Rattle.std.specs.Io.KnownBytes.{Appends}
use Rattle.dw_leb.specs.declared.watch.Watched.{Watched}
use Rattle.dw_leb.specs.declared.errors.WriteError.{WriteError}
use Rattle.dw_leb.specs.Watch.{AppendsFront, fault_of, inner_of, writer_fault}
use Rattle.dw_tool.specs.declared.output.Output.{Output}

-- the writer, as it is now
abbrev pub writer_of : {W : Type 0} → Output W → Watched W
writer_of out = out.writer.now

-- the bytes that are still to be written
abbrev pub buffered : {W : Type 0} → Output W → List ℕ
buffered out = out.buffer

-- it stands before this writer, which its owner gets back
abbrev pub StandsBefore : {W : Type 0} → Output W → MutBor (Watched W) → Type 0
StandsBefore out writer = out.writer.ghost_name ≡ writer.ghost_name

-- both stand before the same writer
abbrev pub SameWriter : {W : Type 0} → Output W → Output W → Type 0
SameWriter old new = new.writer.ghost_name ≡ old.writer.ghost_name

-- no fault stands
abbrev pub IsClear : {W : Type 0} → Output W → Type 0
IsClear out = fault_of (writer_of out) ≡ None

-- What becomes of a text behind the bytes of a buffer. At Ok what was written, and behind it what the buffer has then,
-- are the bytes and the text, neither more nor less; after an error a beginning of them was written.
abbrev pub Passes : {X : Type 0} → Option (List ℕ) → Option (List ℕ) → List ℕ → List ℕ → List ℕ → Result X WriteError
    → Type 0
Passes old new buffer buffer' text (Ok x) =
    (written : List ℕ) × Appends old new written × (written ++ buffer' ≡ buffer ++ text)
Passes old new buffer buffer' text (Err e) = AppendsFront old new (buffer ++ text)

-- What a call that appends a text leaves of an output: its writer and its buffer have the text, or the fault that is
-- answered stands.
pub record Puts {W X : Type 0} (contents : W → Option (List ℕ)) (old new : Output W) (text : List ℕ)
    (result : Result X WriteError) : Type 0 where
  pub passes :
      Passes (contents (inner_of (writer_of old))) (contents (inner_of (writer_of new))) (buffered old) (buffered new)
      text result
  pub fault : fault_of (writer_of new) ≡ writer_fault result
  pub same : SameWriter old new
