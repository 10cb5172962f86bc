-- Texts that are appended to a vector.
use Rattle.std.specs.Prelude.{◌≡◌, ◌<◌, ◌≤◌, ◌+◌, ℕ, List, ◌++◌, length, Vec, Result, Ok, Err}
use Rattle.std.specs.Vec.{vec_len, vec_capacity}
use Rattle.std.specs.declared.alloc.AllocError.{AllocError}
use Rattle.std.specs.declared.alloc.Global.{Global}

-- behind the bytes that were there stands the text, or after an error whatever was appended till then
abbrev pub Grows : {X : Type 0} → List ℕ → List ℕ → List ℕ → Result X AllocError → Type 0
Grows old new text (Ok x) = new ≡ old ++ text
Grows old new text (Err e) = (begun : List ℕ) × (new ≡ old ++ begun)

-- the capacity never shrinks, and an error comes only where it is less than what all would need
abbrev pub Holds : {X : Type 0} → Vec ℕ Global → Vec ℕ Global → List ℕ → Result X AllocError → Type 0
Holds old new text (Ok x) = vec_capacity old ≤ vec_capacity new
Holds old new text (Err e) = vec_capacity old < vec_len old + length text

-- what a call leaves that appends a text
pub record Puts {X : Type 0} (old new : Vec ℕ Global) (text : List ℕ) (result : Result X AllocError) : Type 0 where
  pub bytes : Grows old.items new.items text result
  pub room : Holds old new text result
