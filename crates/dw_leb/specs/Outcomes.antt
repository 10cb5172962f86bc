-- What a call that reads a part tells of the plain reader's outcome.
use Rattle.std.specs.Prelude.{ℕ, List, Result, Ok, Err, IfOk}
use Rattle.dw_leb.specs.Part.{Part}
use Rattle.dw_leb.specs.Decide.{Says}
use Rattle.dw_leb.specs.Reader.{Outcome, Found, Broken}
use Rattle.dw_leb.specs.declared.errors.Bad.{Bad}

-- a value that is seen by a view, and its size; or where and why the bytes break
abbrev pub outcome_from : {X Y : Type 0} → (X → Y) → Result (X × ℕ) Bad → Outcome Y
outcome_from view (Ok x) = Found (view x.0) x.1
outcome_from view (Err e) = Broken e.offset e.reason

-- what is told of a decided part fits
pub outcome_fits : {X Y : Type 0} (view : X → Y) (P : Part Y) (bytes : List ℕ) (lim : ℕ) (r : Result (X × ℕ) Bad)
    → Says P bytes lim (outcome_from view r) → IfOk r (λ x. P.Fits (view x.0))
outcome_fits view P bytes lim (Ok x) h = h.fits
outcome_fits view P bytes lim (Err e) h = tt
