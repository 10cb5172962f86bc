-- What a reading of a value that gave none tells.
use Rattle.std.specs.Prelude.{ℕ, ◌+◌, ◌<◌, List, length}
use Rattle.dw_leb.specs.Part.{Part, Taken}
use Rattle.dw_form.specs.Form.{Attribute}
use Rattle.dw_form.specs.StoredView.{bytes_in}
use Rattle.dw_form.specs.declared.read.ValueError.{ValueError}
use Rattle.dw_form.specs.declared.read.ValueError.TheVariants.{Bad, NoMemory}

-- a refusal is the break of the bytes, at their first byte
abbrev pub IsValueError : {X : Type 0} → Part X → List ℕ → ℕ → ValueError → Type 0
IsValueError P bytes lim (Bad reason) = P.Break bytes lim 0 reason
IsValueError P bytes lim NoMemory = Unit {0}

-- memory is refused only for a value that is there, whose bytes have no room in a pool of so many bytes and this
-- capacity
abbrev pub LacksRoom : Part Attribute → List ℕ → ℕ → ℕ → ℕ → ValueError → Type 0
LacksRoom P bytes lim used capacity (Bad reason) = Unit {0}
LacksRoom P bytes lim used capacity NoMemory =
    (x : Attribute) × (size : ℕ) × Taken P bytes lim x size × (capacity < used + length (bytes_in x))
