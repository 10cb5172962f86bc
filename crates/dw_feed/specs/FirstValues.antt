-- The first values of an entry, as many as have sizes that their forms tell.
use Rattle.std.specs.Prelude.{◌≤◌, ℕ, List, length, take}
use Rattle.dw_form.specs.declared.shape.Ctx.{Ctx}
use Rattle.dw_abbrev.specs.Table.{Pair}
use Rattle.dw_abbrev.specs.Prefix.{AreTold}

-- so many of them have so many bytes, in a unit of this address size and format
abbrev pub FirstsAreTold : Ctx → List Pair → ℕ → ℕ → Type 0
FirstsAreTold k ps count size = (count ≤ length ps) × AreTold k (take count ps) size
