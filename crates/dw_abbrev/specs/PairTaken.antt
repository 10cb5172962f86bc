-- A pair of a name and a form that goes to a list of others.
use Rattle.std.specs.Prelude.{◌≡◌, ℕ, List, [], ◌∷◌, ◌++◌, Option, true, option_map}
use Rattle.dw_leb.specs.declared.unsigned.Uleb.{Uleb}
use Rattle.dw_leb.specs.declared.signed.Sleb.{Sleb}
use Rattle.dw_leb.specs.View.{uleb_of, sleb_of}
use Rattle.dw_abbrev.specs.declared.pair.Pair.{Pair}
use Rattle.dw_abbrev.specs.ReadTable.{read_constant}
use Rattle.dw_abbrev.specs.Build.{constant_belongs}
use Rattle.dw_abbrev.specs.Place.{Gives}

-- with the constant that its form has at this place, and what follows begins at the next
abbrev pub HasConstant : List ℕ → ℕ → Uleb → Uleb → ℕ → List Pair → List Pair → Type 0
HasConstant section at name form next old new =
    (constant : Option Sleb)
    × Gives (read_constant (uleb_of name, uleb_of form)) section at (option_map sleb_of constant) next
    × (constant_belongs (uleb_of form) (option_map sleb_of constant) ≡ true)
    × (new ≡ old ++ (record { name = name; form = form; constant = constant }) ∷ [])
