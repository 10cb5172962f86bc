-- The declarations of a table, and those of several runs.
use Rattle.std.specs.Prelude.{List, [], ◌∷◌, ◌++◌}
use Rattle.dw_abbrev.specs.Table.{Declaration}

-- those of several runs, one run behind the other
abbrev pub joined : List (List Declaration) → List Declaration
joined [] = []
joined (run ∷ runs) = run ++ joined runs

-- a table's own declarations, and behind them those that others have too
abbrev pub with_shared : List Declaration → List (List Declaration) → List Declaration
with_shared own [] = own
with_shared own (run ∷ runs) = own ++ (run ++ joined runs)
