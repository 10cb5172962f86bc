-- The names of attributes as they are lent.
use Rattle.std.specs.Prelude.{ℕ, List, [], ◌∷◌, Option, Some, None}
use Rattle.dw_tree.specs.Lent.{LentAttribute}

-- the name of the first attribute
abbrev pub first_name : List LentAttribute → Option ℕ
first_name [] = None
first_name (a ∷ others) = Some a.name

-- all but the first
abbrev pub others_of : List LentAttribute → List LentAttribute
others_of [] = []
others_of (a ∷ others) = others
