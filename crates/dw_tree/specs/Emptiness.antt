-- What stands before a place.
use Rattle.std.specs.Prelude.{Bool, true, false, List, [], ◌∷◌}
use Rattle.dw_tree.specs.Tree.{Forest, none, more}
use Rattle.dw_tree.specs.Place.{Frame, Spot}

abbrev pub is_bare_in : List Frame → Forest → Bool
is_bare_in [] none = true
is_bare_in [] (more x ts) = false
is_bare_in (f ∷ fs) ts = false

-- no entry stands before it
abbrev pub is_bare : Spot → Bool
is_bare s = is_bare_in s.above s.left
