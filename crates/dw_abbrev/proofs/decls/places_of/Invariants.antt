use Rattle.std.proofs.Common.{◌≡◌, ◌++◌, List, length}
use Rattle.dw_abbrev.specs.Table.{Declaration}
use Rattle.dw_abbrev.specs.Places.{places_from}
use Rattle.dw_abbrev.proofs.decls.places_of.Given as goal

-- those before these have their places
abbrev pub invariant-loop-decl : goal.invariant-loop-decl
invariant-loop-decl l = (before : List Declaration) × (before ++ l.left ≡ l.list) × (l.places.entries ≡ places_from 0 before)

abbrev pub decreases-loop-decl : goal.decreases-loop-decl
decreases-loop-decl l = length l.left
