use Rattle.std.proofs.Common.{◌≡◌, ℕ, ◌+◌, ◌*◌, drop, length}
use Rattle.dw_tree.specs.Lent.{EntryAt, children_of}
use Rattle.dw_ctype.specs.declared.typed.Typed.{Typed}
use Rattle.dw_ctype.specs.Parts.{visits_of}
use Rattle.dw_ctype.specs.Types.{type_of}
use Rattle.dw_ctype.specs.Visits.{less, visits, parameter_visits}
use Rattle.dw_ctype.proofs.visits.+visits.Given as goal

abbrev pub decreases-count : goal.decreases-count
decreases-count l = 5 * l.depth

abbrev pub decreases-count_type : goal.decreases-count_type
decreases-count_type l = 5 * l.depth + 4

abbrev pub decreases-count_entry : goal.decreases-count_entry
decreases-count_entry l = 5 * l.depth + 3

abbrev pub decreases-count_parameters : goal.decreases-count_parameters
decreases-count_parameters l = 5 * l.depth + 1

abbrev pub decreases-count_kind : goal.decreases-count_kind
decreases-count_kind l = 5 * l.depth + 2

abbrev pub decreases-count_each : goal.decreases-count_each
decreases-count_each l = 5 * l.depth + 1

-- the visits of all types are those before the next one and those from it on
abbrev pub invariant-count_each-loop-typed : goal.invariant-count_each-loop-typed
invariant-count_each-loop-typed l =
    let one : Typed → ℕ = visits l.fn.section.items l.fn.depth in
    (l.kept ≡ l.fn.kept) × (less (visits_of one l.types) l.fn.left ≡ less (visits_of one (drop l.typed-index l.types)) l.rest)

-- the visits of all parameters are those before the next one and those from it on
abbrev pub invariant-count_parameters-loop-child : goal.invariant-count_parameters-loop-child
invariant-count_parameters-loop-child l =
    let one : EntryAt → ℕ = λ p. visits l.fn.section.items l.fn.depth (type_of l.fn.section.items l.fn.item p) in
    (l.kept ≡ l.fn.kept) × (less (parameter_visits one (children_of l.fn.function)) l.fn.left ≡ less (parameter_visits one l.child-iterator) l.rest)

abbrev pub decreases-count_parameters-loop-child : goal.decreases-count_parameters-loop-child
decreases-count_parameters-loop-child l = length l.child-iterator
