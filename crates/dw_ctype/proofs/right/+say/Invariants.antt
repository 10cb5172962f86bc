use Rattle.std.proofs.Common.{ℕ, ◌+◌, ◌*◌, List, [], drop}
use Rattle.dw_tree.specs.Lent.{EntryAt, children_of}
use Rattle.dw_ctype.specs.InOrder.{to_come}
use Rattle.dw_ctype.specs.Types.{joined, parameter_texts, say, type_of}
use Rattle.dw_ctype.specs.View.{source_of}
use Rattle.dw_ctype.proofs.Appending.{Reaches}
use Rattle.dw_ctype.proofs.right.+say.Given as goal

abbrev pub decreases-right : goal.decreases-right
decreases-right l = 7 * l.depth

abbrev pub decreases-say : goal.decreases-say
decreases-say l = 7 * l.depth + 1

abbrev pub decreases-push_parameter : goal.decreases-push_parameter
decreases-push_parameter l = 7 * l.depth + 2

abbrev pub decreases-push_parameters_of : goal.decreases-push_parameters_of
decreases-push_parameters_of l = 7 * l.depth + 3

abbrev pub decreases-push_parameters_among : goal.decreases-push_parameters_among
decreases-push_parameters_among l = 7 * l.depth + 3

abbrev pub decreases-push_each_parameter : goal.decreases-push_each_parameter
decreases-push_each_parameter l = 7 * l.depth + 4

abbrev pub decreases-push_parameters : goal.decreases-push_parameters
decreases-push_parameters l = 7 * l.depth + 5

abbrev pub decreases-right_of_entry : goal.decreases-right_of_entry
decreases-right_of_entry l = 7 * l.depth + 6

-- what the entries that are left add is still to come
abbrev pub invariant-push_parameters_of-loop-entry : goal.invariant-push_parameters_of-loop-entry
invariant-push_parameters_of-loop-entry l =
    let text : EntryAt → List ℕ = λ p. say (source_of l.fn.section l.fn.strings) l.fn.depth (type_of l.fn.section.items l.fn.item p) [] in
    Reaches l.fn.out l.out (to_come l.fn.prototyped l.some (parameter_texts text (drop l.entry-index l.shown))) (joined l.fn.prototyped (parameter_texts text l.shown))

-- what the children that are left add is still to come
abbrev pub invariant-push_parameters_among-loop-child : goal.invariant-push_parameters_among-loop-child
invariant-push_parameters_among-loop-child l =
    let text : EntryAt → List ℕ = λ p. say (source_of l.fn.section l.fn.strings) l.fn.depth (type_of l.fn.section.items l.fn.item p) [] in
    Reaches l.fn.out l.out (to_come l.fn.prototyped l.some (parameter_texts text l.child-iterator)) (joined l.fn.prototyped (parameter_texts text (children_of l.fn.function)))
