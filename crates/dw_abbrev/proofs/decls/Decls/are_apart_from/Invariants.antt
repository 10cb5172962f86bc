use Rattle.std.proofs.Common.{◌≡◌, None, length}
use Rattle.std.specs.List.{AllByRecursion}
use Rattle.dw_abbrev.specs.Table.{declared_in}
use Rattle.dw_abbrev.specs.TableView.{joined}
use Rattle.dw_abbrev.proofs.decls.Decls.are_apart_from.Given as goal

-- where the runs have none of the codes from here on, they have none at all
abbrev pub invariant-loop-decl : goal.invariant-loop-decl
invariant-loop-decl l =
    AllByRecursion (λ d. declared_in (joined l.runs) d.code.value ≡ None) l.left → AllByRecursion (λ d. declared_in (joined l.runs) d.code.value ≡ None) l.self

abbrev pub decreases-loop-decl : goal.decreases-loop-decl
decreases-loop-decl l = length l.left
