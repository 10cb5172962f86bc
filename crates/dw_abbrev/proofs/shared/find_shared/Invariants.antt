use Rattle.std.proofs.Common.{◌≡◌, length}
use Rattle.dw_abbrev.specs.Table.{declared_in}
use Rattle.dw_abbrev.specs.TableView.{joined}
use Rattle.dw_abbrev.proofs.shared.find_shared.Given as goal

-- no run before these has it
abbrev pub invariant-loop-part : goal.invariant-loop-part
invariant-loop-part l = declared_in (joined l.runs) l.code ≡ declared_in (joined l.left) l.code

abbrev pub decreases-loop-part : goal.decreases-loop-part
decreases-loop-part l = length l.left
