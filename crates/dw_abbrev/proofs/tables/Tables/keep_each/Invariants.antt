use Rattle.std.proofs.Common.{◌≡◌, ◌+◌, drop, length}
use Rattle.dw_abbrev.specs.TableView.{joined}
use Rattle.dw_abbrev.specs.Runs.{StandTogether}
use Rattle.dw_abbrev.proofs.tables.Tables.keep_each.Given as goal

-- the tables that begin with the declarations before are kept
abbrev pub invariant-loop-start : goal.invariant-loop-start
invariant-loop-start l =
    record {
      same : l.self ≡ l.fn.self;
      left : StandTogether l.fn.self l.left (drop l.from l.run.value) (record { declarations = joined l.rest; last_zero = l.last_zero.width });
      count : l.from + length l.left ≡ length l.starts;
    }

abbrev pub decreases-loop-start : goal.decreases-loop-start
decreases-loop-start l = length l.left
