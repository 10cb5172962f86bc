use Rattle.std.proofs.Common.{◌-◌, length}
use Rattle.dw_abbrev.specs.Runs.{IsRun}
use Rattle.dw_abbrev.proofs.run.JoinedRun.read.Given as goal

-- the run's declarations stand one behind the other, up to here
abbrev pub invariant-loop-table : goal.invariant-loop-table
invariant-loop-table l = IsRun l.abbreviations l.run l.here

abbrev pub decreases-loop-table : goal.decreases-loop-table
decreases-loop-table l = length l.abbreviations - l.here
