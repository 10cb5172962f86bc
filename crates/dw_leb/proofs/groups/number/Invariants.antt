use Rattle.std.proofs.Common.{◌≡◌, ◌≤◌, length, drop}
use Rattle.dw_leb.specs.Scan.{number as number_of}
use Rattle.dw_leb.proofs.groups.number.Given as goal

-- the groups from i on are read
abbrev pub invariant-loop-i : goal.invariant-loop-i
invariant-loop-i l = record { read : l.value ≡ number_of (drop l.i l.b); within : l.i ≤ length l.b }

abbrev pub decreases-loop-i : goal.decreases-loop-i
decreases-loop-i l = l.i
