use Rattle.std.proofs.Common.{◌≤◌, ◌<◌, ◌-◌, ◌*◌, ◌^◌, ℕ}
use Rattle.dw_leb.proofs.signed.Sleb.least.Given as goal

-- no smaller width holds the value
abbrev pub invariant-loop-width : goal.invariant-loop-width
invariant-loop-width l = record { some : 1 ≤ l.width; most : l.width ≤ 10; below : (k : ℕ) → 1 ≤ k → k < l.width → 128 ^ k ≤ 2 * l.n }

abbrev pub decreases-loop-width : goal.decreases-loop-width
decreases-loop-width l = 10 - l.width
