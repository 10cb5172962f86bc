use Rattle.std.proofs.Common.{◌-◌, length}
use Rattle.dw_abbrev.proofs.known.KnownOffsets.learn.Given as goal

abbrev pub decreases-loop-here : goal.decreases-loop-here
decreases-loop-here l = length l.abbreviations - l.here
