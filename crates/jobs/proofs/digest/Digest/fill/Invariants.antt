use Rattle.std.proofs.Common.{length}
use Rattle.jobs.proofs.digest.Digest.fill.Given as goal

abbrev pub decreases-loop-byte : goal.decreases-loop-byte
decreases-loop-byte l = length l.left
