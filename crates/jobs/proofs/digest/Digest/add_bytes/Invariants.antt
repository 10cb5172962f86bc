use Rattle.std.proofs.Common.{length}
use Rattle.jobs.proofs.digest.Digest.add_bytes.Given as goal

abbrev pub decreases-loop-word : goal.decreases-loop-word
decreases-loop-word l = length l.left
