use Rattle.dw_feed.specs.SameHeld.{holds_same}
use Rattle.dw_feed.proofs.laws.held_is_told_by_the_bytes.Goals as goal

pub returns : goal.returns
returns c g h same a b e = holds_same g h same a.0 b.0 a.1 b.1 e
