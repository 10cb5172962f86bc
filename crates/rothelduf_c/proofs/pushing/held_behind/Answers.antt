use Rattle.std.proofs.Common.{subst, sym}
use Rattle.rothelduf_c.specs.Feeds.{IsHeldWithin}
use Rattle.rothelduf_c.proofs.Held.{told_within}
use Rattle.rothelduf_c.proofs.pushing.held_behind.Goals as goal

pub returns-clause-within : goal.returns-clause-within
returns-clause-within c = subst (IsHeldWithin _) (sym c.c_held.ensures) (told_within _ _ c.held.ensures.within)
