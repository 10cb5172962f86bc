use Rattle.std.proofs.Common.{◌++◌, ◌∷◌, [], List, ℕ, ◌∙◌, subst, arith}
use Rattle.dw_header.specs.HeaderPlace.{HeaderAtUnder, HeaderFaultUnder}
use Rattle.dw_feed.specs.HeaderCut.{cut_headers_are_short}
use Rattle.dw_feed.proofs.HeadSteps.{header_ends, fault_shows}
use Rattle.dw_feed.proofs.head.take_byte.Goals as goal

pub push-requires : goal.push-requires
push-requires c = let short = cut_headers_are_short c.args.versions c.args.order c.args.taken.now.items c.requires in (omega arith, omega (arith, short))

pub returns-in-Ok-clause-shows : goal.returns-in-Ok-clause-shows
returns-in-Ok-clause-shows c =
    header_ends c.args.versions c.args.order c.args.taken.now.items c.args.byte c.in-Ok.head.0 c.in-Ok.head.1 c.requires
    (subst (λ (b : List ℕ). HeaderAtUnder c.args.versions c.args.order b c.in-Ok.head.0 c.in-Ok.head.1) (c.as_slice.ensures.value ∙ c.push.ensures.items) c.in-Ok.ensures.found)

pub returns-in-Err-clause-shows : goal.returns-in-Err-clause-shows
returns-in-Err-clause-shows c =
    fault_shows c.args.versions c.args.order (c.args.taken.now.items ++ c.args.byte ∷ []) c.in-Err.fault c.judged.result
    (subst (λ (b : List ℕ). HeaderFaultUnder c.args.versions c.args.order b c.in-Err.fault) (c.as_slice.ensures.value ∙ c.push.ensures.items) c.in-Err.ensures.broken) c.judged.ensures
