use Rattle.std.proofs.Common.{◌≡◌, ◌≤◌, length, take, map}
use Rattle.rothelduf_c.specs.Seen.{seen_finding}
use Rattle.rothelduf_c.proofs.ask.fill_findings.Given as goal

abbrev pub invariant-loop-finding : goal.invariant-loop-finding
invariant-loop-finding l =
    (l.n ≤ length l.out)
    × (length l.out ≡ length l.fn.out)
    × (l.n ≡ l.finding-index)
    × (take l.n l.out ≡ map seen_finding (take l.n l.found))
