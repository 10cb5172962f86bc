use Rattle.std.proofs.Common.{◌≡◌, ◌≤◌, ◌++◌, length, take, map}
use Rattle.rothelduf_c.specs.Seen.{seen_attr}
use Rattle.rothelduf_c.specs.Walked.{all_attributes, walked}
use Rattle.rothelduf_c.proofs.fill.fill_from.Given as goal

abbrev pub invariant-loop-entry : goal.invariant-loop-entry
invariant-loop-entry l =
    (l.n ≤ length l.entries)
    × (length l.entries ≡ length l.fn.entries)
    × (l.m ≤ length l.attributes)
    × (length l.attributes ≡ length l.fn.attributes)
    × (l.n ≡ length l.yielded)
    × (l.m ≡ length (all_attributes l.yielded))
    × (take l.n l.entries ≡ walked 0 l.yielded)
    × (take l.m l.attributes ≡ map seen_attr (all_attributes l.yielded))
    × (l.fn.left ≡ l.yielded ++ l.entry-iterator)
