use Rattle.std.proofs.Common.{◌≡◌, ◌+◌, ◌-◌, ◌++◌, length}
use Rattle.dw_leb.specs.Number.{digits, marked}
use Rattle.dw_leb.proofs.groups.spell.Given as goal

-- the groups of the rest complete the spelling
abbrev pub invariant-loop-i : goal.invariant-loop-i
invariant-loop-i l =
    record {
      spelled : l.bytes.items ++ marked (digits 128 (l.width + 1 - l._i) l.rest) ≡ marked (digits 128 l.width l.value);
      count : length l.bytes.items + 1 ≡ l._i;
    }
