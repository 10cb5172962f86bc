use Rattle.std.proofs.Common.{◌+◌, ◌-◌, ◌≡◌, ◌<◌, ℕ, Some}
use Rattle.dw_tool.specs.Names.{attribute_names, name_in}
use Rattle.dw_tool.proofs.names.attribute_named.Given as goal

-- no number before this one has the name
abbrev pub invariant-loop-number : goal.invariant-loop-number
invariant-loop-number l = (n : ℕ) → n < l.number → name_in attribute_names n ≡ Some l.name → ⊥

abbrev pub decreases-loop-number : goal.decreases-loop-number
decreases-loop-number l = 140 + 1 - l.number
