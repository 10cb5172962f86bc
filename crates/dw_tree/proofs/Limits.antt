-- The nesting's limit is small: the depth of a row has room for it.
use Rattle.std.proofs.Common.{ℕ, ◌≤◌, ◌<◌, ◌^◌, List, length, arith}
use Rattle.dw_tree.specs.Tree.{nesting}

pub few_open : (xs : List ℕ) → length xs ≤ nesting → length xs < 2 ^ 14
unfolding nesting
few_open xs h = omega (arith, h)
