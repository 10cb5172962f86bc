-- The number of the nesting's limit.
use Rattle.std.proofs.Common.{◌≡◌, refl}
use Rattle.dw_tree.specs.Tree.{nesting}

pub nesting_is : nesting ≡ 4096
unfolding nesting
nesting_is = refl
