use Rattle.std.proofs.Common.{ap₂, refl, ◌≡◌, ◌+◌, ℕ, arith}
use Rattle.dw_tree.specs.Tree.{Tree}
use Rattle.dw_tree.specs.Row.{tree_of_rows, rows_of}
use Rattle.dw_tree.proofs.EntryRows.{rows_stand}
use Rattle.dw_tree.proofs.tree.EntryTree.root.Goals as goal

pub invariant_of-result : goal.invariant_of-result
invariant_of-result c = rw (tree_of_rows c.args.self.now.root) (rows_stand (rows_of c.args.self.now.root) c.args.self.now.root refl)

pub returns : goal.returns
returns c =
    let u = c.args.self.now in
    let start : u.start + 0 ≡ u.start = omega arith in
    ap₂ (λ (x : Tree) (n : ℕ). record { context = u.context; table = u.table; node = x; offset = n; depth = 1 }) (tree_of_rows u.root) start
