use Rattle.std.proofs.Common.{◌∙◌, arith}
use Rattle.dw_tree.proofs.Written.{rows_are, tree_short}
use Rattle.dw_tree.proofs.tree.EntryTree.row_count.Goals as goal

pub returns-clause-exact : goal.returns-clause-exact
returns-clause-exact c = c.len.ensures ∙ (c.self.inside.rows.ok.0 ∙ rows_are c.self.inside c.self.invariant c.args.self.now c.self.view_is)

pub returns-clause-short : goal.returns-clause-short
returns-clause-short c = omega (arith, (tree_short c.self.inside c.self.invariant c.args.self.now c.self.view_is).rows_short, c.len.ensures, c.self.inside.rows.ok.0)
