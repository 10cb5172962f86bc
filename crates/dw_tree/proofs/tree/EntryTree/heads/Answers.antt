use Rattle.std.proofs.Common.{length, ap, ◌∙◌, arith}
use Rattle.dw_tree.proofs.Written.{heads_kept, tree_short}
use Rattle.dw_tree.proofs.tree.EntryTree.heads.Goals as goal

pub returns-clause-exact : goal.returns-clause-exact
returns-clause-exact c = c.deref.ensures.value ∙ heads_kept c.self.inside c.self.invariant c.args.self.now c.self.view_is

pub returns-clause-short : goal.returns-clause-short
returns-clause-short c = omega (arith, (tree_short c.self.inside c.self.invariant c.args.self.now c.self.view_is).heads_short, ap length c.deref.ensures.value)
