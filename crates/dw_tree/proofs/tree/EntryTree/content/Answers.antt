use Rattle.std.proofs.Common.{length, ap, ◌∙◌, arith}
use Rattle.dw_tree.proofs.Written.{content_kept, tree_short}
use Rattle.dw_tree.proofs.tree.EntryTree.content.Goals as goal

pub returns-clause-exact : goal.returns-clause-exact
returns-clause-exact c = c.deref.ensures.value ∙ content_kept c.self.inside c.self.invariant c.args.self.now c.self.view_is

pub returns-clause-short : goal.returns-clause-short
returns-clause-short c = omega (arith, (tree_short c.self.inside c.self.invariant c.args.self.now c.self.view_is).content_short, ap length c.deref.ensures.value)
