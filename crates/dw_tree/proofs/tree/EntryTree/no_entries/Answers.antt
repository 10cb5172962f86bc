use Rattle.std.proofs.Common.{◌∙◌}
use Rattle.dw_tree.proofs.EntryRows.{none_left}
use Rattle.dw_tree.proofs.tree.EntryTree.no_entries.Goals as goal

pub returns : goal.returns
returns c = none_left c.self.inside c.self.invariant c.args.self.now c.self.view_is c.len.result (c.len.ensures ∙ c.self.inside.rows.ok.0)
