use Rattle.dw_tree.proofs.AllEntries.{all_entries}
use Rattle.dw_tree.proofs.tree.EntryTree.entries.Goals as goal

pub returns : goal.returns
returns c = all_entries c.args.self.now
