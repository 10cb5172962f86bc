use Rattle.dw_tree.proofs.attrs.spelled_size.Goals as goal

pub returns : goal.returns
returns c = c.size_by_head.ensures c.args._ctx c.args._form c.requires.head.0 c.requires.spelled c.requires.head.1
