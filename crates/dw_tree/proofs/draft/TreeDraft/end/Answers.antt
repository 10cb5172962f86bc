use Rattle.std.proofs.Common.{ap, sym, ◌∙◌}
use Rattle.dw_tree.specs.Steps.{end_of}
use Rattle.dw_tree.proofs.Begins.{ends_here}
use Rattle.dw_tree.proofs.draft.TreeDraft.end.Goals as goal

pub returns : goal.returns
returns c = sym (ends_here c.self.inside c.self.invariant) ∙ ap end_of c.self.view_is
