use Rattle.std.proofs.Common.{subst, List, ℕ}
use Rattle.dw_abbrev.specs.Table.{TableAt}
use Rattle.dw_tests.proofs.SampleTables.{is_bare_code}
use Rattle.dw_tests.proofs.tree_drafts.bare_code.Goals as goal

pub returns : goal.returns
returns c = is_bare_code c.in_ok-get.field-0.value (subst (λ (s : List ℕ). TableAt s 0 c.in_ok-get.field-0.value) c.new-tables.ensures c.in_ok-get.ensures.found)
