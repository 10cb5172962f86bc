use Rattle.std.proofs.Common.{subst, List, ℕ}
use Rattle.dw_abbrev.specs.Table.{TableAt}
use Rattle.dw_tests.proofs.SampleTables.{is_two_codes}
use Rattle.dw_tests.proofs.tree_drafts.two_codes.Goals as goal

pub returns : goal.returns
returns c = is_two_codes c.in_ok-get.field-0.value (subst (λ (s : List ℕ). TableAt s 0 c.in_ok-get.field-0.value) c.new-tables.ensures c.in_ok-get.ensures.found)
