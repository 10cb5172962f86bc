use Rattle.std.proofs.Common.{◌≡◌, ◌-◌, ◌≤◌}
use Rattle.dw_leb.specs.View.{uleb_of}
use Rattle.dw_tests.specs.Samples.{wide}
use Rattle.dw_tests.proofs.SampleSteps.{opened, shut}
use Rattle.dw_tests.proofs.tree_drafts.nested.Given as goal

abbrev pub invariant-loop-begun : goal.invariant-loop-begun
invariant-loop-begun l = record {
  most : l.begun ≤ 4096;
  code : uleb_of l.code ≡ wide 1 1;
  is : l.draft ≡ opened l.begun;
}

abbrev pub decreases-loop-begun : goal.decreases-loop-begun
decreases-loop-begun l = 4096 - l.begun

abbrev pub invariant-loop-ended : goal.invariant-loop-ended
invariant-loop-ended l = record {
  most : l.ended ≤ 4096;
  is : l.draft ≡ shut l.ended;
}

abbrev pub decreases-loop-ended : goal.decreases-loop-ended
decreases-loop-ended l = 4096 - l.ended
