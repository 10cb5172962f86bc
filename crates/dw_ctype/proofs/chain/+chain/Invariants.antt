use Rattle.std.proofs.Common.{◌+◌, ◌*◌}
use Rattle.dw_ctype.proofs.chain.+chain.Given as goal

abbrev pub decreases-chain : goal.decreases-chain
decreases-chain l = 5 * l.depth

abbrev pub decreases-chain_and_word : goal.decreases-chain_and_word
decreases-chain_and_word l = 5 * l.depth + 1

abbrev pub decreases-qualified_entry : goal.decreases-qualified_entry
decreases-qualified_entry l = 5 * l.depth + 2

abbrev pub decreases-qualified_chain : goal.decreases-qualified_chain
decreases-qualified_chain l = 5 * l.depth + 3

abbrev pub decreases-chain_from : goal.decreases-chain_from
decreases-chain_from l = 5 * l.depth + 4
