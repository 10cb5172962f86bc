use Rattle.dw_abbrev.proofs.table.Table.of.Goals as goal

pub invariant_of-result : goal.invariant_of-result
invariant_of-result c = rw c.new-shared.ensures.items (record { zero = c.requires.zero; fits = c.requires.fits })
