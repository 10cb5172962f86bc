use Rattle.std.proofs.Common.{drop}
use Rattle.dw_ctype.specs.Types.{dimensions_of}
use Rattle.dw_ctype.proofs.Appending.{Reaches}
use Rattle.dw_ctype.proofs.dimension.push_dimensions_of.Given as goal

-- the dimensions of the entries that are left are still to come
abbrev pub invariant-loop-entry : goal.invariant-loop-entry
invariant-loop-entry l = Reaches l.fn.out l.out (dimensions_of (drop l.entry-index l.shown)) (dimensions_of l.shown)
