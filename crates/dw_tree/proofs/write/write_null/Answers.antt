use Rattle.std.proofs.Common.{◌≡◌, true, false, subst}
use Rattle.std.specs.Option.{IsSome}
use Rattle.dw_leb.specs.DecideNumber.{fits_uleb}
use Rattle.dw_abbrev.specs.Table.{zero_of}
use Rattle.dw_tree.proofs.write.write_null.Goals as goal

-- src/writer.rt:84:17
pub unreachable-requires : goal.unreachable-requires
unreachable-requires g c =
    let some : false ≡ true = subst IsSome c.in-None.is (c.with_width.ensures.some.1 (fits_uleb (zero_of c.args.width) c.requires.null)) in
    cc
