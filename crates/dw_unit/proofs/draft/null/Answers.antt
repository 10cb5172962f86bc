use Rattle.std.proofs.Common.{◌≡◌, true, false, sym, ap, ◌∙◌}
use Rattle.std.specs.Prelude.{is_some}
use Rattle.dw_unit.proofs.DraftLemmas.{null_is}
use Rattle.dw_unit.proofs.draft.null.Goals as goal

pub unreachable-requires : goal.unreachable-requires
unreachable-requires c =
    let never : false ≡ true = ap is_some (sym c.in-None.is) ∙ (null_is c.with_width.result c.args.width c.with_width.ensures.some ∙ c.requires) in
    absurd cc
