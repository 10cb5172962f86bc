use Rattle.std.proofs.Common.{ap, ◌∙◌, arith}
use Rattle.dw_tree.specs.Levels.{nesting_is}
use Rattle.dw_unit.specs.Build.{Building, place_refusal}
use Rattle.dw_unit.proofs.OpenLemmas.{too_deep, not_deep}
use Rattle.dw_unit.proofs.builder.UnitBuilder.misplaced.Goals as goal

pub returns-then-depth-ge-NESTING : goal.returns-then-depth-ge-NESTING
returns-then-depth-ge-NESTING c =
    too_deep c.self.inside.draft.place.spot c.depth-depth.result c.depth-depth.ensures c.if-depth-eq0.false (omega (arith, nesting_is, c.if-depth-ge-NESTING.true))
    ∙ ap (λ (b : Building). place_refusal b.spot) c.self.view_is

pub returns-else-depth-ge-NESTING : goal.returns-else-depth-ge-NESTING
returns-else-depth-ge-NESTING c =
    not_deep c.self.inside.draft.place.spot c.depth-depth.result c.depth-depth.ensures c.if-depth-eq0.false (omega (arith, nesting_is, c.if-depth-ge-NESTING.false))
    ∙ ap (λ (b : Building). place_refusal b.spot) c.self.view_is
