use Rattle.std.proofs.Common.{◌∙◌, sym}
use Rattle.std.proofs.lemmas.Bool.{ne_eqb}
use Rattle.dw_strings.proofs.Begins.{differs, is_same, no_zero_behind, none_behind, not_both}
use Rattle.dw_strings.proofs.lookup.begins.Goals as goal
use Rattle.dw_strings.proofs.lookup.begins.Goals.{then-behind-eq0, else-behind-eq0}

pub returns-in_default : goal.returns-in_default
returns-in_default c = none_behind c.args.bytes.now c.args.text.now c.get.result (c.get.ensures.lookup.0, c.get.ensures.lookup.1) c.in_default.is

pub returns-then-eq : goal.returns-then-eq
returns-then-eq c =
    elim c.if-behind-eq0.branch [
      | then-behind-eq0 w ↦ is_same c.args.bytes.now c.args.text.now c.get.result (c.get.ensures.lookup.0, c.get.ensures.lookup.1) c.in-Some.behind c.in-Some.is w.if-behind-eq0.true w.eq.result c.is_none.result c.zero_at.result w.eq.ensures (sym w.value-is ∙ c.if-eq.true) c.zero_at.ensures.exact c.is_none.ensures
      | else-behind-eq0 w ↦ absurd (not_both c.if-behind-eq0.value (w.value-is ∙ ne_eqb c.in-Some.behind.now 0 w.if-behind-eq0.false) c.if-eq.true)
    ]

pub returns-else-eq : goal.returns-else-eq
returns-else-eq c =
    elim c.if-behind-eq0.branch [
      | then-behind-eq0 w ↦ w.value-is ∙ differs c.args.bytes.now c.args.text.now c.get.result (c.get.ensures.lookup.0, c.get.ensures.lookup.1) c.in-Some.behind c.in-Some.is w.if-behind-eq0.true w.eq.result w.eq.ensures (sym w.value-is ∙ c.if-eq.false)
      | else-behind-eq0 w ↦ c.if-eq.false ∙ no_zero_behind c.args.bytes.now c.args.text.now c.get.result (c.get.ensures.lookup.0, c.get.ensures.lookup.1) c.in-Some.behind c.in-Some.is w.if-behind-eq0.false
    ]
