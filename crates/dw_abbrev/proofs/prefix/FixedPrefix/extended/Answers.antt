use Rattle.std.proofs.Common.{◌≡◌, None, inl, inr, refl, ◌∙◌, arith, rules}
use Rattle.dw_abbrev.specs.PairView.{pair_of}
use Rattle.dw_abbrev.specs.Parts.{told_by}
use Rattle.dw_abbrev.specs.Prefix.{prefix_kept, prefix_stops}
use Rattle.dw_abbrev.proofs.Counted.{told_same}
use Rattle.dw_abbrev.proofs.prefix.FixedPrefix.extended.Goals as goal

pub returns-then-self-before : goal.returns-then-self-before
returns-then-self-before c ps all is =
    prefix_kept ps (pair_of c.args.pair.now) c.args.self is (omega (arith, is.within, all, c.if-self-before.true))

pub returns-then-self-eq-MOST_VALUES : goal.returns-then-self-eq-MOST_VALUES
returns-then-self-eq-MOST_VALUES c ps all is =
    prefix_stops ps (pair_of c.args.pair.now) c.args.self is (omega (arith, all, c.if-self-before.false)) (inr (omega (arith, c.if-self-eq-MOST_VALUES.true)))

pub returns-then-not-count_form : goal.returns-then-not-count_form
returns-then-not-count_form c ps all is =
    let untold : told_by c.args.pair.now.form.value ≡ None = search rules in
    prefix_stops ps (pair_of c.args.pair.now) c.args.self is (omega (arith, all, c.if-self-before.false)) (inl (told_same (pair_of c.args.pair.now) c.requires ∙ untold))

pub returns : goal.returns
returns c ps all is = c.if-not-count_form.ensures.prefix refl ps (pair_of c.args.pair.now) is (omega (arith, all, c.if-self-before.false)) (told_same (pair_of c.args.pair.now) c.requires)
