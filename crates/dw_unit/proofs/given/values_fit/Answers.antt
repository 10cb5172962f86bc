use Rattle.std.proofs.Common.{◌<◌, ℕ, length, map, slice_index_or, sym, ap, ◌∙◌, arith, add-one}
use Rattle.std.proofs.lemmas.List.{length-map}
use Rattle.dw_form.specs.Lent.{attribute_of}
use Rattle.dw_abbrev.specs.PairView.{pair_of}
use Rattle.dw_unit.proofs.PutValues.{as_many, apart, together}
use Rattle.dw_unit.proofs.given.values_fit.Goals as goal

pub returns-then-pairs-values : goal.returns-then-pairs-values
returns-then-pairs-values c = (
  λ e. absurd cc,
  λ h. let n = as_many c.args.ctx (map pair_of c.args.pairs.now) (map attribute_of c.args.values.now) h in
      absurd (c.if-pairs-values.true (sym (length-map c.args.pairs.now pair_of) ∙ (sym n ∙ length-map c.args.values.now attribute_of))),
)

pub returns-then-not-fits : goal.returns-then-not-fits
returns-then-not-fits c =
    let i = c.loop-pair.invariant in
    let ps = c.args.pairs.now in
    let vs = c.args.values.now in
    let pair_in : c.loop-pair.at < length ps = omega (arith, i.counted, c.loop-pair-test.true) in
    let value_in : c.loop-pair.at < length vs = omega (arith, pair_in, c.if-pairs-values.false) in (
      λ e. absurd cc,
      λ h. let w = apart c.args.ctx ps vs c.loop-pair.at c.pair-item.result c.index-values-at.result pair_in value_in
          (c.pair-item.is ∙ ap (λ (n : ℕ). slice_index_or ps n c.pair-item.result) (sym i.counted)) c.index-values-at.is (i.fit.1 h) in
          let yes = c.fits.ensures.1 w.0 in
          let no = c.if-not-fits.true in
          absurd cc,
    )

pub loop-pair-preserved : goal.loop-pair-preserved
loop-pair-preserved c =
    let i = c.loop-pair.invariant in
    let k = c.args.ctx in
    let ps = c.args.pairs.now in
    let vs = c.args.values.now in
    let pair_in : c.loop-pair.at < length ps = omega (arith, i.counted, c.loop-pair-test.true) in
    let value_in : c.loop-pair.at < length vs = omega (arith, pair_in, c.if-pairs-values.false) in
    let pair_is = c.pair-item.is ∙ ap (λ (n : ℕ). slice_index_or ps n c.pair-item.result) (sym i.counted) in
    let yes = c.fits.ensures.0 c.if-not-fits.false in
    record {
      counted = omega (arith, i.counted);
      fit = rw (add-one c.loop-pair.at) (
        λ h. i.fit.0 (together k ps vs c.loop-pair.at c.pair-item.result c.index-values-at.result pair_in value_in pair_is c.index-values-at.is yes h),
        λ h. (apart k ps vs c.loop-pair.at c.pair-item.result c.index-values-at.result pair_in value_in pair_is c.index-values-at.is (i.fit.1 h)).1,
      );
    }
