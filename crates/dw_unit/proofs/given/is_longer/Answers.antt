use Rattle.std.proofs.Common.{◌<◌, ℕ, length, map, slice_index_or, refl, sym, ap, ◌∙◌, arith, add-one}
use Rattle.std.proofs.lemmas.List.{length-map}
use Rattle.std.specs.Prelude.{option_map}
use Rattle.dw_leb.specs.View.{sleb_of}
use Rattle.dw_form.specs.Lent.{attribute_of}
use Rattle.dw_form.specs.Pieces.{has_spelling}
use Rattle.dw_abbrev.specs.PairView.{pair_of}
use Rattle.dw_unit.proofs.PutValues.{as_many, apart, sizes}
use Rattle.dw_unit.proofs.given.is_longer.Goals as goal

pub bounds-values-at : goal.bounds-values-at
bounds-values-at c =
    let n = as_many c.args.ctx (map pair_of c.args.pairs.now) (map attribute_of c.args.values.now) c.requires.fits in
    omega (arith, c.loop-pair.invariant.counted, c.loop-pair-test.true, n, length-map c.args.pairs.now pair_of, length-map c.args.values.now attribute_of)

pub size_of-more-requires-clause-spelled : goal.size_of-more-requires-clause-spelled
size_of-more-requires-clause-spelled c =
    let i = c.loop-pair.invariant in
    let ps = c.args.pairs.now in
    let vs = c.args.values.now in
    let p = c.pair-item.result in
    let n = as_many c.args.ctx (map pair_of ps) (map attribute_of vs) c.requires.fits in
    let pair_in : c.loop-pair.at < length ps = omega (arith, i.counted, c.loop-pair-test.true) in
    let value_in : c.loop-pair.at < length vs = omega (arith, pair_in, n, length-map ps pair_of, length-map vs attribute_of) in
    let pair_is = c.pair-item.is ∙ ap (λ (m : ℕ). slice_index_or ps m p) (sym i.counted) in
    (has_spelling c.args.ctx p.form.value (option_map sleb_of p.constant) (attribute_of c.index-values-at.result) (apart c.args.ctx ps vs c.loop-pair.at p c.index-values-at.result pair_in value_in pair_is c.index-values-at.is i.fits).0).0

pub returns-then-more-room : goal.returns-then-more-room
returns-then-more-room c =
    let i = c.loop-pair.invariant in
    let ps = c.args.pairs.now in
    let vs = c.args.values.now in
    let p = c.pair-item.result in
    let n = as_many c.args.ctx (map pair_of ps) (map attribute_of vs) c.requires.fits in
    let pair_in : c.loop-pair.at < length ps = omega (arith, i.counted, c.loop-pair-test.true) in
    let value_in : c.loop-pair.at < length vs = omega (arith, pair_in, n, length-map ps pair_of, length-map vs attribute_of) in
    let pair_is = c.pair-item.is ∙ ap (λ (m : ℕ). slice_index_or ps m p) (sym i.counted) in
    let fits = (apart c.args.ctx ps vs c.loop-pair.at p c.index-values-at.result pair_in value_in pair_is c.index-values-at.is i.fits).0 in
    let one = c.size_of-more.ensures ∙ ap length (has_spelling c.args.ctx p.form.value (option_map sleb_of p.constant) (attribute_of c.index-values-at.result) fits).1 in
    let all = sizes c.args.ctx ps vs c.loop-pair.at p c.index-values-at.result pair_in value_in pair_is c.index-values-at.is in
    (λ _. omega (arith, one, all, i.sized, i.within, c.if-more-room.true), λ _. refl)

pub loop-pair-preserved : goal.loop-pair-preserved
loop-pair-preserved c =
    let i = c.loop-pair.invariant in
    let ps = c.args.pairs.now in
    let vs = c.args.values.now in
    let p = c.pair-item.result in
    let n = as_many c.args.ctx (map pair_of ps) (map attribute_of vs) c.requires.fits in
    let pair_in : c.loop-pair.at < length ps = omega (arith, i.counted, c.loop-pair-test.true) in
    let value_in : c.loop-pair.at < length vs = omega (arith, pair_in, n, length-map ps pair_of, length-map vs attribute_of) in
    let pair_is = c.pair-item.is ∙ ap (λ (m : ℕ). slice_index_or ps m p) (sym i.counted) in
    let parts = apart c.args.ctx ps vs c.loop-pair.at p c.index-values-at.result pair_in value_in pair_is c.index-values-at.is i.fits in
    let one = c.size_of-more.ensures ∙ ap length (has_spelling c.args.ctx p.form.value (option_map sleb_of p.constant) (attribute_of c.index-values-at.result) parts.0).1 in
    let all = sizes c.args.ctx ps vs c.loop-pair.at p c.index-values-at.result pair_in value_in pair_is c.index-values-at.is in
    record {
      counted = omega (arith, i.counted);
      fits = rw (add-one c.loop-pair.at) parts.1;
      sized = rw (add-one c.loop-pair.at) (omega (arith, one, all, i.sized));
      within = omega (arith, i.within, c.if-more-room.false);
    }
