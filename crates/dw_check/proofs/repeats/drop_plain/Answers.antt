use Rattle.std.proofs.Common.{◌≡◌, ◌∙◌, ◌∷◌, ◌++◌, [], Bool, List, length, map, take, sym, ap, subst}
use Rattle.std.proofs.Math.Seq.{take-append_seam}
use Rattle.dw_abbrev.specs.PairView.{pair_of}
use Rattle.dw_check.specs.Repeats.{AreRepeatsFor}
use Rattle.dw_check.proofs.Repeating.{last_dropped}
use Rattle.dw_check.proofs.repeats.drop_plain.Goals as goal

pub loop-repeated-preserved : goal.loop-repeated-preserved
loop-repeated-preserved c =
    let pairs = c.args.pairs.now in
    let m = c.in-Some.repeated.now in
    let others = c.in-Some.others.now in
    let whole : c.loop-repeated.repeats.items ≡ others ++ m ∷ [] = sym c.deref.ensures.value ∙ c.in-Some.ensures.cases.0 in
    let left : c.truncate.new.self.items ≡ others = c.truncate.ensures.items ∙ ap (λ (ms : List Bool). take (length others) ms) whole ∙ take-append_seam others (m ∷ []) in
    let before = subst (λ (ms : List Bool). AreRepeatsFor [] (map pair_of pairs) ms) whole c.loop-repeated.invariant in
    subst (λ (ms : List Bool). AreRepeatsFor [] (map pair_of pairs) ms) (sym left)
    (last_dropped [] pairs others m c.in-Some-get.pair.now before c.if-repeated.false c.in-Some-get.ensures.lookup.1 (sym c.if-is_looked_at.ensures))
