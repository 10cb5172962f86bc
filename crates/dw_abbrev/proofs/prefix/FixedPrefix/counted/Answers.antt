use Rattle.std.proofs.Common.{◌≡◌, ◌∙◌, ◌∷◌, ◌++◌, [], List, Option, None, map, length, inl, inr, refl, sym, ap, subst, arith, rules, append_assoc, length-append}
use Rattle.std.specs.Prelude.{slice_get}
use Rattle.dw_abbrev.specs.Table.{Pair as ThePair}
use Rattle.dw_abbrev.specs.declared.pair.Pair.{Pair as RustPair}
use Rattle.dw_abbrev.specs.declared.prefix.FixedPrefix.{FixedPrefix}
use Rattle.dw_abbrev.specs.PairView.{pair_of}
use Rattle.dw_abbrev.specs.Build.{ArePairs}
use Rattle.dw_abbrev.specs.Parts.{told_by}
use Rattle.dw_abbrev.specs.Prefix.{IsPrefix, Stops, prefix_front}
use Rattle.dw_abbrev.proofs.Counted.{told_same}
use Rattle.dw_abbrev.proofs.prefix.FixedPrefix.counted.Goals as goal

no_items : {X : Type 0} (xs : List X) → length xs ≡ 0 → xs ≡ []
no_items [] h = refl
no_items (x ∷ xs) h = absurd (omega (arith, h))

pub loop-pair-init : goal.loop-pair-init
loop-pair-init c = ([], refl, omega (arith, c.empty-prefix.ensures.within), c.empty-prefix.ensures, c.requires)

pub returns-then-prefix-eq-MOST_VALUES : goal.returns-then-prefix-eq-MOST_VALUES
returns-then-prefix-eq-MOST_VALUES c =
    let i = c.loop-pair.invariant in
    let f = c.loop-pair.prefix in
    let first = ap (λ (ps : List RustPair). slice_get (map pair_of ps) 0) c.in-Some.ensures.cases.0 in
    let stops = subst (λ (o : Option ThePair). Stops o f.count) (sym first) (inr (omega (arith, c.if-prefix-eq-MOST_VALUES.true))) in
    subst (λ (ps : List ThePair). IsPrefix ps f) (sym i.1) (prefix_front i.0 (map pair_of c.loop-pair.left.now) f i.3 i.2 stops)

pub returns-then-not-count_form : goal.returns-then-not-count_form
returns-then-not-count_form c =
    let i = c.loop-pair.invariant in
    let f = c.loop-pair.prefix in
    let first = ap (λ (ps : List RustPair). slice_get (map pair_of ps) 0) c.in-Some.ensures.cases.0 in
    let pairs = subst ArePairs (ap (λ (ps : List RustPair). map pair_of ps) c.in-Some.ensures.cases.0) i.4 in
    let untold : told_by c.in-Some.pair.now.form.value ≡ None = search rules in
    let same : c.count_form.new.self ≡ f = search rules in
    let stops = subst (λ (o : Option ThePair). Stops o f.count) (sym first) (inl (told_same (pair_of c.in-Some.pair.now) pairs.0 ∙ untold)) in
    subst (λ (g : FixedPrefix). IsPrefix (map pair_of c.args.pairs.now) g) (sym same) (subst (λ (ps : List ThePair). IsPrefix ps f) (sym i.1) (prefix_front i.0 (map pair_of c.loop-pair.left.now) f i.3 i.2 stops))

pub loop-pair-preserved : goal.loop-pair-preserved
loop-pair-preserved c =
    let i = c.loop-pair.invariant in
    let p = pair_of c.in-Some.pair.now in
    let is = ap (λ (ps : List RustPair). map pair_of ps) c.in-Some.ensures.cases.0 in
    let pairs = subst ArePairs is i.4 in (
      i.0 ++ p ∷ [],
      i.1 ∙ (ap (λ (ps : List ThePair). i.0 ++ ps) is ∙ sym (append_assoc i.0 (p ∷ []) (map pair_of c.in-Some.others.now))),
      omega (arith, length-append i.0 (p ∷ []), i.2, c.if-not-count_form.ensures.count refl),
      c.if-not-count_form.ensures.prefix refl i.0 p i.3 i.2 (told_same p pairs.0),
      pairs.1,
    )

pub returns : goal.returns
returns c =
    let i = c.loop-pair.invariant in
    let f = c.loop-pair.prefix in
    let first = ap (λ (ps : List RustPair). slice_get (map pair_of ps) 0) (no_items c.loop-pair.left.now c.in_default.ensures.cases) in
    let stops = subst (λ (o : Option ThePair). Stops o f.count) (sym first) tt in
    subst (λ (ps : List ThePair). IsPrefix ps f) (sym i.1) (prefix_front i.0 (map pair_of c.loop-pair.left.now) f i.3 i.2 stops)
