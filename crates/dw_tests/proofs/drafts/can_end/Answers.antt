use Rattle.std.proofs.Common.{◌≡◌, Bool, true, false, refl, Option, Some, length, sym, ap, subst, ◌∙◌}
use Rattle.std.specs.Prelude.{IfSome, IsTrue, not}
use Rattle.dw_form.specs.Form.{Attribute}
use Rattle.dw_form.specs.Lent.{attribute_of}
use Rattle.dw_abbrev.specs.PairView.{pair_of}
use Rattle.dw_tree.specs.Steps.{NextFits}
use Rattle.dw_header.specs.Header.{context_of}
use Rattle.dw_unit.specs.Draft.{Drafted, partial_of, passes_limit, value_bytes}
use Rattle.dw_tests.proofs.Drafting.{is_spelled, is_next, measured}
use Rattle.dw_tests.proofs.drafts.can_end.Goals as goal

not_is : (b : Bool) → IsTrue (not b) → b ≡ false
not_is true h = absurd cc
not_is false h = refl

pub size_of-requires-clause-spelled : goal.size_of-requires-clause-spelled
size_of-requires-clause-spelled c =
    is_spelled c.args.draft.now _ (attribute_of c.in-Some-partial_value.partial) (pair_of c.in-Some.pair) (c.context-ctx.ensures.context ∙ ap context_of c.header.ensures) c.in-Some.ensures.pair (c.fits.ensures.0 c.if-not-fits.false)

pub returns : goal.returns
returns c = λ (yes : IsTrue (not c.is_too_long.result)).
    let d : Drafted = c.args.draft.now in
    let v : Attribute = attribute_of c.in-Some-partial_value.partial in
    let k = context_of d.header in
    let p = pair_of c.in-Some.pair in
    let same = c.context-ctx.ensures.context ∙ ap context_of c.header.ensures in
    let has : partial_of d ≡ Some v = sym c.in-Some-partial_value.ensures in
    let next = is_next d _ v p same c.in-Some.ensures.pair (c.fits.ensures.0 c.if-not-fits.false) in
    let size = measured d _ v p same c.in-Some.ensures.pair (c.fits.ensures.0 c.if-not-fits.false) in
    let short : passes_limit d (length (value_bytes d v)) ≡ false = ap (passes_limit d) (sym (c.size_of.ensures ∙ size)) ∙ (sym c.is_too_long.ensures ∙ not_is c.is_too_long.result yes) in (
      subst (λ (o : Option Attribute). IfSome o (λ a. NextFits k d.table d.place.unfinished a)) (sym has) next,
      subst (λ (o : Option Attribute). IfSome o (λ a. passes_limit d (length (value_bytes d a)) ≡ false)) (sym has) short,
    )
