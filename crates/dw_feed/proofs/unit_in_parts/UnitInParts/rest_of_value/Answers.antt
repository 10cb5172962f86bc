use Rattle.std.proofs.Common.{◌≡◌, ◌++◌, ◌∷◌, [], List, length, ℕ, sym, ap, ap₂, subst, ◌∙◌}
use Rattle.std.proofs.lemmas.List.{nil_from_length}
use Rattle.std.specs.Prelude.{option_map, IsSome}
use Rattle.dw_leb.specs.declared.errors.Reason.{Reason}
use Rattle.dw_leb.specs.declared.errors.Reason.TheVariants.{Truncated}
use Rattle.dw_leb.specs.Decide.{broken}
use Rattle.dw_leb.specs.View.{uleb_of}
use Rattle.dw_form.specs.Form.{Attribute}
use Rattle.dw_abbrev.specs.PairView.{pair_of}
use Rattle.dw_abbrev.specs.Table.{Pair}
use Rattle.dw_feed.specs.declared.step.Step.TheVariants as steps
use Rattle.dw_feed.specs.BodyFeed.{PartialUnit, part}
use Rattle.dw_feed.specs.BodyView.{coming}
use Rattle.dw_feed.specs.FeedInvariant.{left as left_of}
use Rattle.dw_feed.specs.FieldSteps.{keeps_stands, told, told_not}
use Rattle.dw_feed.specs.ValueSteps.{InValue, keeping, value_step, value_whole, value_refused, value_wants, value_goes_on}
use Rattle.dw_feed.specs.ValueCut.{IsCutHere}
use Rattle.dw_feed.proofs.unit_in_parts.UnitInParts.rest_of_value.Goals as goal

pub returns-in-Some : goal.returns-in-Some
returns-in-Some c = value_step c.args.self.now c.args.b.now (pair_of c.args.pair.now) c.loop-width.self c.loop-width.rest.now c.loop-width.invariant.at c.open.result c.open.new.self c.open.ensures

pub returns-in-None : goal.returns-in-None
returns-in-None c = value_wants c.args.self.now c.args.b.now (pair_of c.args.pair.now) c.loop-width.self c.loop-width.rest.now c.loop-width.invariant.at (nil_from_length c.loop-width.rest.now c.in-None.ensures.cases) c.loop-width.invariant.cut (c.opening.ensures.waits c.in_default.is)

pub give_front-requires-clause-next : goal.give_front-requires-clause-next
give_front-requires-clause-next c =
    let i = c.loop-width.invariant in
    let p : Pair = pair_of c.args.pair.now in
    let g : PartialUnit = c.loop-width.self in
    let in_it = c.self.inside in
    let v : PartialUnit = coming in_it.draft in_it.unit_length (option_map uleb_of in_it.named) in_it.to_come c.push.new.self.items in
    let x : ℕ = c.in-Some-split_first.byte.now in
    let others : List ℕ = c.in-Some-split_first.others.now in
    let e : keeping g (g.pending ++ x ∷ []) ≡ v = ap₂ keeping (sym c.self.view_is) (ap (λ (y : PartialUnit). y.pending ++ x ∷ []) (sym c.self.view_is) ∙ sym c.push.ensures.items) in
    let at : InValue c.args.self.now c.args.b.now p v others = subst (λ (y : PartialUnit). InValue c.args.self.now c.args.b.now p y others) e (value_goes_on c.args.self.now c.args.b.now p g c.loop-width.rest.now i.at x others c.in-Some-split_first.ensures.cases.0 i.cut (c.opening.ensures.more c.in_default.is x)) in
    at.next

pub give_front-requires-clause-stands : goal.give_front-requires-clause-stands
give_front-requires-clause-stands c =
    let i = c.loop-width.invariant in
    let p : Pair = pair_of c.args.pair.now in
    let g : PartialUnit = c.loop-width.self in
    let in_it = c.self.inside in
    let v : PartialUnit = coming in_it.draft in_it.unit_length (option_map uleb_of in_it.named) in_it.to_come c.push.new.self.items in
    let x : ℕ = c.in-Some-split_first.byte.now in
    let others : List ℕ = c.in-Some-split_first.others.now in
    let e : keeping g (g.pending ++ x ∷ []) ≡ v = ap₂ keeping (sym c.self.view_is) (ap (λ (y : PartialUnit). y.pending ++ x ∷ []) (sym c.self.view_is) ∙ sym c.push.ensures.items) in
    let at : InValue c.args.self.now c.args.b.now p v others = subst (λ (y : PartialUnit). InValue c.args.self.now c.args.b.now p y others) e (value_goes_on c.args.self.now c.args.b.now p g c.loop-width.rest.now i.at x others c.in-Some-split_first.ensures.cases.0 i.cut (c.opening.ensures.more c.in_default.is x)) in
    keeps_stands v at.keeps

pub give_front-requires-clause-between : goal.give_front-requires-clause-between
give_front-requires-clause-between c =
    let i = c.loop-width.invariant in
    let p : Pair = pair_of c.args.pair.now in
    let g : PartialUnit = c.loop-width.self in
    let in_it = c.self.inside in
    let v : PartialUnit = coming in_it.draft in_it.unit_length (option_map uleb_of in_it.named) in_it.to_come c.push.new.self.items in
    let x : ℕ = c.in-Some-split_first.byte.now in
    let others : List ℕ = c.in-Some-split_first.others.now in
    let e : keeping g (g.pending ++ x ∷ []) ≡ v = ap₂ keeping (sym c.self.view_is) (ap (λ (y : PartialUnit). y.pending ++ x ∷ []) (sym c.self.view_is) ∙ sym c.push.ensures.items) in
    let at : InValue c.args.self.now c.args.b.now p v others = subst (λ (y : PartialUnit). InValue c.args.self.now c.args.b.now p y others) e (value_goes_on c.args.self.now c.args.b.now p g c.loop-width.rest.now i.at x others c.in-Some-split_first.ensures.cases.0 i.cut (c.opening.ensures.more c.in_default.is x)) in
    at.between

pub give_front-requires-clause-lim : goal.give_front-requires-clause-lim
give_front-requires-clause-lim c =
    let i = c.loop-width.invariant in
    let p : Pair = pair_of c.args.pair.now in
    let g : PartialUnit = c.loop-width.self in
    let in_it = c.self.inside in
    let v : PartialUnit = coming in_it.draft in_it.unit_length (option_map uleb_of in_it.named) in_it.to_come c.push.new.self.items in
    let x : ℕ = c.in-Some-split_first.byte.now in
    let others : List ℕ = c.in-Some-split_first.others.now in
    let e : keeping g (g.pending ++ x ∷ []) ≡ v = ap₂ keeping (sym c.self.view_is) (ap (λ (y : PartialUnit). y.pending ++ x ∷ []) (sym c.self.view_is) ∙ sym c.push.ensures.items) in
    let at : InValue c.args.self.now c.args.b.now p v others = subst (λ (y : PartialUnit). InValue c.args.self.now c.args.b.now p y others) e (value_goes_on c.args.self.now c.args.b.now p g c.loop-width.rest.now i.at x others c.in-Some-split_first.ensures.cases.0 i.cut (c.opening.ensures.more c.in_default.is x)) in
    i.lim_is ∙ ap left_of e

pub returns-in-Whole : goal.returns-in-Whole
returns-in-Whole c =
    let i = c.loop-width.invariant in
    let p : Pair = pair_of c.args.pair.now in
    let g : PartialUnit = c.loop-width.self in
    let in_it = c.self.inside in
    let v : PartialUnit = coming in_it.draft in_it.unit_length (option_map uleb_of in_it.named) in_it.to_come c.push.new.self.items in
    let x : ℕ = c.in-Some-split_first.byte.now in
    let others : List ℕ = c.in-Some-split_first.others.now in
    let e : keeping g (g.pending ++ x ∷ []) ≡ v = ap₂ keeping (sym c.self.view_is) (ap (λ (y : PartialUnit). y.pending ++ x ∷ []) (sym c.self.view_is) ∙ sym c.push.ensures.items) in
    let at : InValue c.args.self.now c.args.b.now p v others = subst (λ (y : PartialUnit). InValue c.args.self.now c.args.b.now p y others) e (value_goes_on c.args.self.now c.args.b.now p g c.loop-width.rest.now i.at x others c.in-Some-split_first.ensures.cases.0 i.cut (c.opening.ensures.more c.in_default.is x)) in
    value_step c.args.self.now c.args.b.now p v others at (steps.Found (length others)) c.give_front.new.self
    (value_whole v p (part v) others at.waits c.in-Whole.field-0 c.give_front.new.self c.in-Whole.ensures)

pub returns-then-not-is_cut : goal.returns-then-not-is_cut
returns-then-not-is_cut c =
    let i = c.loop-width.invariant in
    let p : Pair = pair_of c.args.pair.now in
    let g : PartialUnit = c.loop-width.self in
    let in_it = c.self.inside in
    let v : PartialUnit = coming in_it.draft in_it.unit_length (option_map uleb_of in_it.named) in_it.to_come c.push.new.self.items in
    let x : ℕ = c.in-Some-split_first.byte.now in
    let others : List ℕ = c.in-Some-split_first.others.now in
    let e : keeping g (g.pending ++ x ∷ []) ≡ v = ap₂ keeping (sym c.self.view_is) (ap (λ (y : PartialUnit). y.pending ++ x ∷ []) (sym c.self.view_is) ∙ sym c.push.ensures.items) in
    let at : InValue c.args.self.now c.args.b.now p v others = subst (λ (y : PartialUnit). InValue c.args.self.now c.args.b.now p y others) e (value_goes_on c.args.self.now c.args.b.now p g c.loop-width.rest.now i.at x others c.in-Some-split_first.ensures.cases.0 i.cut (c.opening.ensures.more c.in_default.is x)) in
    value_step c.args.self.now c.args.b.now p v others at (steps.Refused (length others) c.in-Broken.reason) c.give_front.new.self
    (value_refused v p (keeps_stands v at.keeps) at.next (part v) others at.waits c.in-Broken.reason (told_not c.is_cut.result c.is_cut.ensures c.if-not-is_cut.true) c.in-Broken.ensures.0 c.give_front.new.self)

pub loop-width-preserved : goal.loop-width-preserved
loop-width-preserved c =
    let i = c.loop-width.invariant in
    let p : Pair = pair_of c.args.pair.now in
    let g : PartialUnit = c.loop-width.self in
    let in_it = c.self.inside in
    let v : PartialUnit = coming in_it.draft in_it.unit_length (option_map uleb_of in_it.named) in_it.to_come c.push.new.self.items in
    let x : ℕ = c.in-Some-split_first.byte.now in
    let others : List ℕ = c.in-Some-split_first.others.now in
    let e : keeping g (g.pending ++ x ∷ []) ≡ v = ap₂ keeping (sym c.self.view_is) (ap (λ (y : PartialUnit). y.pending ++ x ∷ []) (sym c.self.view_is) ∙ sym c.push.ensures.items) in
    let at : InValue c.args.self.now c.args.b.now p v others = subst (λ (y : PartialUnit). InValue c.args.self.now c.args.b.now p y others) e (value_goes_on c.args.self.now c.args.b.now p g c.loop-width.rest.now i.at x others c.in-Some-split_first.ensures.cases.0 i.cut (c.opening.ensures.more c.in_default.is x)) in
    let cut : c.in-Broken.reason ≡ Truncated = told c.is_cut.result c.is_cut.ensures c.if-not-is_cut.false in
    let same : v ≡ c.give_front.new.self = sym c.in-Broken.ensures.1 in
    record {
      at = subst (λ (y : PartialUnit). InValue c.args.self.now c.args.b.now p y others) same at;
      named = λ is. subst (λ (y : PartialUnit). IsSome y.named) (e ∙ same) (i.named is);
      lim_is = i.lim_is ∙ ap left_of e ∙ ap left_of same;
      cut = subst (IsCutHere p) same (c.in-Broken.ensures.0 ∙ ap (λ (r : Reason). broken Attribute 0 r) cut);
    }
