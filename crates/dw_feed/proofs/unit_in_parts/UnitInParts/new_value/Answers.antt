use Rattle.std.proofs.Common.{◌≡◌, Some, None, sym, ap, subst, ◌∙◌, inr}
use Rattle.dw_leb.specs.declared.errors.Reason.{Reason}
use Rattle.dw_leb.specs.Decide.{broken}
use Rattle.dw_form.specs.Form.{Attribute}
use Rattle.dw_abbrev.specs.PairView.{pair_of}
use Rattle.dw_tree.specs.Steps.{next_pair, partial_in}
use Rattle.dw_feed.specs.BodyFeed.{PartialUnit, part}
use Rattle.dw_feed.specs.FieldSteps.{HasPart, FrontsWait, keeps_stands, waits_fronts, told}
use Rattle.dw_feed.specs.FeedInvariant.{Keeps}
use Rattle.dw_feed.specs.ValueCut.{IsCutHere, cut_before}
use Rattle.dw_feed.proofs.unit_in_parts.UnitInParts.new_value.Goals as goal

pub rest_of_value-requires-clause-next : goal.rest_of_value-requires-clause-next
rest_of_value-requires-clause-next c = subst (λ (x : PartialUnit). next_pair x.table x.place.unfinished ≡ Some (pair_of c.args.pair.now)) (sym c.in-Broken.ensures.1) c.requires.next

pub rest_of_value-requires-clause-stands : goal.rest_of_value-requires-clause-stands
rest_of_value-requires-clause-stands c = subst Keeps (sym c.in-Broken.ensures.1) c.requires.stands

pub rest_of_value-requires-clause-has : goal.rest_of_value-requires-clause-has
rest_of_value-requires-clause-has c = subst HasPart (sym c.in-Broken.ensures.1) c.requires.has

pub rest_of_value-requires-clause-waits : goal.rest_of_value-requires-clause-waits
rest_of_value-requires-clause-waits c = subst (λ (x : PartialUnit). FrontsWait x (part x)) (sym c.in-Broken.ensures.1) (waits_fronts c.args.self.now (inr c.requires.none_there))

pub rest_of_value-requires-clause-between : goal.rest_of_value-requires-clause-between
rest_of_value-requires-clause-between c = subst (λ (x : PartialUnit). partial_in x.place.unfinished ≡ None) (sym c.in-Broken.ensures.1) c.requires.between

pub rest_of_value-requires-clause-cut : goal.rest_of_value-requires-clause-cut
rest_of_value-requires-clause-cut c =
    subst (IsCutHere (pair_of c.args.pair.now)) (sym c.in-Broken.ensures.1)
    (cut_before c.args.self.now (pair_of c.args.pair.now) (keeps_stands c.args.self.now c.requires.stands) c.requires.next c.requires.none_there c.args.b.now
    (c.in-Broken.ensures.0 ∙ ap (λ (r : Reason). broken Attribute 0 r) (told c.is_cut.result c.is_cut.ensures c.if-is_cut.true)))
