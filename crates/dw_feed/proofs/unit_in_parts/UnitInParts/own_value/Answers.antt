use Rattle.std.proofs.Common.{◌≡◌, ◌++◌, Some, None, sym, ap, subst, ◌∙◌}
use Rattle.std.specs.Prelude.{IsSome}
use Rattle.dw_leb.specs.declared.errors.Reason.{Reason}
use Rattle.dw_leb.specs.Decide.{broken}
use Rattle.dw_form.specs.Form.{Attribute}
use Rattle.dw_abbrev.specs.PairView.{pair_of}
use Rattle.dw_tree.specs.Steps.{next_pair, partial_in}
use Rattle.dw_feed.specs.BodyFeed.{PartialUnit, part}
use Rattle.dw_feed.specs.FieldSteps.{HasPart, FrontsWait, StepSays, keeps_stands, told, told_not}
use Rattle.dw_feed.specs.FeedInvariant.{Keeps}
use Rattle.dw_feed.specs.ValueSteps.{value_whole, value_refused}
use Rattle.dw_feed.specs.ValueCut.{IsCutHere}
use Rattle.dw_feed.proofs.unit_in_parts.UnitInParts.own_value.Goals as goal

pub returns-in-Whole : goal.returns-in-Whole
returns-in-Whole c = value_whole c.args.self.now (pair_of c.args.pair.now) (part c.args.self.now) c.args.b.now c.requires.waits c.in-Whole.field-0 c.give_front.new.self c.in-Whole.ensures

pub returns-else-is_cut : goal.returns-else-is_cut
returns-else-is_cut c =
    value_refused c.args.self.now (pair_of c.args.pair.now) (keeps_stands c.args.self.now c.requires.stands) c.requires.next (part c.args.self.now) c.args.b.now c.requires.waits c.in-Broken.reason
    (told_not c.is_cut.result c.is_cut.ensures c.if-is_cut.false) c.in-Broken.ensures.0 c.give_front.new.self

pub rest_of_value-requires-clause-next : goal.rest_of_value-requires-clause-next
rest_of_value-requires-clause-next c = subst (λ (x : PartialUnit). next_pair x.table x.place.unfinished ≡ Some (pair_of c.args.pair.now)) (sym c.in-Broken.ensures.1) c.requires.next

pub rest_of_value-requires-clause-stands : goal.rest_of_value-requires-clause-stands
rest_of_value-requires-clause-stands c = subst Keeps (sym c.in-Broken.ensures.1) c.requires.stands

pub rest_of_value-requires-clause-has : goal.rest_of_value-requires-clause-has
rest_of_value-requires-clause-has c = subst HasPart (sym c.in-Broken.ensures.1) c.requires.has

pub rest_of_value-requires-clause-waits : goal.rest_of_value-requires-clause-waits
rest_of_value-requires-clause-waits c = subst (λ (x : PartialUnit). FrontsWait x (part x)) (sym c.in-Broken.ensures.1) c.requires.waits

pub rest_of_value-requires-clause-between : goal.rest_of_value-requires-clause-between
rest_of_value-requires-clause-between c = subst (λ (x : PartialUnit). partial_in x.place.unfinished ≡ None) (sym c.in-Broken.ensures.1) c.requires.between

pub rest_of_value-requires-clause-named : goal.rest_of_value-requires-clause-named
rest_of_value-requires-clause-named c = λ is. subst (λ (x : PartialUnit). IsSome x.named) (sym c.in-Broken.ensures.1) (c.requires.named is)

pub rest_of_value-requires-clause-cut : goal.rest_of_value-requires-clause-cut
rest_of_value-requires-clause-cut c =
    subst (IsCutHere (pair_of c.args.pair.now)) (sym c.in-Broken.ensures.1) (c.in-Broken.ensures.0 ∙ ap (λ (r : Reason). broken Attribute 0 r) (told c.is_cut.result c.is_cut.ensures c.if-is_cut.true))

pub returns-then-is_cut : goal.returns-then-is_cut
returns-then-is_cut c = subst (λ (x : PartialUnit). StepSays x (part x ++ c.args.b.now) c.rest_of_value.result c.rest_of_value.new.self) c.in-Broken.ensures.1 c.rest_of_value.ensures
