use Rattle.std.proofs.Common.{◌≡◌, ◌-◌, ◌++◌, ℕ, List, length, Option, Some, None, IfSome, sym, ap, subst, ◌∙◌}
use Rattle.dw_unit.specs.Unit.{WholeUnit}
use Rattle.dw_tree.specs.Tree.{Tree}
use Rattle.dw_feed.specs.declared.step.Taken.TheVariants as takes
use Rattle.dw_feed.specs.declared.progress.Progress.TheVariants as answers
use Rattle.dw_feed.specs.BodyFeed.{PartialUnit, BodyFeed, Reading, Finished, part, FeedsBody, SaysDone}
use Rattle.dw_feed.specs.FaultFirst.{FaultFirst, none_refused}
use Rattle.dw_feed.specs.BodyFeedView.{feed_of}
use Rattle.dw_feed.specs.PlainFeed.{root_if_whole, unit_with}
use Rattle.dw_feed.specs.FieldSteps.{TakenSays}
use Rattle.dw_feed.proofs.body.BodyFeed.feed.Goals as goal

-- the unit that is handed out is the one that was told
whole_done : (g : PartialUnit) (piece : List ℕ) (over : ℕ) (new : PartialUnit) (u : WholeUnit) → TakenSays g piece (takes.Whole over) new → IfSome (root_if_whole new) (λ x. u ≡ unit_with new x) → SaysDone g piece (length piece - over) u
whole_done g piece over new u says is =
    let same : u ≡ unit_with new says.0 = subst (λ (o : Option Tree). IfSome o (λ x. u ≡ unit_with new x)) says.1 is in
    subst (SaysDone g piece (length piece - over)) (sym same) says.3.1

same_unit : (a b : PartialUnit) (o : Option PartialUnit) → o ≡ Some a → o ≡ Some b → a ≡ b
same_unit a b o e f = let q : some_unit a ≡ some_unit b = sym e ∙ f in cc
  where
    some_unit : PartialUnit → Option PartialUnit
    some_unit x = Some x

feeds_done : (old new : BodyFeed) (g : PartialUnit) (piece : List ℕ) (n : ℕ) (u : WholeUnit) → Reading g ≡ old → Finished ≡ new → SaysDone g piece n u → FeedsBody old piece n (answers.Done u) new
feeds_done old new g piece n u e f says = subst (λ (x : BodyFeed). FeedsBody x piece n (answers.Done u) new) e (subst (FeedsBody (Reading g) piece n (answers.Done u)) f says)

pub returns-in-Some-take-clause-feeds : goal.returns-in-Some-take-clause-feeds
returns-in-Some-take-clause-feeds c =
    let g : PartialUnit = c.in-Some.coming in
    let old : Reading g ≡ c.args.self.now = ap (λ (o : Option PartialUnit). feed_of o c.self.inside.fault) (sym c.in-Some.is) ∙ c.self.view_is in
    let same : c.take.new.self ≡ c.in-Some-take.coming = same_unit c.take.new.self c.in-Some-take.coming c.take-in-Whole.result c.take-in-Whole.ensures.value c.in-Some-take.is in
    let is : IfSome (root_if_whole c.take.new.self) (λ x. c.finish.result ≡ unit_with c.take.new.self x) = subst (λ (x : PartialUnit). IfSome (root_if_whole x) (λ y. c.finish.result ≡ unit_with x y)) (sym same) c.finish.ensures in
    feeds_done c.args.self.now _ g c.args.piece.now (length c.args.piece.now - c.in-Whole.over) c.finish.result old (ap (λ (o : Option PartialUnit). feed_of o None) (sym c.take-in-Whole.ensures.after)) (whole_done g c.args.piece.now c.in-Whole.over c.take.new.self c.finish.result c.in-Whole.ensures.says is)

pub returns-in-NoMemory-clause-memory : goal.returns-in-NoMemory-clause-memory
returns-in-NoMemory-clause-memory c =
    let g : PartialUnit = c.in-Some.coming in
    let old : Reading g ≡ c.args.self.now = ap (λ (o : Option PartialUnit). feed_of o c.self.inside.fault) (sym c.in-Some.is) ∙ c.self.view_is in
    subst (λ (x : BodyFeed). FaultFirst x c.args.piece.now answers.NoMemory) old (none_refused g (part g ++ c.args.piece.now) c.in-NoMemory.ensures.memory)
