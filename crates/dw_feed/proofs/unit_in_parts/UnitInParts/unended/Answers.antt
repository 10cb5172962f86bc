use Rattle.std.proofs.Common.{◌≡◌, ◌<◌, ◌≤◌, ◌-◌, ◌++◌, min, ℕ, List, length, take, drop, sym, ap, subst, ◌∙◌, arith, length-drop, take_all, take-append-drop}
use Rattle.std.proofs.lemmas.List.{length-take-le}
use Rattle.std.specs.Prelude.{option_map}
use Rattle.dw_leb.specs.View.{uleb_of}
use Rattle.dw_leb.specs.declared.errors.Reason.TheVariants.{PastUnit}
use Rattle.dw_feed.specs.declared.step.Step.{Step}
use Rattle.dw_feed.specs.declared.step.Step.TheVariants as steps
use Rattle.dw_feed.specs.BodyFeed.{PartialUnit, part}
use Rattle.dw_feed.specs.BodyView.{coming}
use Rattle.dw_feed.specs.FieldSteps.{StepSays}
use Rattle.dw_feed.specs.ContentSteps.{HasNoZero, taking_is, none_counted, text_waits, text_refused}
use Rattle.dw_feed.proofs.unit_in_parts.UnitInParts.unended.Goals as goal
use Rattle.dw_feed.proofs.unit_in_parts.UnitInParts.unended.Goals.{in-Ok, in-Err}

pub returns-then-b-room : goal.returns-then-b-room
returns-then-b-room c =
    let g : PartialUnit = c.args.self.now in
    let b : List ℕ = c.args.b.now in
    let n : ℕ = c.args.room in
    let enough : n ≤ length b = c.if-b-room.true in
    let front : min n (length b) ≡ n = omega (arith, enough) in
    let no_zero : HasNoZero (take n b) = subst (λ (m : ℕ). HasNoZero (take m b)) front c.requires.no_zero in
    let says = text_refused g c.requires.has n c.requires.text (take n b) no_zero (length-take-le n b enough) (drop n b) g in
    let over : length (drop n b) ≡ length b - n = length-drop n b in
    subst (λ (bs : List ℕ). StepSays g (part g ++ bs) (steps.Refused (length b - n) PastUnit) g) (take-append-drop n b)
    (subst (λ (m : ℕ). StepSays g (part g ++ (take n b ++ drop n b)) (steps.Refused m PastUnit) g) over says)

pub returns : goal.returns
returns c =
    let g : PartialUnit = c.args.self.now in
    let b : List ℕ = c.args.b.now in
    let short : length b < c.args.room = c.if-b-room.false in
    let all : take (min c.args.room (length b)) b ≡ b = take_all (min c.args.room (length b)) b (omega (arith, short)) in
    let no_zero : HasNoZero b = subst HasNoZero all c.requires.no_zero in
    let in_it = c.self.inside in
    let new : PartialUnit = coming c.bytes.new.self in_it.unit_length (option_map uleb_of in_it.named) in_it.to_come in_it.pending.items in
    let none_there : in_it.to_come ≡ 0 = ap (λ (x : PartialUnit). x.to_come) c.self.view_is ∙ none_counted g c.requires.has c.args.room c.requires.text in
    elim c.match-bytes.branch [
      | in-Ok w ↦
          let same = taking_is g in_it.draft c.bytes.new.self in_it.unit_length (option_map uleb_of in_it.named) in_it.to_come in_it.to_come in_it.pending.items b c.self.view_is w.in-Ok.ensures.ok (omega (arith, none_there)) in
          subst (λ (s : Step). StepSays g (part g ++ b) s new) (sym w.result-is) (subst (StepSays g (part g ++ b) steps.Wanting) (sym same) (text_waits g c.requires.has c.args.room c.requires.text b no_zero short))
      | in-Err w ↦ subst (λ (s : Step). StepSays g (part g ++ b) s new) (sym w.result-is) tt
    ]
