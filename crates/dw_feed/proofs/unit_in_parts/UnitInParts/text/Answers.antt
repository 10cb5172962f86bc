use Rattle.std.proofs.Common.{◌≡◌, ◌<◌, ◌-◌, ◌++◌, ◌∷◌, Option, Some, min, ℕ, List, length, take, sym, ap, subst, ◌∙◌, arith, length-append}
use Rattle.std.proofs.lemmas.List.{length-take-le}
use Rattle.std.specs.Prelude.{option_map}
use Rattle.dw_leb.specs.Number.{Unsigned}
use Rattle.dw_leb.specs.View.{uleb_of}
use Rattle.dw_feed.specs.declared.step.Step.TheVariants as steps
use Rattle.dw_tree.specs.Steps.{partial_in}
use Rattle.dw_unit.specs.Draft.{Drafted, PartialFits, PartialShort, extended}
use Rattle.dw_feed.specs.BodyFeed.{PartialUnit, part}
use Rattle.dw_feed.specs.BodyView.{coming, drafted}
use Rattle.dw_feed.specs.FeedInvariant.{left as left_of}
use Rattle.dw_feed.specs.PartialSteps.{taking}
use Rattle.dw_feed.specs.FieldSteps.{HasPart, StepSays}
use Rattle.dw_feed.specs.ContentSteps.{HasNoZero, ZeroIn, room_of_text, taking_is, ended_is, with_ended, none_counted, text_stands, text_fits, text_room, text_ends}
use Rattle.dw_feed.proofs.DraftRoom.{room_for}
use Rattle.dw_feed.proofs.Zero.{zero_splits}
use Rattle.dw_feed.proofs.unit_in_parts.UnitInParts.text.Goals as goal

-- the bytes before the first zero were taken
record Took (g : PartialUnit) (room : ℕ) (b : List ℕ) (n : ℕ) (new : PartialUnit) : Type 0 where
  pub no_zero : HasNoZero (take n b)
  pub rest : List ℕ
  pub split : b ≡ take n b ++ (0 ∷ rest)
  pub short : length (take n b) < room
  pub over : length rest ≡ length b - n - 1
  pub new_is : new ≡ taking g (take n b)

took : (g : PartialUnit) → HasPart g → (room : ℕ) → room_of_text (left_of g) (partial_in g.place.unfinished) ≡ Some room → (b : List ℕ) (m n : ℕ) → m ≡ min room (length b) → ZeroIn (take m b) (Some n) → n < length (take m b)
    → (d d1 : Drafted) (unit_length : ℕ) (named : Option Unsigned) (to_come : ℕ) (pending : List ℕ) → coming d unit_length named to_come pending ≡ g → d1 ≡ extended (take n b) d → Took g room b n (coming d1 unit_length named to_come pending)
took g has room is_room b m n is found within d d1 unit_length named to_come pending view extends =
    let s = zero_splits b m n found within in
    let front : length (take m b) ≡ m = length-take-le m b (omega (arith, is)) in
    let long : length (take n b) ≡ n = length-take-le n b (omega (arith, within, front, is)) in
    let none_there : to_come ≡ 0 = ap (λ (x : PartialUnit). x.to_come) view ∙ none_counted g has room is_room in
    record {
      no_zero = s.0;
      rest = s.1;
      split = s.2;
      short = omega (arith, long, within, front, is);
      over = omega (arith, ap length s.2, length-append (take n b) (0 ∷ s.1), long);
      new_is = taking_is g d d1 unit_length named to_come to_come pending (take n b) view extends (omega (arith, none_there));
    }

pub end_value-requires-clause-fits : goal.end_value-requires-clause-fits
end_value-requires-clause-fits c =
    let g : PartialUnit = c.args.self.now in
    let b : List ℕ = c.args.b.now in
    let n : ℕ = c.in-Some.end in
    let in_it = c.self.inside in
    let t = took g c.requires.has c.args.room c.requires.text b c.min.result n c.min.ensures c.in-Some.ensures.zero c.in-Some.ensures.within in_it.draft c.bytes.new.self in_it.unit_length (option_map uleb_of in_it.named) in_it.to_come in_it.pending.items c.self.view_is c.in-Ok.ensures.ok in
    subst PartialFits (sym (ap drafted t.new_is)) (text_fits g c.requires.has c.args.room c.requires.text (take n b) t.no_zero t.short c.requires.stands)

pub end_value-requires-clause-short : goal.end_value-requires-clause-short
end_value-requires-clause-short c =
    let g : PartialUnit = c.args.self.now in
    let b : List ℕ = c.args.b.now in
    let n : ℕ = c.in-Some.end in
    let in_it = c.self.inside in
    let t = took g c.requires.has c.args.room c.requires.text b c.min.result n c.min.ensures c.in-Some.ensures.zero c.in-Some.ensures.within in_it.draft c.bytes.new.self in_it.unit_length (option_map uleb_of in_it.named) in_it.to_come in_it.pending.items c.self.view_is c.in-Ok.ensures.ok in
    let stands = text_stands g c.requires.has c.args.room c.requires.text (take n b) t.no_zero t.short c.requires.stands in
    subst PartialShort (sym (ap drafted t.new_is)) (text_room g c.requires.has c.args.room c.requires.text (take n b) t.no_zero t.short c.requires.stands (room_for (taking g (take n b)) stands))

pub returns-in-Ok : goal.returns-in-Ok
returns-in-Ok c =
    let g : PartialUnit = c.args.self.now in
    let b : List ℕ = c.args.b.now in
    let n : ℕ = c.in-Some.end in
    let in_it = c.self.inside in
    let t = took g c.requires.has c.args.room c.requires.text b c.min.result n c.min.ensures c.in-Some.ensures.zero c.in-Some.ensures.within in_it.draft c.bytes.new.self in_it.unit_length (option_map uleb_of in_it.named) in_it.to_come in_it.pending.items c.self.view_is c.in-Ok.ensures.ok in
    let end = ended_is (taking g (take n b)) c.bytes.new.self c.end_value.new.self in_it.unit_length (option_map uleb_of in_it.named) in_it.to_come in_it.pending.items t.new_is c.end_value.ensures.ended in
    let says = text_ends g c.requires.has c.args.room c.requires.text (take n b) t.no_zero t.short c.requires.stands t.rest in
    subst (StepSays g (part g ++ b) (steps.Found (length b - n - 1))) (sym end)
    (subst (λ (bs : List ℕ). StepSays g (part g ++ bs) (steps.Found (length b - n - 1)) (with_ended (taking g (take n b)))) (sym t.split)
    (subst (λ (k : ℕ). StepSays g (part g ++ (take n b ++ (0 ∷ t.rest))) (steps.Found k) (with_ended (taking g (take n b)))) t.over says))
