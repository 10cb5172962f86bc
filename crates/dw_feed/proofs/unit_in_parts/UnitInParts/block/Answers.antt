use Rattle.std.proofs.Common.{◌≡◌, ◌<◌, ◌≤◌, ◌-◌, ◌++◌, min, ℕ, List, Option, length, take, drop, sym, ap, subst, ◌∙◌, arith, length-drop, take_all, take-append-drop}
use Rattle.std.proofs.lemmas.List.{length-take-le}
use Rattle.std.specs.Prelude.{option_map}
use Rattle.dw_leb.specs.Number.{Unsigned}
use Rattle.dw_leb.specs.View.{uleb_of}
use Rattle.dw_feed.specs.declared.step.Step.TheVariants as steps
use Rattle.dw_unit.specs.Draft.{Drafted, PartialFits, PartialShort, extended}
use Rattle.dw_feed.specs.BodyFeed.{PartialUnit, part}
use Rattle.dw_feed.specs.BodyView.{coming, drafted}
use Rattle.dw_feed.specs.PartialSteps.{taking}
use Rattle.dw_feed.specs.FieldSteps.{StepSays}
use Rattle.dw_feed.specs.ContentSteps.{taking_is, ended_is, with_ended, block_waits, block_stands, block_fits, block_room, block_ends}
use Rattle.dw_feed.proofs.DraftRoom.{room_for}
use Rattle.dw_feed.proofs.unit_in_parts.UnitInParts.block.Goals as goal

-- a front of the piece was taken, as long as is to come or as there is
record Took (g : PartialUnit) (b : List ℕ) (n : ℕ) (new : PartialUnit) : Type 0 where
  pub count : n ≡ min g.to_come (length b)
  pub long : length (take n b) ≡ n
  pub new_is : new ≡ taking g (take n b)

took : (g : PartialUnit) (b : List ℕ) (n : ℕ) (d d1 : Drafted) (unit_length : ℕ) (named : Option Unsigned) (to_come : ℕ) (pending : List ℕ) → n ≡ min to_come (length b) → coming d unit_length named to_come pending ≡ g → d1 ≡ extended (take n b) d
    → Took g b n (coming d1 unit_length named (to_come - n) pending)
took g b n d d1 unit_length named to_come pending is view extends =
    let long : length (take n b) ≡ n = length-take-le n b (omega (arith, is)) in
    let counted : to_come ≡ g.to_come = ap (λ (x : PartialUnit). x.to_come) view in
    record { count = is ∙ ap (λ (m : ℕ). min m (length b)) counted; long = long; new_is = taking_is g d d1 unit_length named to_come (to_come - n) pending (take n b) view extends (omega (arith, long)) }

pub returns-then-self-gt0 : goal.returns-then-self-gt0
returns-then-self-gt0 c =
    let g : PartialUnit = c.args.self.now in
    let b : List ℕ = c.args.b.now in
    let n : ℕ = c.min-count.result in
    let in_it = c.self.inside in
    let t = took g b n in_it.draft c.bytes.new.self in_it.unit_length (option_map uleb_of in_it.named) in_it.to_come in_it.pending.items c.min-count.ensures c.self.view_is c.in-Ok.ensures.ok in
    let counted : in_it.to_come ≡ g.to_come = ap (λ (x : PartialUnit). x.to_come) c.self.view_is in
    let some_left : 0 < in_it.to_come - n = c.if-self-gt0.true in
    let all : take n b ≡ b = take_all n b (omega (arith, t.count, counted, some_left)) in
    subst (StepSays g (part g ++ b) steps.Wanting) (sym (t.new_is ∙ ap (taking g) all)) (block_waits g c.requires.has c.requires.begun c.requires.block b (omega (arith, t.count, counted, some_left)))

pub end_value-requires-clause-fits : goal.end_value-requires-clause-fits
end_value-requires-clause-fits c =
    let g : PartialUnit = c.args.self.now in
    let b : List ℕ = c.args.b.now in
    let n : ℕ = c.min-count.result in
    let in_it = c.self.inside in
    let t = took g b n in_it.draft c.bytes.new.self in_it.unit_length (option_map uleb_of in_it.named) in_it.to_come in_it.pending.items c.min-count.ensures c.self.view_is c.in-Ok.ensures.ok in
    let counted : in_it.to_come ≡ g.to_come = ap (λ (x : PartialUnit). x.to_come) c.self.view_is in
    let none_left : in_it.to_come - n ≤ 0 = c.if-self-gt0.false in
    subst PartialFits (sym (ap drafted t.new_is)) (block_fits g c.requires.has c.requires.begun c.requires.block c.requires.stands (take n b) (omega (arith, t.count, t.long, counted, none_left)))

pub end_value-requires-clause-short : goal.end_value-requires-clause-short
end_value-requires-clause-short c =
    let g : PartialUnit = c.args.self.now in
    let b : List ℕ = c.args.b.now in
    let n : ℕ = c.min-count.result in
    let in_it = c.self.inside in
    let t = took g b n in_it.draft c.bytes.new.self in_it.unit_length (option_map uleb_of in_it.named) in_it.to_come in_it.pending.items c.min-count.ensures c.self.view_is c.in-Ok.ensures.ok in
    let counted : in_it.to_come ≡ g.to_come = ap (λ (x : PartialUnit). x.to_come) c.self.view_is in
    let none_left : in_it.to_come - n ≤ 0 = c.if-self-gt0.false in
    let enough : length (take n b) ≡ g.to_come = omega (arith, t.count, t.long, counted, none_left) in
    let stands = block_stands g c.requires.has c.requires.begun c.requires.block c.requires.stands (take n b) enough in
    subst PartialShort (sym (ap drafted t.new_is)) (block_room g c.requires.has c.requires.begun c.requires.block c.requires.stands (take n b) enough (room_for (taking g (take n b)) stands))

pub returns : goal.returns
returns c =
    let g : PartialUnit = c.args.self.now in
    let b : List ℕ = c.args.b.now in
    let n : ℕ = c.min-count.result in
    let in_it = c.self.inside in
    let t = took g b n in_it.draft c.bytes.new.self in_it.unit_length (option_map uleb_of in_it.named) in_it.to_come in_it.pending.items c.min-count.ensures c.self.view_is c.in-Ok.ensures.ok in
    let counted : in_it.to_come ≡ g.to_come = ap (λ (x : PartialUnit). x.to_come) c.self.view_is in
    let none_left : in_it.to_come - n ≤ 0 = c.if-self-gt0.false in
    let end = ended_is (taking g (take n b)) c.bytes.new.self c.end_value.new.self in_it.unit_length (option_map uleb_of in_it.named) (in_it.to_come - n) in_it.pending.items t.new_is c.end_value.ensures.ended in
    let says = block_ends g c.requires.has c.requires.begun c.requires.block c.requires.stands (take n b) (omega (arith, t.count, t.long, counted, none_left)) (drop n b) in
    subst (StepSays g (part g ++ b) (steps.Found (length b - n))) (sym end)
    (subst (λ (bs : List ℕ). StepSays g (part g ++ bs) (steps.Found (length b - n)) (with_ended (taking g (take n b)))) (take-append-drop n b)
    (subst (λ (m : ℕ). StepSays g (part g ++ (take n b ++ drop n b)) (steps.Found m) (with_ended (taking g (take n b)))) (length-drop n b) says))
