use Rattle.std.proofs.Common.{◌≡◌, ◌++◌, ◌∷◌, [], length, None, ℕ, List, refl, sym, ap, ap₂, subst, ◌∙◌, append_assoc, append-nil}
use Rattle.std.proofs.lemmas.List.{nil_from_length}
use Rattle.dw_leb.specs.declared.errors.Reason.{Reason}
use Rattle.dw_leb.specs.declared.errors.Reason.TheVariants.{Truncated}
use Rattle.dw_leb.specs.Number.{Unsigned}
use Rattle.dw_leb.specs.Reader.{Outcome, checked, Found, Broken}
use Rattle.dw_leb.specs.ReadNumber.{read_uleb}
use Rattle.dw_leb.specs.Decide.{broken}
use Rattle.dw_leb.specs.View.{uleb_of}
use Rattle.dw_feed.specs.declared.step.Step.TheVariants as steps
use Rattle.dw_unit.specs.Draft.{Drafted}
use Rattle.dw_feed.specs.BodyFeed.{PartialUnit, part}
use Rattle.std.specs.Prelude.{option_map}
use Rattle.dw_feed.specs.BodyView.{coming, drafted}
use Rattle.dw_feed.specs.FeedInvariant.{left as left_of, frames_of, chain_of}
use Rattle.dw_feed.specs.PlainFeed.{holding}
use Rattle.dw_feed.specs.FieldSteps.{Standing, StepSays, CodeStands, if_no_memory, code_stands, stands_same, FrontsWait, HasPart, FieldPart, code_meaning, keeps_stands, code_part, code_step, code_refused, code_short, code_waits, step_same, next_here, wait_more, told, told_not}
use Rattle.dw_feed.specs.ValueSteps.{keeping}
use Rattle.dw_feed.proofs.unit_in_parts.UnitInParts.code_in_parts.Goals as goal

-- what the call read is what the plain reader reads of the bytes that are kept
read_here : (g : PartialUnit) (d : Drafted) → d ≡ drafted g → (slice : List ℕ) → slice ≡ part g → (lim : ℕ) → lim ≡ left_of g → (o : Outcome Unsigned)
    → checked read_uleb (code_meaning d.table d.place.spot.above d.place.spot.left) slice lim ≡ o → checked read_uleb (code_meaning g.table (frames_of g) (chain_of g)) (part g) (left_of g) ≡ o
read_here g d e slice s lim l o h =
    ap₂ (λ (bs : List ℕ) (n : ℕ). checked read_uleb (code_meaning g.table (frames_of g) (chain_of g)) bs n) (sym s) (sym l)
    ∙ subst (λ (x : Drafted). checked read_uleb (code_meaning x.table x.place.spot.above x.place.spot.left) slice lim ≡ o) e h

pub returns-in-Ok-clause-says : goal.returns-in-Ok-clause-says
returns-in-Ok-clause-says c =
    let i = c.loop-code.invariant in
    let g : PartialUnit = c.loop-code.self in
    let is_part : c.as_slice.result.now ≡ part g = c.as_slice.ensures.value ∙ ap (λ (x : PartialUnit). x.pending) c.self-in-loop-code.view_is ∙ sym (code_part g i.free i.named) in
    let read = read_here g _ (ap drafted c.self-in-loop-code.view_is) c.as_slice.result.now is_part c.left-lim.result i.lim_is (Found (uleb_of c.in-Ok.code) c.in-Ok.code.width) c.in-Ok.ensures.exact in
    subst (λ (bs : List ℕ). StepSays c.args.self.now bs c.put.result c.put.new.self) i.all
    (step_same c.args.self.now g i.same (next_here c.args.self.now (keeps_stands c.args.self.now c.requires.stands)) (part g ++ c.loop-code.rest.now) c.put.result c.put.new.self
    (code_step g i.free (part g) c.loop-code.rest.now i.waits (uleb_of c.in-Ok.code) c.in-Ok.code.width read (length c.loop-code.rest.now) refl c.put.result c.put.new.self c.put.ensures))

pub returns-in-Ok-clause-memory : goal.returns-in-Ok-clause-memory
returns-in-Ok-clause-memory c =
    let i = c.loop-code.invariant in
    let g : PartialUnit = c.loop-code.self in
    let is_part : c.as_slice.result.now ≡ part g = c.as_slice.ensures.value ∙ ap (λ (x : PartialUnit). x.pending) c.self-in-loop-code.view_is ∙ sym (code_part g i.free i.named) in
    let read = read_here g _ (ap drafted c.self-in-loop-code.view_is) c.as_slice.result.now is_part c.left-lim.result i.lim_is (Found (uleb_of c.in-Ok.code) c.in-Ok.code.width) c.in-Ok.ensures.exact in
    if_no_memory c.put.result (CodeStands c.args.self.now (part c.args.self.now ++ c.args.b.now)) (subst (CodeStands c.args.self.now) i.all
    (stands_same c.args.self.now g i.same (next_here c.args.self.now (keeps_stands c.args.self.now c.requires.stands)) (part g ++ c.loop-code.rest.now) (code_stands g i.free (part g) c.loop-code.rest.now i.waits (uleb_of c.in-Ok.code) c.in-Ok.code.width read)))

pub returns-then-not-is_cut-clause-says : goal.returns-then-not-is_cut-clause-says
returns-then-not-is_cut-clause-says c =
    let i = c.loop-code.invariant in
    let g : PartialUnit = c.loop-code.self in
    let is_part : c.as_slice.result.now ≡ part g = c.as_slice.ensures.value ∙ ap (λ (x : PartialUnit). x.pending) c.self-in-loop-code.view_is ∙ sym (code_part g i.free i.named) in
    let read = read_here g _ (ap drafted c.self-in-loop-code.view_is) c.as_slice.result.now is_part c.left-lim.result i.lim_is (Broken 0 c.in-Err.reason) c.in-Err.ensures.exact in
    subst (λ (bs : List ℕ). StepSays c.args.self.now bs (steps.Refused (length c.loop-code.rest.now) c.in-Err.reason) g) i.all
    (step_same c.args.self.now g i.same (next_here c.args.self.now (keeps_stands c.args.self.now c.requires.stands)) (part g ++ c.loop-code.rest.now) (steps.Refused (length c.loop-code.rest.now) c.in-Err.reason) g
    (code_refused g i.free (part g) c.loop-code.rest.now i.waits c.in-Err.reason (told_not c.is_cut.result c.is_cut.ensures c.if-not-is_cut.true) read (length c.loop-code.rest.now) refl g))

pub returns-in-None-clause-says : goal.returns-in-None-clause-says
returns-in-None-clause-says c =
    let i = c.loop-code.invariant in
    let g : PartialUnit = c.loop-code.self in
    let is_part : c.as_slice.result.now ≡ part g = c.as_slice.ensures.value ∙ ap (λ (x : PartialUnit). x.pending) c.self-in-loop-code.view_is ∙ sym (code_part g i.free i.named) in
    let cut : c.in-Err.reason ≡ Truncated = told c.is_cut.result c.is_cut.ensures c.if-not-is_cut.false in
    let read = read_here g _ (ap drafted c.self-in-loop-code.view_is) c.as_slice.result.now is_part c.left-lim.result i.lim_is (Broken 0 Truncated) (c.in-Err.ensures.exact ∙ ap (λ (r : Reason). broken Unsigned 0 r) cut) in
    let has : HasPart g = subst (λ o. FieldPart g o) (sym i.free) (i.named, i.to_come) in
    let all : part g ≡ part c.args.self.now ++ c.args.b.now = sym (append-nil (part g)) ∙ ap (λ (bs : List ℕ). part g ++ bs) (sym (nil_from_length c.loop-code.rest.now c.in-None.ensures.cases)) ∙ i.all in
    subst (λ (bs : List ℕ). StepSays c.args.self.now bs steps.Wanting g) all
    (step_same c.args.self.now g i.same (next_here c.args.self.now (keeps_stands c.args.self.now c.requires.stands)) (part g) steps.Wanting g (refl, refl, code_short g i.free (part g) read, (has, code_waits g i.free)))

pub loop-code-preserved : goal.loop-code-preserved
loop-code-preserved c =
    let i = c.loop-code.invariant in
    let g : PartialUnit = c.loop-code.self in
    let is_part : c.as_slice.result.now ≡ part g = c.as_slice.ensures.value ∙ ap (λ (x : PartialUnit). x.pending) c.self-in-loop-code.view_is ∙ sym (code_part g i.free i.named) in
    let cut : c.in-Err.reason ≡ Truncated = told c.is_cut.result c.is_cut.ensures c.if-not-is_cut.false in
    let read = read_here g _ (ap drafted c.self-in-loop-code.view_is) c.as_slice.result.now is_part c.left-lim.result i.lim_is (Broken 0 Truncated) (c.in-Err.ensures.exact ∙ ap (λ (r : Reason). broken Unsigned 0 r) cut) in
    let b : ℕ = c.in-Some.byte.now in
    let k : PartialUnit = keeping g (g.pending ++ b ∷ []) in
    let in_it = c.self-in-loop-code.inside in
    let v : PartialUnit = coming in_it.draft in_it.unit_length (option_map uleb_of in_it.named) in_it.to_come in_it.pending.items in
    let e : k ≡ keeping v c.push.new.self.items = ap₂ keeping (sym c.self-in-loop-code.view_is) (ap (λ (x : PartialUnit). x.pending ++ b ∷ []) (sym c.self-in-loop-code.view_is) ∙ sym c.push.ensures.items) in
    let kept : part k ≡ part g ++ b ∷ [] = code_part k i.free i.named ∙ ap (λ (bs : List ℕ). bs ++ b ∷ []) (sym (code_part g i.free i.named)) in
    let all : part k ++ c.in-Some.others.now ≡ part c.args.self.now ++ c.args.b.now = ap (λ (bs : List ℕ). bs ++ c.in-Some.others.now) kept ∙ append_assoc (part g) (b ∷ []) c.in-Some.others.now ∙ ap (λ (bs : List ℕ). part g ++ bs) (sym c.in-Some.ensures.cases.0) ∙ i.all in
    let wait : FrontsWait k (part k) = subst (FrontsWait g) (sym kept) (wait_more g (part g) b (code_short g i.free (part g) read)) in
    let stands : Standing k = record { head = i.stands.head; stands = i.stands.stands; within = i.stands.within } in
    record {
      same = i.same ∙ ap (λ (x : PartialUnit). holding x []) e;
      all = subst (λ (x : PartialUnit). part x ++ c.in-Some.others.now ≡ part c.args.self.now ++ c.args.b.now) e all;
      free = subst (λ (x : PartialUnit). x.place.unfinished ≡ None) e i.free;
      named = subst (λ (x : PartialUnit). x.named ≡ None) e i.named;
      to_come = subst (λ (x : PartialUnit). x.to_come ≡ 0) e i.to_come;
      stands = subst Standing e stands;
      waits = subst (λ (x : PartialUnit). FrontsWait x (part x)) e wait;
      lim_is = i.lim_is ∙ ap left_of e;
    }
