use Rattle.std.proofs.Common.{◌≡◌, ◌++◌, ◌∷◌, [], length, None, ℕ, List, Option, sym, ap, ap₂, subst, ◌∙◌}
use Rattle.std.proofs.lemmas.List.{nil_from_length}
use Rattle.std.specs.Prelude.{option_map}
use Rattle.dw_leb.specs.declared.errors.Reason.{Reason}
use Rattle.dw_leb.specs.declared.errors.Reason.TheVariants.{Truncated}
use Rattle.dw_leb.specs.Part.{Taken, judged}
use Rattle.dw_leb.specs.Number.{Unsigned, uleb}
use Rattle.dw_leb.specs.Reader.{checked, Broken}
use Rattle.dw_leb.specs.ReadNumber.{read_uleb}
use Rattle.dw_leb.specs.Decide.{broken}
use Rattle.dw_leb.specs.View.{uleb_of}
use Rattle.dw_form.specs.Form.{bad_inner}
use Rattle.dw_form.specs.ReadForm.{read_attribute}
use Rattle.dw_form.specs.Pieces.{via_bytes}
use Rattle.dw_abbrev.specs.PairView.{pair_of}
use Rattle.dw_abbrev.specs.Table.{Pair}
use Rattle.dw_tree.specs.Steps.{partial_in}
use Rattle.dw_feed.specs.declared.step.Step.TheVariants as steps
use Rattle.dw_feed.specs.BodyFeed.{PartialUnit, part}
use Rattle.dw_feed.specs.BodyView.{coming}
use Rattle.dw_feed.specs.FeedInvariant.{context, left as left_of}
use Rattle.dw_feed.specs.FieldSteps.{keeps_stands, told, told_not}
use Rattle.dw_feed.specs.ValueSteps.{InValue, keeping, part_free, form_refused, value_step, value_refused, value_wants, value_goes_on, value_named, form_kept, form_more, form_short, form_waits}
use Rattle.dw_feed.proofs.unit_in_parts.UnitInParts.named_form.Goals as goal

-- what the call refused of the bytes that are kept is refused of the value
refused_here : (g : PartialUnit) (p : Pair) → p.form.value ≡ 0x16 → partial_in g.place.unfinished ≡ None → g.named ≡ None → (slice : List ℕ) → slice ≡ g.pending → (lim : ℕ) → lim ≡ left_of g → (reason : Reason)
    → checked read_uleb bad_inner slice lim ≡ Broken 0 reason → read_attribute (context g) p.form.value p.constant (part g) (left_of g) ≡ Broken 0 reason
refused_here g p is between unnamed slice s lim l reason e =
    let all : slice ≡ part g = s ∙ ap (λ (o : Option Unsigned). via_bytes o ++ g.pending) (sym unnamed) ∙ sym (part_free g between) in
    ap₂ (λ (bs : List ℕ) (n : ℕ). read_attribute (context g) p.form.value p.constant bs n) (sym all) (sym l) ∙ form_refused (context g) p is slice lim reason e

pub own_value-requires-clause-stands : goal.own_value-requires-clause-stands
own_value-requires-clause-stands c =
    let i = c.loop-form.invariant in
    let g : PartialUnit = c.loop-form.self in
    let p : Pair = pair_of c.args.pair.now in
    let kept : c.as_slice.result.now ≡ g.pending = c.as_slice.ensures.value ∙ ap (λ (x : PartialUnit). x.pending) c.self-in-loop-form.view_is in
    let taken = subst (λ (bs : List ℕ). Taken (judged uleb bad_inner) bs c.left-lim.result (uleb_of c.in-Ok.form) c.in-Ok.form.width) kept c.in-Ok.ensures.found in
    let at = value_named c.args.self.now c.args.b.now p g c.loop-form.rest.now i.at i.indirect i.unnamed (uleb_of c.in-Ok.form) c.left-lim.result i.lim_is taken in
    (subst (λ (x : PartialUnit). InValue c.args.self.now c.args.b.now p x c.loop-form.rest.now) (sym c.name.ensures) at).keeps

pub own_value-requires-clause-has : goal.own_value-requires-clause-has
own_value-requires-clause-has c =
    let i = c.loop-form.invariant in
    let g : PartialUnit = c.loop-form.self in
    let p : Pair = pair_of c.args.pair.now in
    let kept : c.as_slice.result.now ≡ g.pending = c.as_slice.ensures.value ∙ ap (λ (x : PartialUnit). x.pending) c.self-in-loop-form.view_is in
    let taken = subst (λ (bs : List ℕ). Taken (judged uleb bad_inner) bs c.left-lim.result (uleb_of c.in-Ok.form) c.in-Ok.form.width) kept c.in-Ok.ensures.found in
    let at = value_named c.args.self.now c.args.b.now p g c.loop-form.rest.now i.at i.indirect i.unnamed (uleb_of c.in-Ok.form) c.left-lim.result i.lim_is taken in
    (subst (λ (x : PartialUnit). InValue c.args.self.now c.args.b.now p x c.loop-form.rest.now) (sym c.name.ensures) at).has

pub returns-in-Ok : goal.returns-in-Ok
returns-in-Ok c =
    let i = c.loop-form.invariant in
    let g : PartialUnit = c.loop-form.self in
    let p : Pair = pair_of c.args.pair.now in
    let kept : c.as_slice.result.now ≡ g.pending = c.as_slice.ensures.value ∙ ap (λ (x : PartialUnit). x.pending) c.self-in-loop-form.view_is in
    let taken = subst (λ (bs : List ℕ). Taken (judged uleb bad_inner) bs c.left-lim.result (uleb_of c.in-Ok.form) c.in-Ok.form.width) kept c.in-Ok.ensures.found in
    let at = value_named c.args.self.now c.args.b.now p g c.loop-form.rest.now i.at i.indirect i.unnamed (uleb_of c.in-Ok.form) c.left-lim.result i.lim_is taken in
    value_step c.args.self.now c.args.b.now p c.name.new.self c.loop-form.rest.now
    (subst (λ (x : PartialUnit). InValue c.args.self.now c.args.b.now p x c.loop-form.rest.now) (sym c.name.ensures) at) c.own_value.result c.own_value.new.self c.own_value.ensures

pub returns-then-not-is_cut : goal.returns-then-not-is_cut
returns-then-not-is_cut c =
    let i = c.loop-form.invariant in
    let g : PartialUnit = c.loop-form.self in
    let p : Pair = pair_of c.args.pair.now in
    let kept : c.as_slice.result.now ≡ g.pending = c.as_slice.ensures.value ∙ ap (λ (x : PartialUnit). x.pending) c.self-in-loop-form.view_is in
    let read = refused_here g p i.indirect i.at.between i.unnamed c.as_slice.result.now kept c.left-lim.result i.lim_is c.in-Err.reason c.in-Err.ensures.exact in
    value_step c.args.self.now c.args.b.now p g c.loop-form.rest.now i.at (steps.Refused (length c.loop-form.rest.now) c.in-Err.reason) g
    (value_refused g p (keeps_stands g i.at.keeps) i.at.next (part g) c.loop-form.rest.now i.at.waits c.in-Err.reason (told_not c.is_cut.result c.is_cut.ensures c.if-not-is_cut.true) read g)

pub returns-in-None : goal.returns-in-None
returns-in-None c =
    let i = c.loop-form.invariant in
    let g : PartialUnit = c.loop-form.self in
    let p : Pair = pair_of c.args.pair.now in
    let kept : c.as_slice.result.now ≡ g.pending = c.as_slice.ensures.value ∙ ap (λ (x : PartialUnit). x.pending) c.self-in-loop-form.view_is in
    let cut : c.in-Err.reason ≡ Truncated = told c.is_cut.result c.is_cut.ensures c.if-not-is_cut.false in
    let read = refused_here g p i.indirect i.at.between i.unnamed c.as_slice.result.now kept c.left-lim.result i.lim_is Truncated (c.in-Err.ensures.exact ∙ ap (λ (r : Reason). broken Unsigned 0 r) cut) in
    let cut_form : checked read_uleb bad_inner g.pending (left_of g) ≡ Broken 0 Truncated = ap₂ (λ (bs : List ℕ) (n : ℕ). checked read_uleb bad_inner bs n) (sym kept) (sym i.lim_is) ∙ (c.in-Err.ensures.exact ∙ ap (λ (r : Reason). broken Unsigned 0 r) cut) in
    value_wants c.args.self.now c.args.b.now p g c.loop-form.rest.now i.at (nil_from_length c.loop-form.rest.now c.in-None.ensures.cases) read
    (form_waits g i.at.between p i.at.next i.indirect i.unnamed (form_short g.pending (left_of g) cut_form))

pub loop-form-preserved : goal.loop-form-preserved
loop-form-preserved c =
    let i = c.loop-form.invariant in
    let g : PartialUnit = c.loop-form.self in
    let p : Pair = pair_of c.args.pair.now in
    let kept : c.as_slice.result.now ≡ g.pending = c.as_slice.ensures.value ∙ ap (λ (x : PartialUnit). x.pending) c.self-in-loop-form.view_is in
    let cut : c.in-Err.reason ≡ Truncated = told c.is_cut.result c.is_cut.ensures c.if-not-is_cut.false in
    let read = refused_here g p i.indirect i.at.between i.unnamed c.as_slice.result.now kept c.left-lim.result i.lim_is Truncated (c.in-Err.ensures.exact ∙ ap (λ (r : Reason). broken Unsigned 0 r) cut) in
    let x : ℕ = c.in-Some.byte.now in
    let k : PartialUnit = keeping g (g.pending ++ x ∷ []) in
    let in_it = c.self-in-loop-form.inside in
    let v : PartialUnit = coming in_it.draft in_it.unit_length (option_map uleb_of in_it.named) in_it.to_come in_it.pending.items in
    let cut_form : checked read_uleb bad_inner g.pending (left_of g) ≡ Broken 0 Truncated = ap₂ (λ (bs : List ℕ) (n : ℕ). checked read_uleb bad_inner bs n) (sym kept) (sym i.lim_is) ∙ (c.in-Err.ensures.exact ∙ ap (λ (r : Reason). broken Unsigned 0 r) cut) in
    let more = form_more (context g) g.pending (left_of g) cut_form x in
    let e : k ≡ keeping v c.push.new.self.items = ap₂ keeping (sym c.self-in-loop-form.view_is) (ap (λ (y : PartialUnit). y.pending ++ x ∷ []) (sym c.self-in-loop-form.view_is) ∙ sym c.push.ensures.items) in
    record {
      at = subst (λ (y : PartialUnit). InValue c.args.self.now c.args.b.now p y c.in-Some.others.now) e
          (value_goes_on c.args.self.now c.args.b.now p g c.loop-form.rest.now i.at x c.in-Some.others.now c.in-Some.ensures.cases.0 read
          (form_kept g i.at.between p i.at.next i.indirect i.unnamed (g.pending ++ x ∷ []) more i.at.has));
      indirect = i.indirect;
      unnamed = subst (λ (y : PartialUnit). y.named ≡ None) e i.unnamed;
      lim_is = i.lim_is ∙ ap left_of e;
    }
