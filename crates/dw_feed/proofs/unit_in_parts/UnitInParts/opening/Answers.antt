use Rattle.std.proofs.Common.{◌≡◌, ℕ, List, Option, Some, None, refl, sym, ap, ap₂, subst, ◌∙◌}
use Rattle.std.specs.Prelude.{option_map, IsSome, IfSome}
use Rattle.dw_leb.specs.declared.order.Order.{Order}
use Rattle.dw_leb.specs.declared.errors.Reason.TheVariants.{Truncated}
use Rattle.dw_leb.specs.Number.{Unsigned}
use Rattle.dw_leb.specs.Reader.{Broken}
use Rattle.dw_leb.specs.View.{uleb_of}
use Rattle.dw_form.specs.declared.shape.Ctx.{Ctx}
use Rattle.dw_form.specs.declared.shape.Shape.{Shape}
use Rattle.dw_form.specs.Form.{shape}
use Rattle.dw_form.specs.ReadForm.{read_attribute}
use Rattle.dw_form.specs.Pieces.{form_in}
use Rattle.dw_abbrev.specs.Table.{Pair}
use Rattle.dw_abbrev.specs.PairView.{pair_of}
use Rattle.dw_header.specs.Header.{context_of}
use Rattle.dw_tree.specs.Steps.{next_pair, partial_in}
use Rattle.dw_feed.specs.BodyFeed.{PartialUnit, part}
use Rattle.dw_feed.specs.FeedInvariant.{context, left as left_of}
use Rattle.dw_feed.specs.FieldSteps.{HasPart}
use Rattle.dw_feed.specs.PartialValues.{lim_behind}
use Rattle.dw_feed.specs.LengthFields.{HasLength, HasNoLength}
use Rattle.dw_feed.specs.Openings.{ValueHere, value_here, OpensHere, known_here, opens_here, pending_room, byte_has, keeps_no_length}
use Rattle.dw_feed.proofs.unit_in_parts.UnitInParts.opening.Goals as goal

-- where the value begins, under the pair that is handed in
record Begins (g : PartialUnit) (p : Pair) : Type 0 where
  pub here : ValueHere g
  pub pair_is : here.pair ≡ p
  pub named : here.pair.form.value ≡ 0x16 → IsSome g.named
  pub cut : read_attribute (context g) here.pair.form.value here.pair.constant (part g) (left_of g) ≡ Broken 0 Truncated

begins : (g : PartialUnit) (p : Pair) → next_pair g.table g.place.unfinished ≡ Some p → HasPart g → partial_in g.place.unfinished ≡ None → (p.form.value ≡ 0x16 → IsSome g.named) → read_attribute (context g) p.form.value p.constant (part g) (left_of g) ≡ Broken 0 Truncated → Begins g p
begins g p next has free named cut =
    let here : ValueHere g = value_here g has (subst IsSome (sym next) refl) free in
    let both : Some here.pair ≡ Some p = sym here.pair_is ∙ next in
    let same : here.pair ≡ p = cc in
    record {
      here = here;
      pair_is = same;
      named = subst (λ (q : Pair). q.form.value ≡ 0x16 → IsSome g.named) (sym same) named;
      cut = subst (λ (q : Pair). read_attribute (context g) q.form.value q.constant (part g) (left_of g) ≡ Broken 0 Truncated) (sym same) cut;
    }

-- the shape that the program found is that of the form in effect
shape_here : (g : PartialUnit) (p q : Pair) (form : ℕ) (k : Ctx) (named : Option Unsigned) (o : Option Shape) → q ≡ p → named ≡ g.named → form ≡ form_in p.form.value named → k ≡ context g → o ≡ shape form k.address_size k.format
    → shape (form_in q.form.value g.named) (context g).address_size (context g).format ≡ o
shape_here g p q form k named o a b c d e =
    ap₂ (λ (r : Pair) (n : Option Unsigned). shape (form_in r.form.value n) (context g).address_size (context g).format) a (sym b)
    ∙ ap₂ (λ (f : ℕ) (x : Ctx). shape f x.address_size x.format) (sym c) (sym d)
    ∙ sym e

carried : (P : Order → List ℕ → ℕ → Type 0) (order order' : Order) (bytes bytes' : List ℕ) (lim lim' : ℕ) → order ≡ order' → bytes ≡ bytes' → lim ≡ lim' → P order bytes lim → P order' bytes' lim'
carried P order order' bytes bytes' lim lim' a b c h = subst (λ (n : ℕ). P order' bytes' n) c (subst (λ (bs : List ℕ). P order' bs lim) b (subst (λ (x : Order). P x bytes lim) a h))

if_some : {X : Type 0} (P Q : X → Type 0) (o : Option X) → ((x : X) → P x → Q x) → IfSome o P → IfSome o Q
if_some P Q None f h = tt
if_some P Q (Some x) f h = f x h

pub unreachable-requires : goal.unreachable-requires
unreachable-requires c =
    let g : PartialUnit = c.args.self.now in
    let p : Pair = pair_of c.args.pair.now in
    let b = begins g p c.requires.next c.requires.has c.requires.between c.requires.named c.requires.cut in
    let k = c.context-context.ensures.context ∙ ap context_of c.header.ensures ∙ ap context c.self.view_is in
    let n = ap (λ (u : PartialUnit). u.named) c.self.view_is in
    known_here g b.here b.named b.cut (shape_here g p b.here.pair c.form_of.result c.context-context.result (option_map uleb_of c.self.inside.named) None b.pair_is n c.form_of.ensures k c.in-None.ensures.shape)

pub returns-clause-some : goal.returns-clause-some
returns-clause-some c =
    let g : PartialUnit = c.args.self.now in
    let p : Pair = pair_of c.args.pair.now in
    let b = begins g p c.requires.next c.requires.has c.requires.between c.requires.named c.requires.cut in
    let k = c.context-context.ensures.context ∙ ap context_of c.header.ensures ∙ ap context c.self.view_is in
    let n = ap (λ (u : PartialUnit). u.named) c.self.view_is in
    let s = c.in-Some.shape in
    let e = shape_here g p b.here.pair c.form_of.result c.context-context.result (option_map uleb_of c.self.inside.named) (Some s) b.pair_is n c.form_of.ensures k c.in-Some.ensures.shape in
    let bytes = c.as_slice.ensures.value ∙ ap (λ (u : PartialUnit). u.pending) c.self.view_is in
    let lim = c.behind-lim.ensures ∙ ap₂ lim_behind n c.left.ensures in
    if_some (λ x. HasLength c.context-context.result.order s x.0 x.1 c.as_slice.result.now c.behind-lim.result) (λ x. OpensHere g x.0 x.1) c.length_at.result
    (λ x h. opens_here g b.here b.named b.cut s e x.0 x.1 (carried (λ (o : Order) (bs : List ℕ) (l : ℕ). HasLength o s x.0 x.1 bs l) _ _ _ _ _ _ (ap (λ (x : Ctx). x.order) k) bytes lim h))
    c.length_at.ensures.some

pub returns-clause-none : goal.returns-clause-none
returns-clause-none c none =
    let g : PartialUnit = c.args.self.now in
    let p : Pair = pair_of c.args.pair.now in
    let b = begins g p c.requires.next c.requires.has c.requires.between c.requires.named c.requires.cut in
    let k = c.context-context.ensures.context ∙ ap context_of c.header.ensures ∙ ap context c.self.view_is in
    let n = ap (λ (u : PartialUnit). u.named) c.self.view_is in
    let s = c.in-Some.shape in
    let e = shape_here g p b.here.pair c.form_of.result c.context-context.result (option_map uleb_of c.self.inside.named) (Some s) b.pair_is n c.form_of.ensures k c.in-Some.ensures.shape in
    let bytes = c.as_slice.ensures.value ∙ ap (λ (u : PartialUnit). u.pending) c.self.view_is in
    let lim = c.behind-lim.ensures ∙ ap₂ lim_behind n c.left.ensures in
    pending_room g b.here b.named b.cut s e c.in-Some.ensures.sizes (carried (λ (o : Order) (bs : List ℕ) (l : ℕ). HasNoLength o s bs l) _ _ _ _ _ _ (ap (λ (x : Ctx). x.order) k) bytes lim (c.length_at.ensures.none none))

pub returns-clause-more : goal.returns-clause-more
returns-clause-more c none =
    let g : PartialUnit = c.args.self.now in
    let p : Pair = pair_of c.args.pair.now in
    let b = begins g p c.requires.next c.requires.has c.requires.between c.requires.named c.requires.cut in
    let k = c.context-context.ensures.context ∙ ap context_of c.header.ensures ∙ ap context c.self.view_is in
    let n = ap (λ (u : PartialUnit). u.named) c.self.view_is in
    let s = c.in-Some.shape in
    let e = shape_here g p b.here.pair c.form_of.result c.context-context.result (option_map uleb_of c.self.inside.named) (Some s) b.pair_is n c.form_of.ensures k c.in-Some.ensures.shape in
    let bytes = c.as_slice.ensures.value ∙ ap (λ (u : PartialUnit). u.pending) c.self.view_is in
    let lim = c.behind-lim.ensures ∙ ap₂ lim_behind n c.left.ensures in
    byte_has g b.here b.named b.cut s e c.in-Some.ensures.sizes (carried (λ (o : Order) (bs : List ℕ) (l : ℕ). HasNoLength o s bs l) _ _ _ _ _ _ (ap (λ (x : Ctx). x.order) k) bytes lim (c.length_at.ensures.none none))

pub returns-clause-waits : goal.returns-clause-waits
returns-clause-waits c none =
    let g : PartialUnit = c.args.self.now in
    let p : Pair = pair_of c.args.pair.now in
    let b = begins g p c.requires.next c.requires.has c.requires.between c.requires.named c.requires.cut in
    let k = c.context-context.ensures.context ∙ ap context_of c.header.ensures ∙ ap context c.self.view_is in
    let n = ap (λ (u : PartialUnit). u.named) c.self.view_is in
    let s = c.in-Some.shape in
    let e = shape_here g p b.here.pair c.form_of.result c.context-context.result (option_map uleb_of c.self.inside.named) (Some s) b.pair_is n c.form_of.ensures k c.in-Some.ensures.shape in
    let bytes = c.as_slice.ensures.value ∙ ap (λ (u : PartialUnit). u.pending) c.self.view_is in
    let lim = c.behind-lim.ensures ∙ ap₂ lim_behind n c.left.ensures in
    keeps_no_length g b.here b.named b.cut s e (carried (λ (o : Order) (bs : List ℕ) (l : ℕ). HasNoLength o s bs l) _ _ _ _ _ _ (ap (λ (x : Ctx). x.order) k) bytes lim (c.length_at.ensures.none none))
