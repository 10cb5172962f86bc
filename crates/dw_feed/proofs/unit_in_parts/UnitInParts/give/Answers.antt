use Rattle.std.proofs.Common.{◌≡◌, ℕ, refl, ap, ap₂, subst, ◌∙◌, sym}
use Rattle.dw_leb.specs.Part.{Taken}
use Rattle.dw_leb.specs.Reader.{Found, Broken}
use Rattle.dw_leb.specs.declared.errors.Reason.TheVariants.{Truncated}
use Rattle.dw_form.specs.declared.shape.Ctx.{Ctx}
use Rattle.dw_form.specs.Form.{Attribute, attribute}
use Rattle.dw_form.specs.ReadForm.{read_attribute}
use Rattle.dw_form.specs.Lent.{attribute_of}
use Rattle.dw_abbrev.specs.PairView.{pair_of}
use Rattle.dw_abbrev.specs.Table.{Pair}
use Rattle.dw_header.specs.Header.{context_of}
use Rattle.dw_feed.specs.BodyFeed.{PartialUnit}
use Rattle.dw_feed.specs.FeedInvariant.{context, left}
use Rattle.dw_feed.specs.ValueSteps.{behind_value, value_read}
use Rattle.dw_feed.proofs.ToldValues.{cut_told}
use Rattle.dw_feed.proofs.ValueRoom.{value_fits, value_spelled}
use Rattle.dw_feed.proofs.unit_in_parts.UnitInParts.give.Goals as goal

pub settle-requires-clause-fits : goal.settle-requires-clause-fits
settle-requires-clause-fits c =
    let g : PartialUnit = c.args.self.now in
    let p : Pair = pair_of c.args.pair.now in
    let k : c.context-context.result ≡ context g = c.context-context.ensures.context ∙ ap context_of c.header.ensures ∙ ap context c.self.view_is in
    let taken = subst (λ (x : Ctx × ℕ). Taken (attribute x.0 p.form.value p.constant) c.args.bytes.now x.1 (attribute_of c.in-Ok.value) c.in-Ok.size) (ap₂ (λ (x : Ctx) (n : ℕ). (x, n)) k c.requires.lim) c.in-Ok.ensures.found in
    (value_fits g p c.requires.stands c.requires.next c.args.bytes.now (attribute_of c.in-Ok.value) c.in-Ok.size taken).0

pub settle-requires-clause-short : goal.settle-requires-clause-short
settle-requires-clause-short c =
    let g : PartialUnit = c.args.self.now in
    let p : Pair = pair_of c.args.pair.now in
    let k : c.context-context.result ≡ context g = c.context-context.ensures.context ∙ ap context_of c.header.ensures ∙ ap context c.self.view_is in
    let taken = subst (λ (x : Ctx × ℕ). Taken (attribute x.0 p.form.value p.constant) c.args.bytes.now x.1 (attribute_of c.in-Ok.value) c.in-Ok.size) (ap₂ (λ (x : Ctx) (n : ℕ). (x, n)) k c.requires.lim) c.in-Ok.ensures.found in
    (value_fits g p c.requires.stands c.requires.next c.args.bytes.now (attribute_of c.in-Ok.value) c.in-Ok.size taken).1

pub settle-requires-clause-spelled : goal.settle-requires-clause-spelled
settle-requires-clause-spelled c =
    let g : PartialUnit = c.args.self.now in
    let p : Pair = pair_of c.args.pair.now in
    let k : c.context-context.result ≡ context g = c.context-context.ensures.context ∙ ap context_of c.header.ensures ∙ ap context c.self.view_is in
    let taken = subst (λ (x : Ctx × ℕ). Taken (attribute x.0 p.form.value p.constant) c.args.bytes.now x.1 (attribute_of c.in-Ok.value) c.in-Ok.size) (ap₂ (λ (x : Ctx) (n : ℕ). (x, n)) k c.requires.lim) c.in-Ok.ensures.found in
    value_spelled g p c.requires.stands c.requires.next c.args.bytes.now (attribute_of c.in-Ok.value) c.in-Ok.size taken

pub returns-in-Ok-settle : goal.returns-in-Ok-settle
returns-in-Ok-settle c =
    let g : PartialUnit = c.args.self.now in
    let p : Pair = pair_of c.args.pair.now in
    let v : Attribute = attribute_of c.in-Ok.value in
    let k : c.context-context.result ≡ context g = c.context-context.ensures.context ∙ ap context_of c.header.ensures ∙ ap context c.self.view_is in
    let read : read_attribute (context g) p.form.value p.constant c.args.bytes.now (left g) ≡ Found v c.in-Ok.size =
    ap₂ (λ (x : Ctx) (n : ℕ). read_attribute x p.form.value p.constant c.args.bytes.now n) (sym k) (sym c.requires.lim) ∙ c.in-Ok.ensures.exact in
    (behind_value g v, value_read g p c.requires.stands c.requires.next c.args.bytes.now (Found v c.in-Ok.size) read, c.in-Ok.ensures.room.0, c.in-Ok-settle.ensures)

pub returns-then-is_short : goal.returns-then-is_short
returns-then-is_short c =
    let g : PartialUnit = c.args.self.now in
    let p : Pair = pair_of c.args.pair.now in (
      subst (λ (n : ℕ). read_attribute (context g) p.form.value p.constant c.args.bytes.now n ≡ Broken 0 Truncated) c.requires.lim
          (cut_told (context g) p c.args.bytes.now c.args.lim c.args.told c.requires.told (c.is_short.ensures.0 c.if-is_short.true)),
      refl,
    )
