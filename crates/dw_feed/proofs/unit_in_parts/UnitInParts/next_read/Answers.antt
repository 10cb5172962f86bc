use Rattle.std.proofs.Common.{◌≡◌, ℕ, length, ap, ap₂, subst, ◌∙◌, sym}
use Rattle.std.specs.Prelude.{option_map}
use Rattle.dw_leb.specs.Part.{Taken}
use Rattle.dw_leb.specs.View.{uleb_of}
use Rattle.dw_leb.specs.Reader.{Found}
use Rattle.dw_form.specs.declared.shape.Ctx.{Ctx}
use Rattle.dw_form.specs.Form.{Attribute, attribute}
use Rattle.dw_form.specs.ReadForm.{read_attribute}
use Rattle.dw_form.specs.Lent.{attribute_of}
use Rattle.dw_abbrev.specs.PairView.{pair_of}
use Rattle.dw_abbrev.specs.Table.{Pair}
use Rattle.dw_tree.specs.Steps.{NextFits}
use Rattle.dw_unit.specs.Draft.{value_bytes, passes_limit}
use Rattle.dw_feed.specs.BodyFeed.{PartialUnit}
use Rattle.dw_feed.specs.BodyView.{drafted}
use Rattle.dw_feed.specs.FeedInvariant.{context, left}
use Rattle.dw_feed.specs.ValueSteps.{value_read}
use Rattle.dw_feed.proofs.ValueRoom.{value_fits, value_spelled}
use Rattle.dw_feed.proofs.EntryLemmas.{next_given, next_unchanged}
use Rattle.dw_feed.proofs.unit_in_parts.UnitInParts.next_read.Goals.{in-Ok-spelled_value, in-Err-spelled_value}
use Rattle.dw_feed.proofs.unit_in_parts.UnitInParts.next_read.Goals as goal

pub spelled_value-requires-clause-fits : goal.spelled_value-requires-clause-fits
spelled_value-requires-clause-fits c =
    let g : PartialUnit = c.args.self.now in
    let p : Pair = pair_of c.args.pair.now in
    let v : Attribute = attribute_of c.in-Ok.value in
    let taken = subst (λ (x : Ctx × ℕ). Taken (attribute x.0 p.form.value p.constant) c.args.bytes.now x.1 v c.in-Ok.size) (ap₂ (λ (x : Ctx) (n : ℕ). (x, n)) c.requires.context c.requires.lim) c.in-Ok.ensures.found in
    subst (λ (u : PartialUnit). NextFits (context u) u.table u.place.unfinished v) (sym c.self.view_is) (value_fits g p c.requires.stands c.requires.next c.args.bytes.now v c.in-Ok.size taken).0

pub spelled_value-requires-clause-spelled : goal.spelled_value-requires-clause-spelled
spelled_value-requires-clause-spelled c =
    let g : PartialUnit = c.args.self.now in
    let p : Pair = pair_of c.args.pair.now in
    let v : Attribute = attribute_of c.in-Ok.value in
    let taken = subst (λ (x : Ctx × ℕ). Taken (attribute x.0 p.form.value p.constant) c.args.bytes.now x.1 v c.in-Ok.size) (ap₂ (λ (x : Ctx) (n : ℕ). (x, n)) c.requires.context c.requires.lim) c.in-Ok.ensures.found in
    value_spelled g p c.requires.stands c.requires.next c.args.bytes.now v c.in-Ok.size taken ∙ ap (λ (u : PartialUnit). value_bytes (drafted u) v) (sym c.self.view_is)

pub spelled_value-requires-clause-short : goal.spelled_value-requires-clause-short
spelled_value-requires-clause-short c =
    let g : PartialUnit = c.args.self.now in
    let p : Pair = pair_of c.args.pair.now in
    let v : Attribute = attribute_of c.in-Ok.value in
    let taken = subst (λ (x : Ctx × ℕ). Taken (attribute x.0 p.form.value p.constant) c.args.bytes.now x.1 v c.in-Ok.size) (ap₂ (λ (x : Ctx) (n : ℕ). (x, n)) c.requires.context c.requires.lim) c.in-Ok.ensures.found in
    ap (λ (u : PartialUnit). passes_limit (drafted u) (length (value_bytes (drafted u) v))) c.self.view_is ∙ (value_fits g p c.requires.stands c.requires.next c.args.bytes.now v c.in-Ok.size taken).1

pub returns-after-spelled_value : goal.returns-after-spelled_value
returns-after-spelled_value c =
    let g : PartialUnit = c.args.self.now in
    let p : Pair = pair_of c.args.pair.now in
    let v : Attribute = attribute_of c.in-Ok.value in
    let a = c.self.inside in
    let read : read_attribute (context g) p.form.value p.constant c.args.bytes.now (left g) ≡ Found v c.in-Ok.size =
    ap₂ (λ (x : Ctx) (n : ℕ). read_attribute x p.form.value p.constant c.args.bytes.now n) (sym c.requires.context) (sym c.requires.lim) ∙ c.in-Ok.ensures.exact in
    elim c.match-spelled_value.branch [
      | in-Ok-spelled_value w ↦ rw w.result-is (
        v,
        value_read g p c.requires.stands c.requires.next c.args.bytes.now (Found v c.in-Ok.size) read,
        c.in-Ok.ensures.room.0,
        next_given g a.draft c.spelled_value.new.self a.unit_length (option_map uleb_of a.named) a.to_come a.pending.items c.self.view_is c.requires.none_kept v w.in-Ok-spelled_value.ensures.ok,
      )
      | in-Err-spelled_value w ↦ rw w.result-is (next_unchanged g a.draft c.spelled_value.new.self a.unit_length (option_map uleb_of a.named) a.to_come a.pending.items c.self.view_is w.in-Err-spelled_value.ensures.err)
    ]
