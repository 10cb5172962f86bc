use Rattle.std.proofs.Common.{◌≡◌, ℕ, List, length, take, Some, ap, subst, ◌∙◌, sym}
use Rattle.std.specs.Prelude.{option_map}
use Rattle.dw_leb.specs.View.{uleb_of}
use Rattle.dw_leb.specs.Reader.{Found}
use Rattle.dw_abbrev.specs.PairView.{pair_of}
use Rattle.dw_abbrev.specs.Table.{Pair}
use Rattle.dw_tree.specs.Steps.{IsPlainNext, SpellsPlain}
use Rattle.dw_unit.specs.Draft.{passes_limit}
use Rattle.dw_feed.specs.BodyFeed.{PartialUnit}
use Rattle.dw_feed.specs.BodyView.{drafted}
use Rattle.dw_feed.specs.FeedInvariant.{context, left}
use Rattle.dw_feed.specs.FieldSteps.{Standing}
use Rattle.dw_feed.specs.PlainValues.{PlainAt}
use Rattle.dw_feed.specs.ValueSteps.{value_read}
use Rattle.dw_tree.specs.Steps.{next_pair}
use Rattle.dw_feed.proofs.ValueRoom.{value_fits, value_spelled}
use Rattle.dw_feed.proofs.EntryLemmas.{next_given, next_unchanged}
use Rattle.dw_feed.proofs.unit_in_parts.UnitInParts.next_plain.Goals.{in-Ok, in-Err}
use Rattle.dw_feed.proofs.unit_in_parts.UnitInParts.next_plain.Goals as goal

-- the bytes at the front spell the value as the next one
next : (g : PartialUnit) (p : Pair) → Standing g → next_pair g.table g.place.unfinished ≡ Some p → (bytes : List ℕ) (size : ℕ) (x : PlainAt (context g) p bytes (left g) size) → IsPlainNext (context g) g.table g.place.unfinished x.value (take size bytes)
next g p stands is bytes size x = record { fits = (value_fits g p stands is bytes x.value size x.taken).0; plain = x.plain; spelled = value_spelled g p stands is bytes x.value size x.taken }

pub plain_value-requires-clause-spelled : goal.plain_value-requires-clause-spelled
plain_value-requires-clause-spelled c =
    let g : PartialUnit = c.args.self.now in
    let own = next g (pair_of c.args._pair.now) c.requires.stands c.requires.next c.args.bytes.now c.args.size c.requires.plain in
    subst (λ (u : PartialUnit). SpellsPlain (context u) u.table u.place.unfinished (take c.args.size c.args.bytes.now)) (sym c.self.view_is) (c.requires.plain.value, own)

pub plain_value-requires-clause-short : goal.plain_value-requires-clause-short
plain_value-requires-clause-short c =
    let g : PartialUnit = c.args.self.now in
    let p : Pair = pair_of c.args._pair.now in
    let x = c.requires.plain in
    let short = (value_fits g p c.requires.stands c.requires.next c.args.bytes.now x.value c.args.size x.taken).1 in
    let spelled = value_spelled g p c.requires.stands c.requires.next c.args.bytes.now x.value c.args.size x.taken in
    ap (λ (u : PartialUnit). passes_limit (drafted u) (length (take c.args.size c.args.bytes.now))) c.self.view_is ∙ (ap (λ (b : List ℕ). passes_limit (drafted g) (length b)) spelled ∙ short)

pub returns : goal.returns
returns c =
    let g : PartialUnit = c.args.self.now in
    let p : Pair = pair_of c.args._pair.now in
    let a = c.self.inside in
    let x = c.requires.plain in
    let own = next g p c.requires.stands c.requires.next c.args.bytes.now c.args.size x in
    let below = subst (λ (u : PartialUnit). IsPlainNext (context u) u.table u.place.unfinished x.value (take c.args.size c.args.bytes.now)) (sym c.self.view_is) own in
    elim c.match-plain_value.branch [
      | in-Ok w ↦ rw w.result-is (
        x.value,
        value_read g p c.requires.stands c.requires.next c.args.bytes.now (Found x.value c.args.size) x.read,
        c.requires.room,
        next_given g a.draft c.plain_value.new.self a.unit_length (option_map uleb_of a.named) a.to_come a.pending.items c.self.view_is c.requires.none_kept x.value (w.in-Ok.ensures.ok x.value below),
      )
      | in-Err w ↦ rw w.result-is (next_unchanged g a.draft c.plain_value.new.self a.unit_length (option_map uleb_of a.named) a.to_come a.pending.items c.self.view_is w.in-Err.ensures.err)
    ]
