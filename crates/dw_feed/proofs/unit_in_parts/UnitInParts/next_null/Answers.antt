use Rattle.std.proofs.Common.{◌≡◌, ◌<◌, length, ap, ◌∙◌, arith}
use Rattle.std.specs.Prelude.{option_map}
use Rattle.dw_leb.specs.Field.{are_bytes}
use Rattle.dw_leb.specs.View.{uleb_of}
use Rattle.dw_unit.specs.Draft.{passes_limit, closed}
use Rattle.dw_feed.specs.BodyFeed.{PartialUnit}
use Rattle.dw_feed.specs.BodyView.{drafted}
use Rattle.dw_feed.specs.FeedInvariant.{frames_of}
use Rattle.dw_feed.specs.FieldSteps.{keeps_stands}
use Rattle.dw_feed.proofs.DraftRoom.{room_for}
use Rattle.dw_feed.proofs.EntryLemmas.{code_none_kept, draft_is}
use Rattle.dw_feed.proofs.EntryRuns.{null_says}
use Rattle.dw_feed.proofs.unit_in_parts.UnitInParts.next_null.Goals as goal

pub close-requires-clause-short : goal.close-requires-clause-short
close-requires-clause-short c = ap (λ (g : PartialUnit). passes_limit (drafted g) c.args.null.width) c.self.view_is ∙ room_for c.args.self.now (keeps_stands c.args.self.now c.requires.stands) c.args.null.width c.requires.within

pub returns : goal.returns
returns c =
    let g : PartialUnit = c.args.self.now in
    let a = c.self.inside in
    let r = c.requires in
    let b = c.args._b.now in
    let fit = are_bytes b (λ k. omega (arith, c.type_inv._b k)) in
    let depth : c.depth.result ≡ length (frames_of g) = c.depth.ensures ∙ ap (λ (u : PartialUnit). length (frames_of u)) c.self.view_is in
    let deep : 1 < length (frames_of g) = omega (arith, c.if-depth-eq1.false, depth, r.inside) in
    null_says g r.stands r.has r.none_there r.free r.inside b fit (uleb_of c.args.null) r.read (omega (arith, c.args.null.fits.some)) r.room r.zero deep _
    (draft_is (closed c.args.null.width) g a.draft c.close.new.self a.unit_length (option_map uleb_of a.named) a.to_come a.pending.items c.self.view_is (code_none_kept g r.free r.has r.none_there) c.in_ok-close.ensures.ok)
