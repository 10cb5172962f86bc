use Rattle.std.proofs.Common.{◌≡◌, ap, ◌∙◌, arith}
use Rattle.dw_leb.specs.Number.{length_size}
use Rattle.dw_unit.specs.Draft.{drafted_size}
use Rattle.dw_feed.specs.BodyFeed.{PartialUnit}
use Rattle.dw_feed.specs.BodyView.{drafted}
use Rattle.dw_feed.proofs.DraftRoom.{sized, length_behind}
use Rattle.dw_feed.proofs.unit_in_parts.UnitInParts.left.Goals as goal

pub overflow_sub-result-2 : goal.overflow_sub-result-2
overflow_sub-result-2 c =
    let size : c.size.result ≡ drafted_size (drafted c.args.self.now) = c.size.ensures.size ∙ ap (λ (g : PartialUnit). drafted_size (drafted g)) c.self.view_is in
    let format = c.length_size-length_size.ensures ∙ (ap length_size (c.format.ensures ∙ ap (λ h. h.format) c.header.ensures) ∙ ap (λ (g : PartialUnit). length_size g.header.format) c.self.view_is) in
    let n = ap (λ (g : PartialUnit). g.unit_length) c.self.view_is in
    omega (arith, size, format, n, sized c.args.self.now c.requires)

pub returns : goal.returns
returns c =
    let size : c.size.result ≡ drafted_size (drafted c.args.self.now) = c.size.ensures.size ∙ ap (λ (g : PartialUnit). drafted_size (drafted g)) c.self.view_is in
    let format = c.length_size-length_size.ensures ∙ (ap length_size (c.format.ensures ∙ ap (λ h. h.format) c.header.ensures) ∙ ap (λ (g : PartialUnit). length_size g.header.format) c.self.view_is) in
    let n = ap (λ (g : PartialUnit). g.unit_length) c.self.view_is in
    omega (arith, size, format, n, sized c.args.self.now c.requires, length_behind c.args.self.now c.requires)
