use Rattle.std.proofs.Common.{◌≡◌, ◌<◌, ℕ, List, sym, ap, ap₂, subst, ◌∙◌, arith}
use Rattle.dw_leb.specs.Number.{Unsigned}
use Rattle.dw_leb.specs.Reader.{Outcome, checked, Found}
use Rattle.dw_leb.specs.ReadNumber.{read_uleb}
use Rattle.dw_leb.specs.View.{uleb_of}
use Rattle.dw_unit.specs.Draft.{Drafted}
use Rattle.dw_feed.specs.BodyFeed.{PartialUnit, part}
use Rattle.dw_feed.specs.BodyView.{drafted}
use Rattle.dw_feed.specs.FeedInvariant.{left as left_of, frames_of, chain_of}
use Rattle.dw_feed.specs.FieldSteps.{FieldPart, code_meaning, code_part, none_found}
use Rattle.dw_feed.proofs.unit_in_parts.UnitInParts.code_fault.Goals as goal

read_here : (g : PartialUnit) (d : Drafted) → d ≡ drafted g → (slice : List ℕ) → slice ≡ part g → (lim : ℕ) → lim ≡ left_of g → (o : Outcome Unsigned)
    → checked read_uleb (code_meaning d.table d.place.spot.above d.place.spot.left) slice lim ≡ o → checked read_uleb (code_meaning g.table (frames_of g) (chain_of g)) (part g) (left_of g) ≡ o
read_here g d e slice s lim l o h =
    ap₂ (λ (bs : List ℕ) (n : ℕ). checked read_uleb (code_meaning g.table (frames_of g) (chain_of g)) bs n) (sym s) (sym l)
    ∙ subst (λ (x : Drafted). checked read_uleb (code_meaning x.table x.place.spot.above x.place.spot.left) slice lim ≡ o) e h

pub unreachable-requires : goal.unreachable-requires
unreachable-requires c =
    let g : PartialUnit = c.args.self.now in
    let has = subst (FieldPart g) c.requires.free c.requires.has in
    let is_part : c.as_slice.result.now ≡ part g = c.as_slice.ensures.value ∙ ap (λ (x : PartialUnit). x.pending) c.self.view_is ∙ sym (code_part g c.requires.free has.0) in
    let read = read_here g _ (ap drafted c.self.view_is) c.as_slice.result.now is_part c.left.result c.left.ensures (Found (uleb_of c.in-Ok.field-0) c.in-Ok.field-0.width) c.in-Ok.ensures.exact in
    let some : 0 < c.in-Ok.field-0.width = omega (arith, c.in-Ok.field-0.fits.some) in
    none_found g c.requires.free c.requires.kept (uleb_of c.in-Ok.field-0) c.in-Ok.field-0.width some read
