use Rattle.std.proofs.Common.{◌≡◌, ◌-◌, List, ℕ, length, take, sym, ap, subst, ◌∙◌, arith}
use Rattle.std.specs.Prelude.{min}
use Rattle.std.proofs.lemmas.List.{take_at}
use Rattle.dw_leb.specs.declared.errors.Reason.TheVariants.{Truncated}
use Rattle.dw_header.specs.HeaderPlace.{HeaderAtUnder, HeaderBreaksUnder}
use Rattle.dw_feed.specs.HeaderCut.{IsCut}
use Rattle.dw_feed.specs.HeadFeed.{Reading, Answers}
use Rattle.dw_feed.specs.HeadFeedView.{state_of, ended}
use Rattle.dw_feed.proofs.HeadSteps.{header_past, header_taken, piece_taken, all_fit}
use Rattle.dw_feed.proofs.head.take_head.Goals as goal

pub overflow_sub-result : goal.overflow_sub-result
overflow_sub-result c =
    let k : ℕ = c.min.result in
    let now = all_fit c.args.taken.now.items c.args.piece.now c.try_extend_from_slice-fits.new.self.items c.len-before.result k c.try_extend_from_slice-fits.result c.len-before.ensures.value c.min.ensures c.len-before.ensures.fits c.try_extend_from_slice-fits.ensures.variant c.try_extend_from_slice-fits.ensures.ok in
    let stands = subst (λ (b : List ℕ). HeaderAtUnder c.args.versions c.args.order b c.in-Ok.head.0 c.in-Ok.head.1) (c.as_slice.ensures.value ∙ now) c.in-Ok.ensures.found in
    omega (arith, c.len-before.ensures.value, c.size-size.ensures.size, header_past c.args.versions c.args.order c.args.taken.now.items c.args.piece.now k c.in-Ok.head.0 c.in-Ok.head.1 c.requires stands)

pub take_bytes-requires : goal.take_bytes-requires
take_bytes-requires c =
    let k : ℕ = c.min.result in
    let now = all_fit c.args.taken.now.items c.args.piece.now c.try_extend_from_slice-fits.new.self.items c.len-before.result k c.try_extend_from_slice-fits.result c.len-before.ensures.value c.min.ensures c.len-before.ensures.fits c.try_extend_from_slice-fits.ensures.variant c.try_extend_from_slice-fits.ensures.ok in
    let back = c.truncate-in_default.ensures.items ∙ ap (take c.len-before.result) now ∙ take_at c.args.taken.now.items (take k c.args.piece.now) c.len-before.result (sym c.len-before.ensures.value) in
    subst (IsCut c.args.versions c.args.order) (sym back) c.requires

pub returns-in-Ok : goal.returns-in-Ok
returns-in-Ok c =
    let k : ℕ = c.min.result in
    let now = all_fit c.args.taken.now.items c.args.piece.now c.try_extend_from_slice-fits.new.self.items c.len-before.result k c.try_extend_from_slice-fits.result c.len-before.ensures.value c.min.ensures c.len-before.ensures.fits c.try_extend_from_slice-fits.ensures.variant c.try_extend_from_slice-fits.ensures.ok in
    let stands = subst (λ (b : List ℕ). HeaderAtUnder c.args.versions c.args.order b c.in-Ok.head.0 c.in-Ok.head.1) (c.as_slice.ensures.value ∙ now) c.in-Ok.ensures.found in
    rw (c.size-size.ensures.size, c.len-before.ensures.value) (header_taken c.args.versions c.args.order c.args.taken.now.items c.args.piece.now k c.in-Ok.head.0 c.in-Ok.head.1 c.requires stands c.truncate.new.self.items)

pub returns-in-More : goal.returns-in-More
returns-in-More c =
    let k : ℕ = c.min.result in
    let now = all_fit c.args.taken.now.items c.args.piece.now c.try_extend_from_slice-fits.new.self.items c.len-before.result k c.try_extend_from_slice-fits.result c.len-before.ensures.value c.min.ensures c.len-before.ensures.fits c.try_extend_from_slice-fits.ensures.variant c.try_extend_from_slice-fits.ensures.ok in
    let cut : IsCut c.args.versions c.args.order c.try_extend_from_slice-fits.new.self.items = (
      c.in-Err.fault.offset,
      subst (λ (b : List ℕ). HeaderBreaksUnder c.args.versions c.args.order b c.in-Err.fault.offset Truncated) c.as_slice.ensures.value
          (subst (λ r. HeaderBreaksUnder c.args.versions c.args.order c.as_slice.result.now c.in-Err.fault.offset r) c.in-More.ensures c.in-Err.ensures.broken.1),
    ) in
    piece_taken c.args.versions c.args.order c.args.taken.now.items c.args.piece.now c.try_extend_from_slice-fits.new.self.items k (subst (λ (n : ℕ). k ≡ min (length c.args.piece.now) (40 - n)) c.len-before.ensures.value c.min.ensures) now cut

pub returns-in_default : goal.returns-in_default
returns-in_default c =
    let k : ℕ = c.min.result in
    let now = all_fit c.args.taken.now.items c.args.piece.now c.try_extend_from_slice-fits.new.self.items c.len-before.result k c.try_extend_from_slice-fits.result c.len-before.ensures.value c.min.ensures c.len-before.ensures.fits c.try_extend_from_slice-fits.ensures.variant c.try_extend_from_slice-fits.ensures.ok in
    let back = c.truncate-in_default.ensures.items ∙ ap (take c.len-before.result) now ∙ take_at c.args.taken.now.items (take k c.args.piece.now) c.len-before.result (sym c.len-before.ensures.value) in
    subst (λ (b : List ℕ). Answers c.args.versions c.args.order (Reading b) c.args.piece.now c.take_bytes.result.0 c.take_bytes.result.1 (state_of c.take_bytes.new.taken.items (ended c.take_bytes.result.1))) back c.take_bytes.ensures
