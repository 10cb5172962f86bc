use Rattle.std.proofs.Common.{◌≡◌, ◌∙◌, ℕ, List, sym, ap, arith}
use Rattle.std.specs.Prelude.{slice_get}
use Rattle.dw_abbrev.specs.Table.{Declaration}
use Rattle.dw_abbrev.proofs.PlaceLemmas.{looked_at, found_from}
use Rattle.dw_abbrev.proofs.decls.Decls.get.Goals as goal

pub returns : goal.returns
returns c =
    let ds : List Declaration = c.as_slice.result.now in
    let i : ℕ = c.in_ok-index.index in
    let whole : ds ≡ c.args.self.now = c.as_slice.ensures.value ∙ c.self.view_is in
    let found = found_from 0 i c.args.self.now c.args.code c.in_ok-index.ensures.apart c.in_ok-index.ensures.found (omega arith) in
    looked_at ds i c.get.result c.get.ensures.lookup.0 c.get.ensures.lookup.1 ∙ ap (λ (xs : List Declaration). slice_get xs i) whole ∙ sym found
