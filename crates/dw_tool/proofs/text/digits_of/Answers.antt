use Rattle.std.proofs.Common.{◌+◌, ◌*◌, ◌<◌, ◌∷◌, [], ℕ, ◌∙◌, ap, arith}
use Rattle.std.specs.Prelude.{slice_index_or}
use Rattle.dw_tool.proofs.TwoDigits.{digits_there, table}
use Rattle.dw_tool.proofs.text.digits_of.Goals as goal

pub returns : goal.returns
returns c =
    let small : c.args.byte < 256 = omega (arith, c.ranges.byte.fits) in
    ap (λ (b : ℕ). slice_index_or table (2 * b) 0 ∷ slice_index_or table (2 * b + 1) 0 ∷ []) c.from-at.ensures ∙ digits_there c.args.byte small
