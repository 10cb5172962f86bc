use Rattle.std.proofs.Common.{◌≡◌, ◌≢◌, ℕ, ◌<◌, ◌≤◌, length, get_or, List, ap, arith, inl, inr}
use Rattle.std.proofs.Math.Nat.{eq-or-lt_of_le}
use Rattle.std.proofs.lemmas.Bool.{cases_lt, ltb-true, ltb-false}
use Rattle.dw_tree.specs.declared.row.Row.{Row}
use Rattle.dw_tree.specs.Flat.{OffsetsGrow}
use Rattle.dw_tree.proofs.FindRows.{same_default}
use Rattle.dw_tree.proofs.find.row_at.Goals as goal
use Rattle.dw_tree.proofs.find.row_at.Goals.{else-at-rows-via-then-at-rows+else-rows-at, else-at-rows-via-else-at-rows}

-- the first row that doesn't begin before an offset begins behind it, and so do those after it
behind : (rows : List Row) → OffsetsGrow rows → (at offset : ℕ) (e : Row) → at < length rows → offset ≤ (get_or rows at e).offset → (get_or rows at e).offset ≢ offset → (i : ℕ) (d : Row) → at ≤ i → i < length rows → (get_or rows i d).offset ≢ offset
behind rows up at offset e there low other i d le inside is =
    let same : (get_or rows at d).offset ≡ (get_or rows at e).offset = ap (λ (r : Row). r.offset) (same_default rows at d e there) in
    elim (eq-or-lt_of_le {n = at} {m = i} le) [
      | inl q ↦ other (omega (arith, same, is, ap (λ (k : ℕ). (get_or rows k d).offset) q))
      | inr less ↦ (let grown : (get_or rows at d).offset < (get_or rows i d).offset = up at i d less inside in omega (arith, same, is, grown, low))
    ]

pub returns-else-at-rows-clause-none : goal.returns-else-at-rows-clause-none
returns-else-at-rows-clause-none c i d inside is =
    let rows = c.args.rows.now in
    let at = c.rows_before-at.result in
    let rest = c.rows_before-at.ensures.point.1 in
    elim (cases_lt i at) [
      | inl before ↦ (let less : (get_or rows i d).offset < c.args.offset = ltb-true _ c.args.offset (c.rows_before-at.ensures.point.0 i d (omega arith) before) in omega (arith, less, is))
      | inr from ↦ elim c.else-at-rows.branch [
        | else-at-rows-via-then-at-rows+else-rows-at w ↦
            let e : Row = w.index-rows-at.result in
            let low : c.args.offset ≤ (get_or rows at e).offset = ltb-false _ c.args.offset (rest at e (omega arith) w.if-at-rows.true) in
            behind rows c.requires at c.args.offset e w.if-at-rows.true low w.if-rows-at.false i d from inside is
        | else-at-rows-via-else-at-rows w ↦ omega (arith, w.if-at-rows.false, from, inside)
      ]
    ]
