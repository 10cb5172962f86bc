-- Rows that stand one behind the other, when one more is put.
use Rattle.std.proofs.Common.{◌≡◌, ℕ, zero, suc, ◌+◌, List, [], ◌∷◌, ◌++◌, length, take, drop, get_or, set, refl, ◌∙◌, ap, arith, length-append, take_all}
use Rattle.std.specs.Prelude.{fold}
use Rattle.dw_form.specs.declared.shape.Ctx.{Ctx}
use Rattle.dw_form.specs.Form.{Attribute}
use Rattle.dw_abbrev.specs.Table.{Pair, Table}
use Rattle.dw_tree.specs.declared.row.Row.{Row}
use Rattle.dw_tree.specs.Row.{Token, leaf_row, branch_row, null_row, row_bytes, rows_bytes}
use Rattle.dw_tree.specs.Place.{Frame, Spot, nowhere, step, spot_after, rows_before, open_rows}
use Rattle.dw_tree.specs.Steps.{FirstsFit, FirstFits}
use Rattle.dw_tree.specs.DraftInvariant.{Stand, TokenFits, LevelFits, level_after, levels_after}

-- ---- levels

level_step : (fs : List Frame) (left : _) (x : Token) → level_after (suc (length fs)) x ≡ suc (length (step (record { above = fs; left = left }) x).above)
level_step fs left (leaf_row code vs) = refl
level_step fs left (branch_row code vs) = refl
level_step [] left (null_row w) = refl
level_step (f ∷ fs) left (null_row w) = refl

levels_fold : (s : Spot) (xs : List Token) → levels_after (suc (length s.above)) xs ≡ suc (length (fold step s xs).above)
levels_fold s [] = refl
levels_fold s (x ∷ xs) = ap (λ (n : ℕ). levels_after n xs) (level_step s.above s.left x) ∙ levels_fold (step s x) xs

-- the level of a place is one more than its open entries
pub level_is : (xs : List Token) → levels_after 1 xs ≡ suc (length (spot_after xs).above)
level_is xs = levels_fold nowhere xs

pub open_long : (fs : List Frame) → length (open_rows fs) ≡ length fs
open_long [] = refl
open_long (f ∷ fs) = length-append (open_rows fs) (length (rows_before fs f.left) ∷ []) ∙ (let h = open_long fs in omega (arith, h))

-- ---- one more row

module _ (k : Ctx) (t : Table) where
  pub stand_push : (at depth : ℕ) (rows : List Row) (r : Row) (xs : List Token) (x : Token) → r.offset ≡ at + length (rows_bytes k t xs) → r.depth ≡ levels_after depth xs → TokenFits k t x → LevelFits x (levels_after depth xs)
      → Stand k t at depth rows xs → Stand k t at depth (rows ++ r ∷ []) (xs ++ x ∷ [])
  stand_push at depth [] r [] x eo ed f l h = ((omega (arith, eo), ed, f, l), tt)
  stand_push at depth [] r (y ∷ xs) x eo ed f l h = absurd h
  stand_push at depth (q ∷ rows) r [] x eo ed f l h = absurd h
  stand_push at depth (q ∷ rows) r (y ∷ xs) x eo ed f l h =
      (h.0, stand_push (at + length (row_bytes k t y)) (level_after depth y) rows r xs x (omega (arith, eo, length-append (row_bytes k t y) (rows_bytes k t xs))) ed f l h.1)

  -- a row whose end is set
  pub stand_set : (at depth : ℕ) (rows : List Row) (i : ℕ) (q d : Row) (xs : List Token) → q.offset ≡ (get_or rows i d).offset → q.depth ≡ (get_or rows i d).depth → Stand k t at depth rows xs → Stand k t at depth (set rows i q) xs
  stand_set at depth [] i q d xs eo ed h = h
  stand_set at depth (r ∷ rows) i q d [] eo ed h = absurd h
  stand_set at depth (r ∷ rows) zero q d (x ∷ xs) eo ed h = ((eo ∙ h.0.0, ed ∙ h.0.1, h.0.2, h.0.3), h.1)
  stand_set at depth (r ∷ rows) (suc i) q d (x ∷ xs) eo ed h = (h.0, stand_set (at + length (row_bytes k t x)) (level_after depth x) rows i q d xs eo ed h.1)

  -- ---- one more value

  pub prefix_push : (ps : List Pair) (vs : List Attribute) (v : Attribute) → FirstsFit k ps vs → FirstFits k (drop (length vs) ps) v → FirstsFit k ps (vs ++ v ∷ [])
  prefix_push [] [] v h n = absurd n
  prefix_push (p ∷ ps) [] v h n = (n, tt)
  prefix_push [] (w ∷ vs) v h n = absurd h
  prefix_push (p ∷ ps) (w ∷ vs) v h n = (h.0, prefix_push ps vs v h.1 n)

  pub whole_prefix : (ps : List Pair) (vs : List Attribute) → length vs ≡ length ps → take (length vs) ps ≡ ps
  whole_prefix ps vs e = take_all (length vs) ps (omega (arith, e))
