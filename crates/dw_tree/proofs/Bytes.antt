-- The bytes and levels of rows that are parts of others.
use Rattle.std.proofs.Common.{◌≡◌, ℕ, zero, suc, ◌+◌, ◌<◌, List, [], ◌∷◌, ◌++◌, length, take, drop, refl, sym, ◌∙◌, ap, arith, append_assoc, length-append, take-append-drop, get_or}
use Rattle.std.proofs.lemmas.List.{append_cancel_right}
use Rattle.dw_form.specs.declared.shape.Ctx.{Ctx}
use Rattle.dw_abbrev.specs.Table.{Table}
use Rattle.dw_tree.specs.declared.row.Row.{Row}
use Rattle.dw_tree.specs.Tree.{Tree}
use Rattle.dw_tree.specs.Row.{Token, leaf_row, branch_row, null_row, rows_of, row_bytes, rows_bytes}
use Rattle.dw_tree.specs.DraftInvariant.{Stand, TokenFits, LevelFits, level_after, levels_after}
use Rattle.dw_tree.proofs.Fits.{tree_level}

-- ---- beginnings of a list

pub take_to : {X : Type 0} (xs ys : List X) (at end : ℕ) → drop at xs ≡ ys ++ drop end xs → take end xs ≡ take at xs ++ ys
take_to xs ys at end e =
    append_cancel_right (take end xs) (take at xs ++ ys) (drop end xs)
    (take-append-drop end xs
    ∙ (sym (take-append-drop at xs)
    ∙ (ap (λ (zs : List _). take at xs ++ zs) e ∙ sym (append_assoc (take at xs) ys (drop end xs)))))

pub take_one : {X : Type 0} (xs : List X) (x : X) (at : ℕ) → drop at xs ≡ x ∷ drop (suc at) xs → take (suc at) xs ≡ take at xs ++ x ∷ []
take_one xs x at e = take_to xs (x ∷ []) at (suc at) e

-- ---- levels are never 0

positive : (depth : ℕ) (x : Token) → 0 < depth → 0 < level_after depth x
positive depth (leaf_row code vs) h = h
positive depth (branch_row code vs) h = omega (arith, h)
positive zero (null_row w) h = h
positive (suc zero) (null_row w) h = omega arith
positive (suc (suc d)) (null_row w) h = omega arith

pub levels_positive : (depth : ℕ) (xs : List Token) → 0 < depth → 0 < levels_after depth xs
levels_positive depth [] h = h
levels_positive depth (x ∷ xs) h = levels_positive (level_after depth x) xs (positive depth x h)

-- behind a tree the level is that before it
pub level_behind : (depth : ℕ) (x : Tree) → 0 < depth → levels_after depth (rows_of x) ≡ depth
level_behind zero x h = absurd (omega (arith, h))
level_behind (suc d) x h = tree_level x d

-- ---- a row that stands

module _ (k : Ctx) (t : Table) where
  pub record StandsRow (start depth at : ℕ) (r : Row) (xs : List Token) : Type 0 where
    pub token : Token
    pub here : drop at xs ≡ token ∷ drop (suc at) xs
    pub offset : r.offset ≡ start + length (rows_bytes k t (take at xs))
    pub level : r.depth ≡ levels_after depth (take at xs)
    pub fits : TokenFits k t token
    pub small : LevelFits token (levels_after depth (take at xs))

  pub stand_at : (start depth : ℕ) (rows : List Row) (xs : List Token) (at : ℕ) (d : Row) → at < length rows → Stand k t start depth rows xs → StandsRow start depth at (get_or rows at d) xs
  stand_at start depth [] [] at d l h = absurd (omega (arith, l))
  stand_at start depth [] (x ∷ xs) at d l h = absurd h
  stand_at start depth (r ∷ rows) [] at d l h = absurd h
  stand_at start depth (r ∷ rows) (x ∷ xs) zero d l h = record { token = x; here = refl; offset = omega (arith, h.0.0); level = h.0.1; fits = h.0.2; small = h.0.3 }
  stand_at start depth (r ∷ rows) (x ∷ xs) (suc at) d l h =
      let s = stand_at (start + length (row_bytes k t x)) (level_after depth x) rows xs at d (omega (arith, l)) h.1 in
      record {
        token = s.token;
        here = s.here;
        offset = omega (arith, s.offset, length-append (row_bytes k t x) (rows_bytes k t (take at xs)));
        level = s.level;
        fits = s.fits;
        small = s.small;
      }
