-- How long a tree's lists are, by the bytes of its spelling.
use Rattle.std.specs.Prelude.{◌≤◌, ℕ, ◌+◌, ◌*◌, List, [], ◌∷◌, length}
use Rattle.std.proofs.Common.{arith, length-append}
use Rattle.std.specs.List.{AllByRecursion}
use Rattle.dw_leb.specs.Number.{Unsigned, uleb}
use Rattle.dw_leb.specs.DecideNumber.{uleb_some}
use Rattle.dw_form.specs.declared.shape.Ctx.{Ctx}
use Rattle.dw_form.specs.Form.{Attribute, attribute}
use Rattle.dw_form.specs.StoredView.{bytes_in}
use Rattle.dw_form.specs.Head.{head}
use Rattle.dw_form.specs.HeadSize.{head_size, content_size}
use Rattle.dw_abbrev.specs.Table.{Pair, Table, declared, zero_of}
use Rattle.dw_tree.specs.Tree.{values, declared_pairs}
use Rattle.dw_tree.specs.Row.{Token, leaf_row, branch_row, null_row, row_bytes, rows_bytes}
use Rattle.dw_tree.specs.PoolBytes.{joined, held, row_values}
use Rattle.dw_tree.specs.RowHeads.{heads, row_heads, rows_heads}
use Rattle.dw_tree.specs.DraftInvariant.{EntryFits, TokenFits}

-- lists that are no longer than so many bytes ask for: a row for each byte, sixteen bytes of heads, one of content
pub record AreShort (rows heads content bytes : ℕ) : Type 0 where
  pub rows_short : rows ≤ bytes
  pub heads_short : heads ≤ 16 * bytes
  pub content_short : content ≤ bytes

module _ (k : Ctx) where
  -- values with their heads and contents
  pub values_short : (ps : List Pair) (vs : List Attribute) (start : ℕ) → (values k ps).Fits vs
      → (length (heads k ps start vs) ≤ 16 * length ((values k ps).spell vs))
      × (length (joined vs) ≤ length ((values k ps).spell vs))
  values_short [] [] start fits = (omega arith, omega arith)
  values_short [] (v ∷ vs) start fits = absurd fits
  values_short (p ∷ ps) [] start fits = absurd fits
  values_short (p ∷ ps) (v ∷ vs) start fits =
      let own = head_size k p.form.value p.constant v start fits.0 in
      let held = content_size k p.form.value p.constant v fits.0 in
      let others = values_short ps vs (start + length (bytes_in v)) fits.1 in
      let one = length-append (head k p.form.value start v) (heads k ps (start + length (bytes_in v)) vs) in
      let two = length-append ((attribute k p.form.value p.constant).spell v) ((values k ps).spell vs) in
      let three = length-append (bytes_in v) (joined vs) in
      (omega (arith, own, others.0, one, two), omega (arith, held, others.1, two, three))

  module _ (t : Table) where
    entry_short : (code : Unsigned) (vs : List Attribute) (start : ℕ) → EntryFits k t code vs
        → AreShort 1 (length (heads k (declared_pairs (declared t code.value)) start vs)) (length (joined vs))
        (length (row_bytes k t (leaf_row code vs)))
    entry_short code vs start fits =
        let ps = declared_pairs (declared t code.value) in
        let own = values_short ps vs start fits.values_fit in
        let all = length-append (uleb.spell code) ((values k ps).spell vs) in
        let some = uleb_some code fits.code_fits in
        record {
          rows_short = omega (arith, all, some);
          heads_short = omega (arith, own.0, all);
          content_short = omega (arith, own.1, all);
        }

    row_short : (x : Token) (start : ℕ) → TokenFits k t x
        → AreShort 1 (length (row_heads k t start x)) (length (joined (row_values x))) (length (row_bytes k t x))
    row_short (leaf_row code vs) start fits = entry_short code vs start fits.0
    row_short (branch_row code vs) start fits = entry_short code vs start fits.0
    row_short (null_row w) start fits =
        let some = uleb_some (zero_of w) fits in
        record { rows_short = omega (arith, some); heads_short = omega arith; content_short = omega arith }

    -- the rows of a tree with their heads and contents
    pub rows_short : (xs : List Token) (start : ℕ) → AllByRecursion (TokenFits k t) xs
        → AreShort (length xs) (length (rows_heads k t start xs)) (length (held xs)) (length (rows_bytes k t xs))
    rows_short [] start fits =
        record { rows_short = omega arith; heads_short = omega arith; content_short = omega arith }
    rows_short (x ∷ xs) start fits =
        let own = row_short x start fits.0 in
        let others = rows_short xs (start + length (joined (row_values x))) fits.1 in
        let one = length-append (row_heads k t start x) (rows_heads k t (start + length (joined (row_values x))) xs) in
        let two = length-append (row_bytes k t x) (rows_bytes k t xs) in
        let three = length-append (joined (row_values x)) (held xs) in
        record {
          rows_short = omega (arith, own.rows_short, others.rows_short, two);
          heads_short = omega (arith, own.heads_short, others.heads_short, one, two);
          content_short = omega (arith, own.content_short, others.content_short, two, three);
        }
