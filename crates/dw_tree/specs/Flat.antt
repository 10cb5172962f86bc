-- What the flat lists of a tree stand for.
use Rattle.std.specs.Prelude.{◌≡◌, ◌≢◌, ℕ, ◌+◌, ◌<◌, ◌≤◌, get_or, List, [], ◌∷◌, length, take, drop, map, Option, option_map, None}
use Rattle.dw_leb.specs.Number.{Unsigned}
use Rattle.dw_leb.specs.View.{uleb_of}
use Rattle.dw_leb.specs.Part.{Part}
use Rattle.dw_form.specs.declared.shape.Ctx.{Ctx}
use Rattle.dw_form.specs.Form.{Attribute, attribute}
use Rattle.dw_abbrev.specs.declared.pair.Pair.{Pair as RustPair}
use Rattle.dw_abbrev.specs.PairView.{pair_of}
use Rattle.dw_abbrev.specs.Table.{Pair, Table, declared}
use Rattle.dw_tree.specs.declared.row.RowKind.{RowKind}
use Rattle.dw_tree.specs.declared.row.RowKind.TheVariants.{Leaf, Branch, Null}
use Rattle.dw_tree.specs.declared.row.Row.{Row}
use Rattle.dw_tree.specs.declared.row.Unfinished.{Unfinished}
use Rattle.dw_tree.specs.Tree.{declared_pairs}
use Rattle.dw_tree.specs.Row.{Token, leaf_row, branch_row, null_row}
use Rattle.dw_tree.specs.PoolBytes.{joined, row_values}
use Rattle.dw_tree.specs.RowHeads.{values_at, row_heads, Here}
use Rattle.dw_tree.specs.Place.{spot_after, UnfinishedEntry, Place}

-- the value of a pair
abbrev pub value_part : Ctx → RustPair → Part Attribute
value_part k p = attribute k (pair_of p).form.value (pair_of p).constant

-- the pairs of an entry of this code
abbrev pub pairs_at : Table → ℕ → List Pair
pairs_at t code = declared_pairs (declared t code)

-- the code of a row
abbrev pub code_in : Row → Unsigned
code_in r = record { value = r.code; width = r.width }

-- a row with this end
abbrev pub with_end : Row → ℕ → Row
with_end r end =
    record {
      offset = r.offset;
      end = end;
      first = r.first;
      code = r.code;
      width = r.width;
      depth = r.depth;
      kind = r.kind;
      fits = r.fits;
    }

abbrev pub kind_token : RowKind → Unsigned → List Attribute → Token
kind_token Leaf code vs = leaf_row code vs
kind_token Branch code vs = branch_row code vs
kind_token Null code vs = null_row code.width

-- what a row stands for: its values are those whose heads begin at its place
abbrev pub row_values_at : Ctx → Table → List ℕ → List ℕ → Row → List Attribute
row_values_at k t hs pool r = values_at k (pairs_at t r.code) (drop r.first hs) pool

abbrev pub token_at : Ctx → Table → List ℕ → List ℕ → Row → Token
token_at k t hs pool r = kind_token r.kind (code_in r) (row_values_at k t hs pool r)

abbrev pub tokens_at : Ctx → Table → List Row → List ℕ → List ℕ → List Token
tokens_at k t rows hs pool = map (token_at k t hs pool) rows

-- the unfinished entry: as many values as it was given
abbrev pub unfinished_of : Ctx → Table → List ℕ → List ℕ → Unfinished → UnfinishedEntry
unfinished_of k t hs pool r =
    record {
      code = uleb_of r.code;
      values = values_at k (take r.given (pairs_at t r.code.value)) (drop r.first hs) pool;
      partial = None;
    }

abbrev pub place_of : Ctx → Table → List Row → List ℕ → List ℕ → Option Unfinished → Place
place_of k t rows hs pool unfinished = record {
  spot = spot_after (tokens_at k t rows hs pool);
  unfinished = option_map (unfinished_of k t hs pool) unfinished;
}

abbrev pub IsEntry : RowKind → Type 0
IsEntry Leaf = Unit {0}
IsEntry Branch = Unit {0}
IsEntry Null = ⊥

abbrev pub IsNull : RowKind → Type 0
IsNull Leaf = ⊥
IsNull Branch = ⊥
IsNull Null = Unit {0}

-- ---- where the heads of each row begin

-- a row is that of a token whose heads begin at this place
abbrev pub RowIs : ℕ → Row → Token → Type 0
RowIs first r (leaf_row code vs) = (r.kind ≡ Leaf) × (code_in r ≡ code) × (r.first ≡ first)
RowIs first r (branch_row code vs) = (r.kind ≡ Branch) × (code_in r ≡ code) × (r.first ≡ first)
RowIs first r (null_row w) = (r.kind ≡ Null) × (r.width ≡ w)

-- each row's heads and contents begin behind those before it
abbrev pub RowsAre : Ctx → Table → ℕ → ℕ → List Row → List Token → Type 0
RowsAre k t first start [] [] = Unit {0}
RowsAre k t first start [] (x ∷ xs) = ⊥
RowsAre k t first start (r ∷ rows) [] = ⊥
RowsAre k t first start (r ∷ rows) (x ∷ xs) =
    RowIs first r x
    × RowsAre k t (first + length (row_heads k t start x)) (start + length (joined (row_values x))) rows xs

-- the heads of an entry's values stand from its place on
pub record HasHeads (k : Ctx) (t : Table) (hs pool : List ℕ) (r : Row) : Type 0 where
  pub within : r.first ≤ length hs
  pub here : Here k (pairs_at t r.code) (drop r.first hs) pool

abbrev pub RowReads : Ctx → Table → List ℕ → List ℕ → Row → Type 0
RowReads k t hs pool r = IsEntry r.kind → HasHeads k t hs pool r

-- ---- offsets

-- each row begins behind those before it
abbrev pub OffsetsGrow : List Row → Type 0
OffsetsGrow rows = (i j : ℕ) (d : Row) → i < j → j < length rows → (get_or rows i d).offset < (get_or rows j d).offset

-- no row begins at the offset
abbrev pub NoneBegins : ℕ → List Row → Type 0
NoneBegins offset rows = (i : ℕ) (d : Row) → i < length rows → (get_or rows i d).offset ≢ offset
