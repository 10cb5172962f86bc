-- What is true of the flat lists of a tree.
use Rattle.std.specs.Prelude.{◌≡◌, ℕ, zero, suc, ◌+◌, ◌<◌, ◌≤◌, ◌^◌, ◌⊎◌, List, [], ◌∷◌, ◌++◌, get_or, drop, length, Option, Some, None, option_map, IfSome, IsSome, true, false}
use Rattle.dw_leb.specs.Number.{Unsigned, uleb}
use Rattle.dw_leb.specs.View.{uleb_of}
use Rattle.dw_form.specs.declared.shape.Ctx.{Ctx}
use Rattle.dw_form.specs.Form.{Attribute}
use Rattle.dw_abbrev.specs.Table.{Pair, Declaration, Table, declared, is_null, zero_of}
use Rattle.dw_tree.specs.declared.row.Row.{Row}
use Rattle.dw_tree.specs.declared.row.Unfinished.{Unfinished}
use Rattle.dw_tree.specs.Tree.{Tree, values, declared_pairs, declares_children, nesting}
use Rattle.dw_tree.specs.Row.{Token, leaf_row, branch_row, null_row, rows_of, row_bytes, rows_bytes}
use Rattle.dw_tree.specs.Place.{UnfinishedEntry, spot_after, rows_before, open_rows}
use Rattle.dw_tree.specs.PoolBytes.{held}
use Rattle.dw_tree.specs.RowHeads.{rows_heads, Account}
use Rattle.dw_tree.specs.Flat.{pairs_at, IsEntry, RowsAre}
use Rattle.dw_tree.specs.Steps.{FirstsFit, unfinished_bytes}

-- ---- the rows spell a tree with one open place

abbrev pub IsIn : ℕ → List ℕ → Type 0
IsIn i [] = ⊥
IsIn i (x ∷ xs) = (i ≡ x) ⊎ IsIn i xs

-- a tree stands in the rows from i on, and ends before this row
pub record EndsAt (xs : List Token) (i end : ℕ) : Type 0 where
  pub tree : Tree
  pub whole : drop i xs ≡ rows_of tree ++ drop end xs
  pub within : end ≤ length xs

-- each entry is open, or its row has the end of its tree
abbrev pub HaveEnds : List Row → List Token → List ℕ → Type 0
HaveEnds rows xs open_at =
    (i : ℕ) (d : Row) → i < length rows → IsEntry (get_or rows i d).kind
    → IsIn i open_at ⊎ EndsAt xs i (get_or rows i d).end

-- the rows are those before the place where they lead, and open_at has the rows of its open entries
pub record IsSpelled (rows : List Row) (xs : List Token) (open_at : List ℕ) : Type 0 where
  pub ends : HaveEnds rows xs open_at
  pub long : length rows ≡ length xs
  pub spelled : xs ≡ rows_before (spot_after xs).above (spot_after xs).left
  pub opened : open_at ≡ open_rows (spot_after xs).above

-- what was made room for: a row, and a place among the open entries where it has children
pub record HasRoom (unfinished : Option Unfinished) (rows rows_cap open_len open_cap : ℕ) : Type 0 where
  pub row : IfSome unfinished (λ r. rows < rows_cap)
  pub place : IfSome unfinished (λ r. r.children ≡ true → open_len < open_cap)

-- ---- each row has a spelling, stands where the bytes before it end, and not too deep

-- an entry's code and values have a spelling
pub record EntryFits (k : Ctx) (t : Table) (code : Unsigned) (vs : List Attribute) : Type 0 where
  pub code_fits : uleb.Fits code
  pub not_null : is_null code ≡ false
  pub known : IsSome (declared t code.value)
  pub values_fit : (values k (declared_pairs (declared t code.value))).Fits vs

abbrev pub TokenFits : Ctx → Table → Token → Type 0
TokenFits k t (leaf_row code vs) = EntryFits k t code vs × (declares_children (declared t code.value) ≡ false)
TokenFits k t (branch_row code vs) = EntryFits k t code vs × (declares_children (declared t code.value) ≡ true)
TokenFits k t (null_row w) = uleb.Fits (zero_of w)

-- an entry's level is at most the nesting's limit
abbrev pub LevelFits : Token → ℕ → Type 0
LevelFits (leaf_row code vs) depth = depth ≤ nesting
LevelFits (branch_row code vs) depth = depth ≤ nesting
LevelFits (null_row w) depth = Unit {0}

abbrev pub shallower : ℕ → ℕ
shallower zero = zero
shallower (suc zero) = 1
shallower (suc (suc d)) = suc d

-- the level behind a row
abbrev pub level_after : ℕ → Token → ℕ
level_after depth (leaf_row code vs) = depth
level_after depth (branch_row code vs) = suc depth
level_after depth (null_row w) = shallower depth

abbrev pub levels_after : ℕ → List Token → ℕ
levels_after depth [] = depth
levels_after depth (x ∷ xs) = levels_after (level_after depth x) xs

-- the rows stand one behind the other, the first at this offset and this level
abbrev pub Stand : Ctx → Table → ℕ → ℕ → List Row → List Token → Type 0
Stand k t at depth [] [] = Unit {0}
Stand k t at depth [] (x ∷ xs) = ⊥
Stand k t at depth (r ∷ rows) [] = ⊥
Stand k t at depth (r ∷ rows) (x ∷ xs) =
    ((r.offset ≡ at) × (r.depth ≡ depth) × TokenFits k t x × LevelFits x depth)
    × Stand k t (at + length (row_bytes k t x)) (level_after depth x) rows xs

-- ---- an entry of which these values were given

-- it begins behind these rows, its heads and contents behind theirs, and its values have a spelling under its first
-- pairs
pub record IsGivenEntry (k : Ctx) (t : Table) (start : ℕ) (xs : List Token) (vs : List Attribute) (r : Unfinished)
    : Type 0 where
  pub decl : Declaration
  pub declared : declared t r.code.value ≡ Some decl
  pub children : decl.children ≡ r.children
  pub count : length decl.pairs ≡ r.count
  pub given : r.given ≡ length vs
  pub within : r.given ≤ r.count
  pub offset : r.offset ≡ start + length (rows_bytes k t xs)
  pub first : r.first ≡ length (rows_heads k t 0 xs)
  pub from : r.pool ≡ length (held xs)
  pub code_fits : uleb.Fits (uleb_of r.code)
  pub not_null : is_null (uleb_of r.code) ≡ false
  pub prefix_fits : FirstsFit k (pairs_at t r.code.value) vs
  pub level : length (spot_after xs).above < nesting

-- some of its values are still to come
pub record IsUnfinished (k : Ctx) (t : Table) (start : ℕ) (xs : List Token) (vs : List Attribute) (r : Unfinished)
    : Type 0 where
  pub entry : IsGivenEntry k t start xs vs r
  pub short : r.given < r.count

abbrev pub AreGiven : Ctx → Table → ℕ → List Token → List Attribute → Option Unfinished → Type 0
AreGiven k t start xs vs None = vs ≡ []
AreGiven k t start xs vs (Some r) = IsUnfinished k t start xs vs r

-- the pairs of the unfinished entry
abbrev pub pairs_given : Table → Option Unfinished → List Pair
pairs_given t None = []
pairs_given t (Some r) = pairs_at t r.code.value

-- the unfinished entry with these values
abbrev pub entry_with : List Attribute → Unfinished → UnfinishedEntry
entry_with vs r = record { code = uleb_of r.code; values = vs; partial = None }

-- ---- the lists are those of a tree with one open place: they have these rows, and the heads and contents of
-- their values and of those of the unfinished entry, and no others
pub record AreLists (k : Ctx) (t : Table) (start : ℕ) (rows : List Row) (hs pool : List ℕ) (open_at : List ℕ)
    (o : Option Unfinished) (here : ℕ) (xs : List Token) (vs : List Attribute) : Type 0 where
  pub rows_are : RowsAre k t 0 0 rows xs
  pub account : Account k t xs (pairs_given t o) vs hs pool
  pub small : length pool < 2 ^ 64
  pub is_spelled : IsSpelled rows xs open_at
  pub stand : Stand k t start 1 rows xs
  pub are_given : AreGiven k t start xs vs o
  pub deep : length open_at ≤ nesting
  pub here_is : here
      ≡ start + (length (rows_bytes k t xs) + length (unfinished_bytes k t (option_map (entry_with vs) o)))
