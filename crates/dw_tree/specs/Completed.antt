-- What the flat lists become when an entry may have all its values.
use Rattle.std.specs.Prelude.{ℕ, ◌+◌, ◌==◌, List, [], ◌∷◌, ◌++◌, length, Option, Some, None, Bool, true, false, if◌then◌else◌}
use Rattle.dw_tree.specs.declared.row.Row.{Row}
use Rattle.dw_tree.specs.declared.row.RowKind.{RowKind}
use Rattle.dw_tree.specs.declared.row.RowKind.TheVariants.{Leaf, Branch}
use Rattle.dw_tree.specs.declared.row.Unfinished.{Unfinished}

-- the row of an entry, of this kind, end and level
abbrev pub row_with : Unfinished → RowKind → ℕ → ℕ → Row
row_with r kind end depth =
    record {
      offset = r.offset;
      end = end;
      first = r.first;
      code = r.code.value;
      width = r.code.width;
      depth = depth;
      kind = kind;
      fits = r.code.fits;
    }

-- that of an entry that has all its values; so many entries are open, and so many rows stand before it
abbrev pub row_of : Bool → Unfinished → ℕ → ℕ → Row
row_of true r n depth = row_with r Branch 0 depth
row_of false r n depth = row_with r Leaf (n + 1) depth

-- with one value more
abbrev pub one_given : Unfinished → Unfinished
one_given r =
    record {
      code = r.code;
      offset = r.offset;
      first = r.first;
      given = r.given + 1;
      count = r.count;
      children = r.children;
      pool = r.pool;
    }

-- it was given as many values as its declaration asks for
abbrev pub is_whole : Unfinished → Bool
is_whole r = r.given == r.count

abbrev pub settled_rows : Unfinished → ℕ → List Row → List Row
settled_rows r depth rows = if is_whole r then rows ++ row_of r.children r (length rows) depth ∷ [] else rows

abbrev pub settled_open : Unfinished → ℕ → List ℕ → List ℕ
settled_open r rows open_at = if is_whole r then (if r.children then open_at ++ rows ∷ [] else open_at) else open_at

abbrev pub settled_unfinished : Unfinished → Option Unfinished
settled_unfinished r = if is_whole r then None else Some r
