-- The bytes of texts and blocks, joined in the order of the entries.
use Rattle.std.specs.Prelude.{ℕ, List, [], ◌∷◌, ◌++◌, Option, None, Some}
use Rattle.dw_form.specs.Form.{Attribute}
use Rattle.dw_form.specs.StoredView.{bytes_in}
use Rattle.dw_tree.specs.Row.{Token, leaf_row, branch_row, null_row}
use Rattle.dw_tree.specs.Place.{PartialValue, UnfinishedEntry, Place, rows_before}

-- of values
abbrev pub joined : List Attribute → List ℕ
joined [] = []
joined (v ∷ vs) = bytes_in v ++ joined vs

-- of rows
abbrev pub row_values : Token → List Attribute
row_values (leaf_row code vs) = vs
row_values (branch_row code vs) = vs
row_values (null_row w) = []

abbrev pub held : List Token → List ℕ
held [] = []
held (x ∷ xs) = joined (row_values x) ++ held xs

-- of an unfinished entry, a partial value included
abbrev pub partial_bytes : Option PartialValue → List ℕ
partial_bytes None = []
partial_bytes (Some b) = b.bytes

abbrev pub read_bytes : Option UnfinishedEntry → List ℕ
read_bytes None = []
read_bytes (Some r) = joined r.values ++ partial_bytes r.partial

-- of a tree with one open place
abbrev pub held_in : Place → List ℕ
held_in p = held (rows_before p.spot.above p.spot.left) ++ read_bytes p.unfinished
