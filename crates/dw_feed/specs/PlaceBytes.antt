-- The bytes of a unit before a place in its entries, behind the header.
use Rattle.std.specs.Prelude.{ℕ, List, [], ◌∷◌, ◌++◌, Option}
use Rattle.dw_form.specs.declared.shape.Ctx.{Ctx}
use Rattle.dw_abbrev.specs.Table.{Table}
use Rattle.dw_tree.specs.Tree.{Forest, nulls}
use Rattle.dw_tree.specs.Spelling.{entry_bytes, forest_bytes}
use Rattle.dw_tree.specs.Place.{Frame, UnfinishedEntry}
use Rattle.dw_tree.specs.Steps.{unfinished_bytes}

module _ (k : Ctx) (t : Table) where
  -- of the open entries, the outermost first, each behind the closed ones before it
  abbrev pub open_bytes : List Frame → List ℕ
  open_bytes [] = []
  open_bytes (f ∷ fs) = open_bytes fs ++ (forest_bytes k t f.left ++ entry_bytes k t f.code f.values)

  -- of all that stands before a place: the open entries, the closed ones of the place's chain, what the unfinished
  -- entry has so far but for a partial value, and the padding
  abbrev pub place_bytes : List Frame → Forest → Option UnfinishedEntry → List ℕ → List ℕ
  place_bytes fs ts o padding = open_bytes fs ++ (forest_bytes k t ts ++ (unfinished_bytes k t o ++ nulls padding))
