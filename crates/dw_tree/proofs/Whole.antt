-- A place behind a whole tree.
use Rattle.std.proofs.Common.{◌≡◌, List, [], ◌∷◌, length, refl, ap, ◌∙◌, append-nil, Option, Some, None, option_map}
use Rattle.std.specs.Prelude.{IsSome}
use Rattle.dw_tree.specs.Tree.{Tree, Forest, none, more}
use Rattle.dw_tree.specs.Row.{Token, rows_of}
use Rattle.dw_tree.specs.Place.{Frame, UnfinishedEntry, rows_before}
use Rattle.dw_abbrev.specs.Table.{Table}
use Rattle.dw_form.specs.declared.shape.Ctx.{Ctx}
use Rattle.dw_tree.specs.Steps.{whole_tree, unfinished_bytes}

-- its rows are those of the tree
pub whole_rows : (fs : List Frame) (ts : Forest) (o : Option UnfinishedEntry) (xs : List Token) → xs ≡ rows_before fs ts → IsSome (whole_tree fs ts o) → (x : Tree) × (xs ≡ rows_of x) × (whole_tree fs ts o ≡ Some x) × (fs ≡ [])
whole_rows [] (more x none) None xs e h = (x, e ∙ append-nil (rows_of x), refl, refl)
whole_rows [] none None xs e h = absurd cc
whole_rows [] (more x (more y ts)) None xs e h = absurd cc
whole_rows [] ts (Some r) xs e h = absurd cc
whole_rows (f ∷ fs) ts o xs e h = absurd cc

pub some_of_map : {X Y : Type 0} (f : X → Y) (o : Option X) → IsSome (option_map f o) → IsSome o
some_of_map f None h = h
some_of_map f (Some x) h = refl

pub mapped : {X Y : Type 0} (f : X → Y) (o : Option X) (x : X) → o ≡ Some x → option_map f o ≡ Some (f x)
mapped f o x e = ap (option_map f) e

-- behind a whole tree no entry is read
pub idle_size : (k : Ctx) (t : Table) (fs : List Frame) (ts : Forest) (o : Option UnfinishedEntry) → IsSome (whole_tree fs ts o) → length (unfinished_bytes k t o) ≡ 0
idle_size k t [] ts None h = refl
idle_size k t [] ts (Some r) h = absurd cc
idle_size k t (f ∷ fs) ts o h = absurd cc
