-- What the text of an entry needs: the types whose visits it counts, and the children that it shows.
use Rattle.std.specs.Prelude.{◌≡◌, ℕ, ◌+◌, Bool, false, List, [], ◌∷◌, Option, Some, None, ◌==◌, ◌||◌, if◌then◌else◌}
use Rattle.dw_leb.specs.Constants.{DW_TAG_formal_parameter, DW_TAG_subrange_type, DW_TAG_unspecified_parameters}
use Rattle.dw_tree.specs.Lent.{EntryAt, children_of}
use Rattle.dw_section.specs.Item.{Item}
use Rattle.dw_ctype.specs.declared.kind.Kind.{Kind}
use Rattle.dw_ctype.specs.declared.kind.Kind.TheVariants.{Named, Tagged, Marked, Qualified, Array, Function, Other}
use Rattle.dw_ctype.specs.declared.parts.Parts.{Parts}
use Rattle.dw_ctype.specs.declared.typed.Typed.{Typed}
use Rattle.dw_ctype.specs.Types.{tag, kind_of, type_of}

-- ---- types

-- those of the formal_parameters
abbrev pub parameter_types : List Item → ℕ → List EntryAt → List Typed
parameter_types items i [] = []
parameter_types items i (e ∷ es) =
    if tag e == DW_TAG_formal_parameter then type_of items i e ∷ parameter_types items i es
    else parameter_types items i es

abbrev pub kind_types : List Item → ℕ → EntryAt → Kind → List Typed
kind_types items i e Named = []
kind_types items i e (Tagged k) = []
kind_types items i e (Marked m) = type_of items i e ∷ []
kind_types items i e (Qualified q) = type_of items i e ∷ []
kind_types items i e Array = type_of items i e ∷ []
kind_types items i e Function = type_of items i e ∷ parameter_types items i (children_of e)
kind_types items i e Other = []

-- its own type, and then those of its parameters
abbrev pub types_of : List Item → ℕ → EntryAt → List Typed
types_of items i e = kind_types items i e (kind_of e)

-- the visits of all of them
abbrev pub visits_of : (Typed → ℕ) → List Typed → ℕ
visits_of visits [] = 0
visits_of visits (t ∷ ts) = visits t + visits_of visits ts

-- ---- children

-- formal_parameter and unspecified_parameters of a function, subrange_type of an array
abbrev pub is_shown : Kind → ℕ → Bool
is_shown Function tag = tag == DW_TAG_formal_parameter || tag == DW_TAG_unspecified_parameters
is_shown Array tag = tag == DW_TAG_subrange_type
is_shown _ tag = false

abbrev pub shown_among : Kind → List EntryAt → List EntryAt
shown_among kind [] = []
shown_among kind (e ∷ es) = if is_shown kind (tag e) then e ∷ shown_among kind es else shown_among kind es

abbrev pub shown_of : EntryAt → List EntryAt
shown_of e = shown_among (kind_of e) (children_of e)

-- ---- both

-- what is kept for an entry of an item
abbrev pub ArePartsOf : List Item → ℕ → Option EntryAt → Parts → Type 0
ArePartsOf items i None parts = ⊥
ArePartsOf items i (Some e) parts = (parts.types.items ≡ types_of items i e) × (parts.shown.items ≡ shown_of e)
