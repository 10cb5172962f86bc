-- The text of a type and a declarator in the order of its bytes: what stands before the declarator, the declarator, and
-- what stands behind it.
use Rattle.std.specs.Prelude.{ℕ, zero, suc, Bool, true, false, List, [], ◌∷◌, ◌++◌, Option, Some, None, codes, unwrap_or, ◌==◌, ◌||◌, if◌then◌else◌}
use Rattle.dw_leb.specs.Constants.{DW_TAG_formal_parameter, DW_TAG_unspecified_parameters}
use Rattle.dw_tree.specs.Lent.{EntryAt}
use Rattle.dw_section.specs.Item.{Item}
use Rattle.dw_section.specs.Lookup.{entry}
use Rattle.dw_ctype.specs.declared.kind.PointerKind.TheVariants.{Pointer}
use Rattle.dw_ctype.specs.declared.kind.Qualifier.{Qualifier}
use Rattle.dw_ctype.specs.declared.kind.Kind.{Kind}
use Rattle.dw_ctype.specs.declared.kind.Kind.TheVariants.{Named, Tagged, Marked, Qualified, Array, Function, Other}
use Rattle.dw_ctype.specs.declared.typed.Typed.{Typed}
use Rattle.dw_ctype.specs.declared.typed.Typed.TheVariants.{Missing, Bad, Entry}
use Rattle.dw_ctype.specs.Names.{keyword, mark, qualifier}
use Rattle.dw_ctype.specs.Types.{Source, tag, kind_of, type_of, name_of, under, under_type, is_bracketed, dimensions, behind_commas, joined, parameters, say}

-- ---- whether the depth ends it: then no declarator is shown

abbrev pub kind_cut : (Typed → Bool) → List Item → ℕ → EntryAt → Kind → Bool
kind_cut cut items i e Named = false
kind_cut cut items i e (Tagged k) = false
kind_cut cut items i e (Marked m) = cut (type_of items i e)
kind_cut cut items i e (Qualified q) = cut (type_of items i e)
kind_cut cut items i e Array = cut (type_of items i e)
kind_cut cut items i e Function = cut (type_of items i e)
kind_cut cut items i e Other = false

abbrev pub entry_cut : (Typed → Bool) → List Item → ℕ → Option EntryAt → Bool
entry_cut cut items i None = false
entry_cut cut items i (Some e) = kind_cut cut items i e (kind_of e)

abbrev pub type_cut : (Typed → Bool) → List Item → Typed → Bool
type_cut cut items Missing = false
type_cut cut items Bad = false
type_cut cut items (Entry id) = entry_cut cut items id.item (entry items id)

abbrev pub cut : List Item → ℕ → Typed → Bool
cut items zero t = true
cut items (suc depth) t = type_cut (cut items depth) items t

abbrev pub unless_cut : Bool → List ℕ → List ℕ
unless_cut true text = []
unless_cut false text = text

-- ---- before the declarator

abbrev pub is_empty : List ℕ → Bool
is_empty [] = true
is_empty (b ∷ bs) = false

-- a word before a declarator
abbrev pub word_before : List ℕ → Bool → List ℕ
word_before word true = word
word_before word false = word ++ codes " "

abbrev pub when : Bool → List ℕ → List ℕ
when true text = text
when false text = []

abbrev pub qualified_left : (Typed → Bool → List ℕ) → Bool → Typed → Qualifier → Option Kind → Bool → List ℕ
qualified_left left is_cut t q (Some (Marked Pointer)) empty =
    left t false ++ unless_cut is_cut (word_before (qualifier q) empty)
qualified_left left is_cut t q _ empty = qualifier q ++ (codes " " ++ left t empty)

abbrev pub kind_left : (Typed → Bool → List ℕ) → (Typed → Bool) → Source → ℕ → EntryAt → Kind → Bool → List ℕ
kind_left left cut s i e Named empty = word_before (unwrap_or (name_of s i e) (codes "<noname>")) empty
kind_left left cut s i e (Tagged k) empty = word_before (keyword k ++ unwrap_or (name_of s i e) (codes "{...}")) empty
kind_left left cut s i e (Marked m) empty =
    left (type_of s.items i e) false
    ++ unless_cut (cut (type_of s.items i e))
    (when (is_bracketed (under_type (under s.items 64) s.items (type_of s.items i e))) (codes "(") ++ mark m)
kind_left left cut s i e (Qualified q) empty =
    qualified_left left (cut (type_of s.items i e)) (type_of s.items i e) q (under s.items 64 i e) empty
kind_left left cut s i e Array empty = left (type_of s.items i e) false
kind_left left cut s i e Function empty = left (type_of s.items i e) false
kind_left left cut s i e Other empty = word_before (codes "<tag>") empty

abbrev pub entry_left : (Typed → Bool → List ℕ) → (Typed → Bool) → Source → ℕ → Option EntryAt → Bool → List ℕ
entry_left left cut s i None empty = word_before (codes "<bad>") empty
entry_left left cut s i (Some e) empty = kind_left left cut s i e (kind_of e) empty

abbrev pub type_left : (Typed → Bool → List ℕ) → (Typed → Bool) → Source → Typed → Bool → List ℕ
type_left left cut s Missing empty = word_before (codes "void") empty
type_left left cut s Bad empty = word_before (codes "<bad>") empty
type_left left cut s (Entry id) empty = entry_left left cut s id.item (entry s.items id) empty

abbrev pub left : Source → ℕ → Typed → Bool → List ℕ
left s zero t empty = codes "..."
left s (suc depth) t empty = type_left (left s depth) (cut s.items depth) s t empty

-- ---- behind the declarator

abbrev pub kind_right : (Typed → List ℕ) → (Typed → List ℕ → List ℕ) → Source → ℕ → EntryAt → Kind → List ℕ
kind_right right say s i e Named = []
kind_right right say s i e (Tagged k) = []
kind_right right say s i e (Marked m) =
    when (is_bracketed (under_type (under s.items 64) s.items (type_of s.items i e))) (codes ")")
    ++ right (type_of s.items i e)
kind_right right say s i e (Qualified q) = right (type_of s.items i e)
kind_right right say s i e Array = dimensions e ++ right (type_of s.items i e)
kind_right right say s i e Function = parameters (λ p. say (type_of s.items i p) []) e ++ right (type_of s.items i e)
kind_right right say s i e Other = []

abbrev pub entry_right : (Typed → List ℕ) → (Typed → List ℕ → List ℕ) → Source → ℕ → Option EntryAt → List ℕ
entry_right right say s i None = []
entry_right right say s i (Some e) = kind_right right say s i e (kind_of e)

abbrev pub type_right : (Typed → List ℕ) → (Typed → List ℕ → List ℕ) → Source → Typed → List ℕ
type_right right say s Missing = []
type_right right say s Bad = []
type_right right say s (Entry id) = entry_right right say s id.item (entry s.items id)

abbrev pub right : Source → ℕ → Typed → List ℕ
right s zero t = []
right s (suc depth) t = type_right (right s depth) (say s depth) s t

-- ---- parameters, one after the other

-- what a child of a function adds to them, where some were before it or none
abbrev pub parameter_text : (EntryAt → List ℕ) → Bool → EntryAt → List ℕ
parameter_text text some e =
    if tag e == DW_TAG_formal_parameter then when some (codes ", ") ++ text e
    else (if tag e == DW_TAG_unspecified_parameters then when some (codes ", ") ++ codes "..." else [])

abbrev pub is_parameter : EntryAt → Bool
is_parameter e = tag e == DW_TAG_formal_parameter || tag e == DW_TAG_unspecified_parameters

-- what is to come of them, where some were before or none
abbrev pub to_come : Bool → Bool → List (List ℕ) → List ℕ
to_come prototyped true texts = behind_commas texts
to_come prototyped false texts = joined prototyped texts

-- ---- all of it

abbrev pub in_order : Source → ℕ → Typed → List ℕ → List ℕ
in_order s depth t x = left s depth t (is_empty x) ++ unless_cut (cut s.items depth t) (x ++ right s depth t)
