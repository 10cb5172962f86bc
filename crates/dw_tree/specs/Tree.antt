-- Entries, their trees, and the padding after them (sections 2.3 and 7.5.2).
use Rattle.std.specs.Prelude.{ℕ, zero, suc, ◌-◌, ◌<◌, Bool, true, false, List, [], ◌∷◌, ◌++◌, Option, Some, None, if◌then◌else◌}
use Rattle.std.specs.List.{AllByRecursion}
use Rattle.dw_leb.specs.declared.errors.Reason.{Reason}
use Rattle.dw_leb.specs.declared.errors.Reason.TheVariants.{NoRoot, UnknownCode, TooDeep, SecondRoot}
use Rattle.dw_leb.specs.Part.{Breaks, Part, After, ◌then◌, judged, seen, nothing, optional, refused}
use Rattle.dw_leb.specs.Number.{Unsigned, uleb}
use Rattle.dw_leb.specs.Repeat.{repeated}
use Rattle.dw_form.specs.declared.shape.Ctx.{Ctx}
use Rattle.dw_form.specs.Form.{Attribute, attribute}
use Rattle.dw_abbrev.specs.Table.{Pair, Declaration, Table, declared, is_null, zero_of}

-- A node is a code with its width, a list of values, and either nothing or a list of nodes with the width of a null.
mutual
  pub data Tree : Type 0 where
    leaf : Unsigned → List Attribute → Tree
    branch : Unsigned → List Attribute → Forest → ℕ → Tree

  pub data Forest : Type 0 where
    none : Forest
    more : Tree → Forest → Forest

abbrev pub Body : Type 0
Body = List Attribute × Option (Forest × Unsigned)

abbrev pub node_of : Tree → Unsigned × Body
node_of (leaf code values) = (code, (values, None))
node_of (branch code values children null) = (code, (values, Some (children, zero_of null)))

abbrev pub nodes_of : Forest → List (Unsigned × Body)
nodes_of none = []
nodes_of (more t ts) = node_of t ∷ nodes_of ts

abbrev pub as_node : Tree → Option (Unsigned × Body)
as_node t = Some (node_of t)

abbrev pub as_nodes : Forest × Unsigned → Option (List (Unsigned × Body) × Unsigned)
as_nodes x = Some (nodes_of x.0, x.1)

abbrev pub first_value : List Attribute → Option (Attribute × List Attribute)
first_value [] = None
first_value (v ∷ vs) = Some (v, vs)

abbrev pub no_value : List Attribute → Option (Unit {0})
no_value [] = Some tt
no_value (v ∷ vs) = None

-- the values of a declaration, in order
abbrev pub values : Ctx → List Pair → Part (List Attribute)
values k [] = seen no_value nothing
values k (p ∷ ps) = seen first_value (attribute k p.form.value p.constant then λ _. values k ps)

abbrev pub declared_pairs : Option Declaration → List Pair
declared_pairs None = []
declared_pairs (Some d) = d.pairs

abbrev pub declares_children : Option Declaration → Bool
declares_children None = false
declares_children (Some d) = d.children

abbrev pub unless_declared : Option Declaration → Option Reason
unless_declared None = Some UnknownCode
unless_declared (Some d) = None

abbrev pub unknown : Table → ℕ → Option Reason
unknown t code = unless_declared (declared t code)

-- a root's code, and a code among children: a null, or a known code where there is room
abbrev pub bad_root : Table → Unsigned → Option Reason
bad_root t code = if is_null code then Some NoRoot else unknown t code.value

abbrev pub bad_child : Table → Bool → Unsigned → Option Reason
bad_child t room code = if is_null code then None else (if room then unknown t code.value else Some TooDeep)

-- behind its code an entry is its values and, exactly where its declaration has them, its children
abbrev pub body : Ctx → Table → Part (Forest × Unsigned) → Unsigned → Part Body
body k t children code =
    values k (declared_pairs (declared t code.value)) then
    λ _. optional (declares_children (declared t code.value)) children

-- Entries until a null, with room for so many levels. Without room the null alone is taken.
unfoldable pub children : Ctx → Table → ℕ → Part (Forest × Unsigned)
children k t zero = seen as_nodes (repeated (λ _. judged uleb (bad_child t false)) is_null (λ _. refused TooDeep))
children k t (suc room) =
    seen as_nodes (repeated (λ _. judged uleb (bad_child t true)) is_null (body k t (children k t room)))

-- the most levels of a tree
unfoldable pub nesting : ℕ
nesting = 4096

-- a tree with room for so many levels below its root
abbrev pub tree : Ctx → Table → ℕ → Part Tree
tree k t room = seen as_node (judged uleb (bad_root t) then body k t (children k t room))

-- the tree of a unit, with as much room as there may be
abbrev pub unit_tree : Ctx → Table → Part Tree
unit_tree k t = tree k t (nesting - 1)

-- ---- padding

abbrev pub nulls : List ℕ → List ℕ
nulls [] = []
nulls (w ∷ ws) = uleb.spell (zero_of w) ++ nulls ws

abbrev pub AreNulls : List ℕ → Type 0
AreNulls ws = AllByRecursion (λ w. uleb.Fits (zero_of w)) ws

abbrev pub not_null : Unsigned → Option Reason
not_null code = if is_null code then None else Some SecondRoot

-- where the unit isn't at its end, the next code is no null
abbrev pub MoreBreaks : Breaks
MoreBreaks rest lim offset reason = (0 < lim) × (judged uleb not_null).Break rest lim offset reason

abbrev pub PaddingBreaks : Breaks
PaddingBreaks bytes lim offset reason =
    (ws : List ℕ) × AreNulls ws × After (nulls ws) MoreBreaks bytes lim offset reason
