-- A tree in which one number is another: that of the first attribute of a name, of the entry that begins at an offset.
use Rattle.std.specs.Prelude.{◌≡◌, ℕ, ℤ, ◌+◌, ◌==◌, List, [], ◌∷◌, length, Option, Some, None, IsSome, if◌then◌else◌}
use Rattle.dw_leb.specs.Number.{Unsigned}
use Rattle.dw_form.specs.declared.shape.Ctx.{Ctx}
use Rattle.dw_form.specs.Form.{Attribute}
use Rattle.dw_form.specs.Renumber.{renumbered, renumbered_in}
use Rattle.dw_abbrev.specs.Table.{Pair, Table, declared}
use Rattle.dw_tree.specs.Tree.{Tree, leaf, branch, Forest, none, more, declared_pairs}
use Rattle.dw_tree.specs.Spelling.{entry_bytes, tree_bytes}
use Rattle.dw_tree.specs.Steps.{TreeAt}
use Rattle.dw_tree.specs.Lent.{EntryAt, LentAttribute, attributes_of, first_named, entries_of, find_at}

-- where the entry begins, the name of its attribute, and the number
pub record Edit : Type 0 where
  pub offset : ℕ
  pub name : ℕ
  pub number : ℤ

-- ---- the values of an entry

-- a value that doesn't take the number stays
abbrev pub or_own : Attribute → Option Attribute → Attribute
or_own v None = v
or_own v (Some w) = w

abbrev pub put_value : Ctx → ℕ → ℤ → Attribute → Attribute
put_value k form x v = or_own v (renumbered_in k form x v)

-- under these pairs, the first value of the name
abbrev pub put_first : Ctx → ℕ → ℤ → List Pair → List Attribute → List Attribute
put_first k name x [] vs = vs
put_first k name x (p ∷ ps) [] = []
put_first k name x (p ∷ ps) (v ∷ vs) =
    if p.name.value == name then put_value k p.form.value x v ∷ vs else v ∷ put_first k name x ps vs

-- ---- the tree

-- the values of an entry that begins here
abbrev pub put_here : Ctx → Table → Edit → ℕ → Unsigned → List Attribute → List Attribute
put_here k t e here code vs =
    if here == e.offset then put_first k e.name e.number (declared_pairs (declared t code.value)) vs else vs

-- a tree that begins here
abbrev mutual
  pub put_tree : Ctx → Table → Edit → ℕ → Tree → Tree
  put_tree k t e here (leaf code vs) = leaf code (put_here k t e here code vs)
  put_tree k t e here (branch code vs ts w) =
      branch code (put_here k t e here code vs) (put_forest k t e (here + length (entry_bytes k t code vs)) ts) w

  pub put_forest : Ctx → Table → Edit → ℕ → Forest → Forest
  put_forest k t e here none = none
  put_forest k t e here (more x ts) =
      more (put_tree k t e here x) (put_forest k t e (here + length (tree_bytes k t x)) ts)

-- the edited tree; all else stays
abbrev pub put : Edit → TreeAt → TreeAt
put e u =
    record { context = u.context; table = u.table; start = u.start; root = put_tree u.context u.table e u.start u.root }

-- ---- which edits can be made: an entry begins at the offset, and its first attribute of the name takes the number
pub record Takes (e : Edit) (u : TreeAt) : Type 0 where
  pub entry : EntryAt
  pub begins : find_at e.offset (entries_of u) ≡ Some entry
  pub attribute : LentAttribute
  pub first : first_named e.name (attributes_of entry) ≡ Some attribute
  pub takes : IsSome (renumbered u.context attribute.form e.number attribute.attr.value)
