-- Entries and attributes as they are lent (sections 2.2, 2.3, 7.5.2 and 7.5.3).
use Rattle.std.specs.Prelude.{◌≡◌, ◌<◌, ◌^◌, ℕ, suc, ◌+◌, ◌==◌, Bool, false, is_some, List, [], ◌∷◌, ◌++◌, length, drop, take, Option, Some, None, if◌then◌else◌}
use Rattle.std.proofs.Common.{refl}
use Rattle.std.specs.Coded.{Coded, code_by, coded×, coded_ℕ}
use Rattle.dw_leb.specs.Number.{Unsigned}
use Rattle.dw_form.specs.declared.shape.Ctx.{Ctx}
use Rattle.dw_form.specs.Form.{Attribute, IsContext, Num}
use Rattle.dw_form.specs.Lent.{attribute_of}
use Rattle.dw_form.specs.Head.{own_bare, own_number}
use Rattle.dw_form.specs.Pieces.{form_in, spelling}
use Rattle.dw_abbrev.specs.Table.{Pair, Declaration, Table, declared}
use Rattle.dw_tree.specs.declared.attrs.AttrRef.{AttrRef}
use Rattle.dw_tree.specs.declared.attrs.NumberRef.{NumberRef}
use Rattle.dw_tree.specs.Tree.{Tree, leaf, branch, Forest, none, more, declared_pairs}
use Rattle.dw_tree.specs.Spelling.{entry_bytes, tree_bytes}
use Rattle.dw_tree.specs.Row.{Token, leaf_row, branch_row, null_row, row_bytes, rows_bytes, rows_of, rest_of, head_of}
use Rattle.dw_tree.specs.Offset.{node_at, offset_at, end_at}
use Rattle.dw_tree.specs.Steps.{TreeAt}
use Rattle.dw_tree.specs.RowHeads.{Here, run_bytes}
use Rattle.dw_tree.specs.DraftInvariant.{level_after, levels_after}
use Rattle.dw_tree.specs.Codes.{context_code, table_code, tree_code}

-- ---- attributes

-- a value with its name and the form in effect; the offset counts from the unit's first byte
pub record LentAttribute : Type 0 where
  pub name : ℕ
  pub form : ℕ
  pub offset : ℕ
  pub attr : Attribute

abbrev pub attr_of : AttrRef → LentAttribute
attr_of a = record { name = a.name; form = a.form; offset = a.offset; attr = attribute_of a.attr }

-- one whose value is a number
abbrev pub number_of : NumberRef → LentAttribute
number_of n =
    record { name = n.name; form = n.form; offset = n.offset; attr = record { via = None; value = Num n.number } }

abbrev pub lent_attribute : ℕ → Pair → Attribute → LentAttribute
lent_attribute at p v = record { name = p.name.value; form = form_in p.form.value v.via; offset = at; attr = v }

-- the attributes of an entry whose first value begins at this offset: each next one begins where the one before ends
abbrev pub lent_attributes : Ctx → ℕ → List Pair → List Attribute → List LentAttribute
lent_attributes k at [] vs = []
lent_attributes k at (p ∷ ps) [] = []
lent_attributes k at (p ∷ ps) (v ∷ vs) =
    lent_attribute at p v ∷ lent_attributes k (at + length (spelling k p.form.value v)) ps vs

-- whether the first attribute is a number of a fixed size of at most eight bytes, of the form that its declaration
-- gives
abbrev pub begins_with_number : List LentAttribute → Bool
begins_with_number [] = false
begins_with_number (a ∷ others) = is_some (own_number a.attr)

-- whether the first attribute has no bytes, and is of the form that its declaration gives: that it is there, or the
-- constant of its declaration
abbrev pub begins_bare : List LentAttribute → Bool
begins_bare [] = false
begins_bare (a ∷ others) = is_some (own_bare a.attr)

-- the first attribute of a name
abbrev pub first_named : ℕ → List LentAttribute → Option LentAttribute
first_named name [] = None
first_named name (a ∷ others) = if a.name == name then Some a else first_named name others

-- Values by their heads, one for each pair, the first of which begins at an offset: they have a spelling, which ends
-- before 2 ^ 64.
pub record AreLent (k : Ctx) (at : ℕ) (ps : List Pair) (hs pool : List ℕ) : Type 0 where
  pub context : IsContext k
  pub here : Here k ps hs pool
  pub room : at + length (run_bytes k ps hs pool) < 2 ^ 64

-- ---- entries

-- an entry with all that is below it, where it stands, and its level; the root's is 1
pub record EntryAt : Type 0 where
  pub context : Ctx
  pub table : Table
  pub node : Tree
  pub offset : ℕ
  pub depth : ℕ

abbrev pub entry_at_code : Coded EntryAt
entry_at_code =
    code_by (Ctx × (Table × (Tree × (ℕ × ℕ))))
    (coded× context_code (coded× table_code (coded× tree_code (coded× coded_ℕ coded_ℕ))))
    (λ e. (e.context, (e.table, (e.node, (e.offset, e.depth)))))
    (λ p. record { context = p.0; table = p.1.0; node = p.1.1.0; offset = p.1.1.1.0; depth = p.1.1.1.1 }) (λ _. refl)

abbrev pub code_of : Tree → Unsigned
code_of (leaf code vs) = code
code_of (branch code vs ts w) = code

abbrev pub values_in : Tree → List Attribute
values_in (leaf code vs) = vs
values_in (branch code vs ts w) = vs

-- the entries just below
abbrev pub below : Tree → Forest
below (leaf code vs) = none
below (branch code vs ts w) = ts

-- the bytes of the entry without those below it
abbrev pub own_bytes : Ctx → Table → Tree → List ℕ
own_bytes k t x = entry_bytes k t (code_of x) (values_in x)

abbrev pub tag_of : Option Declaration → ℕ
tag_of None = 0
tag_of (Some d) = d.tag.value

-- its values stand behind its code
abbrev pub attributes_of : EntryAt → List LentAttribute
attributes_of e =
    lent_attributes e.context (e.offset + (code_of e.node).width)
    (declared_pairs (declared e.table (code_of e.node).value)) (values_in e.node)

-- the entries of a chain, the first of which stands at this offset: each next one stands behind the tree before it
abbrev pub chain : Ctx → Table → Forest → ℕ → ℕ → List EntryAt
chain k t none offset depth = []
chain k t (more x ts) offset depth =
    record { context = k; table = t; node = x; offset = offset; depth = depth }
    ∷ chain k t ts (offset + length (tree_bytes k t x)) depth

-- the first child stands just behind its parent's code and values, one level deeper
abbrev pub children_of : EntryAt → List EntryAt
children_of e =
    chain e.context e.table (below e.node) (e.offset + length (own_bytes e.context e.table e.node)) (suc e.depth)

-- where what follows the entry and those below it begins, its own null included
abbrev pub end_offset_of : EntryAt → ℕ
end_offset_of e = e.offset + length (tree_bytes e.context e.table e.node)

-- all entries of a tree, each before those below it
abbrev mutual
  pub preorder : Ctx → Table → Tree → ℕ → ℕ → List EntryAt
  preorder k t (leaf code vs) offset depth =
      record { context = k; table = t; node = leaf code vs; offset = offset; depth = depth } ∷ []
  preorder k t (branch code vs ts w) offset depth =
      record { context = k; table = t; node = branch code vs ts w; offset = offset; depth = depth }
      ∷ all_preorder k t ts (offset + length (entry_bytes k t code vs)) (suc depth)

  pub all_preorder : Ctx → Table → Forest → ℕ → ℕ → List EntryAt
  all_preorder k t none offset depth = []
  all_preorder k t (more x ts) offset depth =
      preorder k t x offset depth ++ all_preorder k t ts (offset + length (tree_bytes k t x)) depth

abbrev pub root_of : TreeAt → EntryAt
root_of u = record { context = u.context; table = u.table; node = u.root; offset = u.start; depth = 1 }

abbrev pub entries_of : TreeAt → List EntryAt
entries_of u = preorder u.context u.table u.root u.start 1

-- A path of child numbers leads from the root to the entry: to its offset, at a level of the path's length and one, and
-- to where what follows it begins.
pub record LeadsTo (u : TreeAt) (path : List ℕ) (e : EntryAt) : Type 0 where
  pub context : e.context ≡ u.context
  pub table : e.table ≡ u.table
  pub node : node_at u.root path ≡ Some e.node
  pub offset : offset_at u.context u.table u.start u.root path ≡ Some e.offset
  pub end : end_at u.context u.table u.start u.root path ≡ Some (end_offset_of e)
  pub depth : e.depth ≡ length path + 1

-- the entry that begins at an offset
abbrev pub find_at : ℕ → List EntryAt → Option EntryAt
find_at offset [] = None
find_at offset (e ∷ es) = if e.offset == offset then Some e else find_at offset es

-- the entries from the one at an offset on
abbrev pub from_offset : ℕ → List EntryAt → List EntryAt
from_offset offset [] = []
from_offset offset (e ∷ es) = if e.offset == offset then e ∷ es else from_offset offset es

-- ---- by their rows

-- what stands from a row on, up to the end of its chain
abbrev pub chain_at : List Token → ℕ → Forest
chain_at xs at = (rest_of (drop at xs)).here

abbrev pub offset_of_row : TreeAt → ℕ → ℕ
offset_of_row u at = u.start + length (rows_bytes u.context u.table (take at (rows_of u.root)))

abbrev pub level_of_row : TreeAt → ℕ → ℕ
level_of_row u at = levels_after 1 (take at (rows_of u.root))

-- the entry at a row
abbrev pub entry_at_row : TreeAt → ℕ → EntryAt
entry_at_row u at =
    record {
      context = u.context;
      table = u.table;
      node = head_of (chain_at (rows_of u.root) at);
      offset = offset_of_row u at;
      depth = level_of_row u at;
    }

-- an entry stands at a row
pub record StandsAt (xs : List Token) (at : ℕ) (node : Tree) : Type 0 where
  pub after : List Token
  pub stands : drop at xs ≡ rows_of node ++ after

abbrev pub chain_from : TreeAt → ℕ → List EntryAt
chain_from u at = chain u.context u.table (chain_at (rows_of u.root) at) (offset_of_row u at) (level_of_row u at)

-- the entries whose rows stand in a list of rows, the first of which has this offset and level
abbrev pub entries_in : Ctx → Table → List Token → ℕ → ℕ → List EntryAt
entries_in k t [] offset depth = []
entries_in k t (leaf_row code vs ∷ xs) offset depth =
    record { context = k; table = t; node = leaf code vs; offset = offset; depth = depth }
    ∷ entries_in k t xs (offset + length (entry_bytes k t code vs)) depth
entries_in k t (branch_row code vs ∷ xs) offset depth =
    record {
      context = k;
      table = t;
      node = head_of (rest_of (branch_row code vs ∷ xs)).here;
      offset = offset;
      depth = depth;
    }
    ∷ entries_in k t xs (offset + length (entry_bytes k t code vs)) (suc depth)
entries_in k t (null_row w ∷ xs) offset depth =
    entries_in k t xs (offset + length (row_bytes k t (null_row w))) (level_after depth (null_row w))

abbrev pub entries_from : TreeAt → ℕ → List EntryAt
entries_from u at = entries_in u.context u.table (drop at (rows_of u.root)) (offset_of_row u at) (level_of_row u at)
