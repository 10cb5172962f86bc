-- The laws of trees: of the entries that one hands out.
use Rattle.std.specs.Prelude.{◌≡◌, ◌↔◌, ℕ, ◌<◌, List, length, get_or, Some}
use Rattle.std.specs.List.{Contains}
use Rattle.dw_form.specs.declared.shape.Ctx.{Ctx}
use Rattle.dw_abbrev.specs.Table.{Table}
use Rattle.dw_tree.specs.Tree.{Tree, tree}
use Rattle.dw_tree.specs.Offset.{offset_at}
use Rattle.dw_tree.specs.Steps.{TreeAt}
use Rattle.dw_tree.specs.Lent.{EntryAt, entries_of, LeadsTo}

-- an entry is lent exactly where a path of child numbers leads to it
abbrev pub LentByPaths : Type 0
LentByPaths = (u : TreeAt) (e : EntryAt) → Contains (entries_of u) e ↔ ((path : List ℕ) × LeadsTo u path e)

-- two entries have two offsets
abbrev pub OneOffset : Type 0
OneOffset =
    (u : TreeAt) (room : ℕ) (e f : EntryAt) → (tree u.context u.table room).Fits u.root → Contains (entries_of u) e
    → Contains (entries_of u) f → e.offset ≡ f.offset → e ≡ f

-- entries are lent in the order of their offsets
abbrev pub OffsetsRise : Type 0
OffsetsRise =
    (u : TreeAt) (room i j : ℕ) (d : EntryAt) → (tree u.context u.table room).Fits u.root → i < j
    → j < length (entries_of u) → (get_or (entries_of u) i d).offset < (get_or (entries_of u) j d).offset

-- two paths lead to two offsets
abbrev pub OnePath : Type 0
OnePath =
    (k : Ctx) (t : Table) (room : ℕ) (x : Tree) → (tree k t room).Fits x → (base : ℕ) (p q : List ℕ) (o : ℕ)
    → offset_at k t base x p ≡ Some o → offset_at k t base x q ≡ Some o → p ≡ q
