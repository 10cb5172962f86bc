-- Where the input holds the whole unit, its header, its entries and its padding are not cut by the input's end.
use Rattle.std.proofs.Common.{Bool, true, false, ◌≡◌, ℕ, zero, suc, ◌-◌, List, [], ◌∷◌, Option, Some, None, inl, inr}
use Rattle.std.specs.Prelude.{if◌then◌else◌, ◌==◌}
use Rattle.dw_leb.specs.Part.{Part, ◌then◌, judged, optional, refused}
use Rattle.dw_leb.specs.declared.errors.Reason.TheVariants.{Truncated, NoRoot, TooDeep, SecondRoot}
use Rattle.dw_leb.specs.declared.order.Order.{Order}
use Rattle.dw_leb.specs.declared.order.Format.{Format}
use Rattle.dw_leb.specs.Number.{offset_size, Unsigned, uleb, fixed}
use Rattle.dw_form.specs.declared.shape.Ctx.{Ctx}
use Rattle.dw_form.specs.Form.{attribute}
use Rattle.dw_abbrev.specs.Table.{Pair, Table, is_null, declared}
use Rattle.dw_tree.specs.Tree.{Forest, Body, values, declared_pairs, declares_children, unless_declared, bad_root, bad_child, body, children, tree, nesting, nulls, not_null, MoreBreaks, PaddingBreaks, unit_tree}
use Rattle.dw_header.specs.declared.versions.Versions.{Versions}
use Rattle.dw_header.specs.Header.{added_sizes, numbers, bad_version_under, bad_type, bad_address_size, five_part, four_part, fields_behind, fields_under}
use Rattle.dw_unit.specs.Unit.{EntriesBreak}
use Rattle.dw_leb.specs.Moments.{Judges, refuses_unless}
use Rattle.dw_header.specs.HeaderMoments.{type_judges, address_size_judges, version_judges}
use Rattle.dw_feed.specs.NeverTruncated.{NeverTruncated, After_never_truncated, then_never_truncated, judged_never_truncated, nothing_never_truncated, refused_never_truncated, optional_never_truncated, repeated_never_truncated, Short_never_truncated, uleb_never_truncated, attribute_never_truncated}

-- ---- headers

numbers_never_truncated : (order : Order) (ns : List ℕ) → NeverTruncated (numbers order ns).Break
numbers_never_truncated order [] = nothing_never_truncated
numbers_never_truncated order (n ∷ ns) =
    then_never_truncated (fixed order n) (λ _. numbers order ns) (Short_never_truncated n)
    (λ _. numbers_never_truncated order ns)

abbrev fields4 : Order → Format → ℕ → Part (ℕ × List ℕ)
fields4 order format kind = fixed order (offset_size format) then λ _. numbers order (added_sizes format kind)

abbrev fields3 : Order → Format → ℕ → Part (ℕ × (ℕ × List ℕ))
fields3 order format kind = judged (fixed order 1) bad_address_size then λ _. fields4 order format kind

five_never_truncated : (order : Order) (format : Format) → NeverTruncated (five_part order format).Break
five_never_truncated order format =
    then_never_truncated (judged (fixed order 1) bad_type) (fields3 order format)
    (judged_never_truncated (fixed order 1) bad_type (Short_never_truncated 1) type_judges) λ kind.
    then_never_truncated (judged (fixed order 1) bad_address_size) (λ _. fields4 order format kind)
    (judged_never_truncated (fixed order 1) bad_address_size (Short_never_truncated 1) address_size_judges) λ _.
    then_never_truncated (fixed order (offset_size format)) (λ _. numbers order (added_sizes format kind))
    (Short_never_truncated (offset_size format)) λ _.
    numbers_never_truncated order (added_sizes format kind)

four_never_truncated : (order : Order) (format : Format) → NeverTruncated (four_part order format).Break
four_never_truncated order format =
    then_never_truncated (fixed order (offset_size format)) (λ _. judged (fixed order 1) bad_address_size)
    (Short_never_truncated (offset_size format)) λ _.
    judged_never_truncated (fixed order 1) bad_address_size (Short_never_truncated 1) address_size_judges

behind_never_truncated : (order : Order) (format : Format) (four : Bool)
    → NeverTruncated (fields_behind order format four).Break
behind_never_truncated order format true = four_never_truncated order format
behind_never_truncated order format false = five_never_truncated order format

pub fields_never_truncated : (versions : Versions) (order : Order) (format : Format)
    → NeverTruncated (fields_under versions order format).Break
fields_never_truncated versions order format =
    then_never_truncated (judged (fixed order 2) (bad_version_under versions))
    (λ version. fields_behind order format (version == 4))
    (judged_never_truncated (fixed order 2) (bad_version_under versions) (Short_never_truncated 2)
    (version_judges versions))
    λ version.
    behind_never_truncated order format (version == 4)

-- ---- entries

values_never_truncated : (k : Ctx) (ps : List Pair) → NeverTruncated (values k ps).Break
values_never_truncated k [] = nothing_never_truncated
values_never_truncated k (p ∷ ps) =
    then_never_truncated (attribute k p.form.value p.constant) (λ _. values k ps)
    (attribute_never_truncated k p.form.value p.constant) (λ _. values_never_truncated k ps)

undeclared : (d : Option _) → unless_declared d ≡ Some Truncated → ⊥
undeclared None h = cc
undeclared (Some d) h = cc

pub root_judges : (t : Table) → Judges (bad_root t)
root_judges t code = by (is_null code)
  where
    by : (v : Bool) → (if v then Some NoRoot else unless_declared (declared t code.value)) ≡ Some Truncated → ⊥
    by true h = cc
    by false h = undeclared (declared t code.value) h

pub child_judges : (t : Table) (room : Bool) → Judges (bad_child t room)
child_judges t room code = by (is_null code) room
  where
    by : (v w : Bool)
        → (if v then None else (if w then unless_declared (declared t code.value) else Some TooDeep)) ≡ Some Truncated
        → ⊥
    by true w h = cc
    by false true h = undeclared (declared t code.value) h
    by false false h = cc

body_never_truncated : (k : Ctx) (t : Table) (kids : Part (Forest × Unsigned)) → NeverTruncated kids.Break
    → (code : Unsigned) → NeverTruncated (body k t kids code).Break
body_never_truncated k t kids it code =
    then_never_truncated (values k (declared_pairs (declared t code.value)))
    (λ _. optional (declares_children (declared t code.value)) kids)
    (values_never_truncated k (declared_pairs (declared t code.value)))
    (λ _. optional_never_truncated (declares_children (declared t code.value)) kids it)

children_never_truncated : (k : Ctx) (t : Table) (room : ℕ) → NeverTruncated (children k t room).Break
unfolding children
children_never_truncated k t zero =
    repeated_never_truncated (λ _. judged uleb (bad_child t false)) is_null (λ _. refused TooDeep)
    (λ _. judged_never_truncated uleb (bad_child t false) uleb_never_truncated (child_judges t false))
    (λ _. refused_never_truncated Body TooDeep (λ e. cc))
children_never_truncated k t (suc room) =
    repeated_never_truncated (λ _. judged uleb (bad_child t true)) is_null (body k t (children k t room))
    (λ _. judged_never_truncated uleb (bad_child t true) uleb_never_truncated (child_judges t true))
    (body_never_truncated k t (children k t room) (children_never_truncated k t room))

pub tree_never_truncated : (k : Ctx) (t : Table) (room : ℕ) → NeverTruncated (tree k t room).Break
tree_never_truncated k t room =
    then_never_truncated (judged uleb (bad_root t)) (body k t (children k t room))
    (judged_never_truncated uleb (bad_root t) uleb_never_truncated (root_judges t))
    (body_never_truncated k t (children k t room) (children_never_truncated k t room))

-- ---- padding

more_never_truncated : NeverTruncated MoreBreaks
more_never_truncated bytes lim offset reason le h =
    judged_never_truncated uleb not_null uleb_never_truncated (λ u. refuses_unless (is_null u) SecondRoot (λ e. cc))
    bytes lim offset reason le h.1

padding_never_truncated : NeverTruncated PaddingBreaks
padding_never_truncated bytes lim offset reason le h =
    After_never_truncated (nulls h.0) MoreBreaks more_never_truncated bytes lim offset reason le h.2

pub entries_never_truncated : (k : Ctx) (t : Table) → NeverTruncated (EntriesBreak k t)
entries_never_truncated k t bytes lim offset reason le (inl one) =
    tree_never_truncated k t (nesting - 1) bytes lim offset reason le one
entries_never_truncated k t bytes lim offset reason le (inr two) =
    After_never_truncated ((unit_tree k t).spell two.0) PaddingBreaks padding_never_truncated bytes lim offset reason le
    two.2
