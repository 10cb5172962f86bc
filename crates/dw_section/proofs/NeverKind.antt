-- Which fields are refused for a version or for a unit type: none but those that show the kind of an item. The combinators, and
-- each part of a section but its headers.
use Rattle.std.proofs.Common.{Bool, true, false, ◌≡◌, ℕ, zero, suc, ◌+◌, ◌-◌, ◌^◌, List, [], ◌∷◌, ◌++◌, length, min, Option, Some, None, sym, subst, refl, inl, inr}
use Rattle.std.specs.Prelude.{if◌then◌else◌, nat_le, nat_lt, ◌==◌, ◌&&◌, ◌||◌}
use Rattle.dw_leb.specs.declared.errors.Reason.{Reason}
use Rattle.dw_leb.specs.declared.errors.Reason.TheVariants.{Truncated, PastUnit, LebTooLong, LebTooBig, ReservedLength, LengthTooBig, BadVersion, BadUnitType, UnknownForm, BadIndirect, NoRoot, TooDeep, SecondRoot, BadChildren, HalfPair, DuplicateCode, TooManyPairs, AbbrevOffset, BadAddressSize}
use Rattle.dw_leb.specs.declared.order.Order.{Order}
use Rattle.dw_leb.specs.declared.order.Format.{Format}
use Rattle.dw_leb.specs.declared.order.Order.TheVariants.{Little}
use Rattle.dw_leb.specs.Part.{Breaks, Part, After, ◌then◌, judged, whole, viewed, seen, nothing, refused, optional}
use Rattle.dw_leb.specs.Repeat.{BreaksBehind, item_bytes, repeated}
use Rattle.dw_leb.specs.Number.{Unsigned, Signed, Short, fixed, content, text, unended, unmarked, groups, uleb_groups, UlebHolds, above_u64, uleb, sleb_groups, SlebHolds, outside_i64, sleb, extent, offset_size, length_size, reserved, as_initial, too_far, length_field, initial_length}
use Rattle.dw_form.specs.declared.shape.Ctx.{Ctx}
use Rattle.dw_form.specs.declared.shape.Shape.{Shape}
use Rattle.dw_form.specs.declared.shape.Shape.TheVariants as shapes
use Rattle.dw_form.specs.Form.{Value, shape, constant, shaped, shaped_if, formed, bad_inner, by_indirection, attribute}
use Rattle.dw_abbrev.specs.Table.{Pair, Table, is_null, is_end, half, too_many, pairs, bad_flag, described, is_among, repeats, table, TableBreaks, unbounded, declared}
use Rattle.dw_tree.specs.Tree.{Forest, Body, values, declared_pairs, declares_children, unless_declared, bad_root, bad_child, body, children, tree, nesting, nulls, not_null, MoreBreaks, PaddingBreaks, unit_tree}
use Rattle.dw_header.specs.Header.{added_sizes, numbers, bad_address_size, four_part}
use Rattle.dw_unit.specs.Unit.{EntriesBreak}

-- a version or a unit type is refused
abbrev pub refuses_kind : Reason → Bool
refuses_kind BadVersion = true
refuses_kind BadUnitType = true
refuses_kind _ = false

abbrev pub NotKind : Reason → Type 0
NotKind reason = refuses_kind reason ≡ false

-- what is judged so
abbrev pub NoneOfKind : Option Reason → Type 0
NoneOfKind None = Unit {0}
NoneOfKind (Some reason) = NotKind reason

abbrev pub NeverKind : Breaks → Type 0
NeverKind P = (bytes : List ℕ) (lim offset : ℕ) (reason : Reason) → P bytes lim offset reason → NotKind reason

pub same_reason : (r q : Reason) → r ≡ q → NotKind q → NotKind r
same_reason r q e h = subst (λ (x : Reason). NotKind x) (sym e) h

-- ---- the combinators

pub After_never_kind : (s : List ℕ) (P : Breaks) → NeverKind P → NeverKind (After s P)
After_never_kind s P it bytes lim offset reason h = it h.rest (lim - length s) h.own reason h.breaks

pub judged_never_kind : {X : Type 0} (P : Part X) (meaning : X → Option Reason) → NeverKind P.Break → ((x : X) → NoneOfKind (meaning x)) → NeverKind (judged P meaning).Break
judged_never_kind P meaning it judges bytes lim offset reason h = elim h [
  | inl one ↦ it bytes lim offset reason one
  | inr two ↦ subst (λ (o : Option Reason). NoneOfKind o) two.refused (judges two.value)
]

pub then_never_kind : {A B : Type 0} (P : Part A) (Q : A → Part B) → NeverKind P.Break → ((a : A) → NeverKind (Q a).Break) → NeverKind (P then Q).Break
then_never_kind P Q first second bytes lim offset reason h = elim h [
  | inl one ↦ first bytes lim offset reason one
  | inr two ↦ After_never_kind (P.spell two.0) (Q two.0).Break (second two.0) bytes lim offset reason two.2
]

pub whole_never_kind : {X : Type 0} (P : Part X) → NeverKind P.Break → NeverKind (whole P).Break
whole_never_kind P it bytes lim offset reason h = it bytes lim h.1 reason h.2

pub nothing_never_kind : NeverKind nothing.Break
nothing_never_kind bytes lim offset reason h = absurd h

pub refused_never_kind : (X : Type 0) (why : Reason) → NotKind why → NeverKind (refused {X = X} why).Break
refused_never_kind X why ne bytes lim offset reason h = same_reason reason why h.1 ne

pub optional_never_kind : {A : Type 0} (b : Bool) (P : Part A) → NeverKind P.Break → NeverKind (optional b P).Break
optional_never_kind true P it = it
optional_never_kind false P it = nothing_never_kind

module _ {H B : Type 0} (head : List (H × B) → Part H) (ends : H → Bool) (body : H → Part B) where
  behind_never_kind : ((before : List (H × B)) → NeverKind (head before).Break) → ((h : H) → NeverKind (body h).Break) → (before xs : List (H × B)) → NeverKind (BreaksBehind head ends body before xs)
  behind_never_kind sh sb before [] bytes lim offset reason h = elim h [
    | inl one ↦ sh before bytes lim offset reason one
    | inr two ↦ After_never_kind ((head before).spell two.0) (body two.0).Break (sb two.0) bytes lim offset reason two.3
  ]
  behind_never_kind sh sb before (x ∷ xs) bytes lim offset reason h =
      After_never_kind (item_bytes head ends body before x) (BreaksBehind head ends body (before ++ x ∷ []) xs) (behind_never_kind sh sb (before ++ x ∷ []) xs) bytes lim offset reason h.1

  pub repeated_never_kind : ((before : List (H × B)) → NeverKind (head before).Break) → ((h : H) → NeverKind (body h).Break) → NeverKind (repeated head ends body).Break
  repeated_never_kind sh sb bytes lim offset reason h = behind_never_kind sh sb [] h.0 bytes lim offset reason h.1

-- ---- what is judged by a flag

unless : (b : Bool) (why : Reason) → NotKind why → NoneOfKind (if b then None else Some why)
unless true why h = tt
unless false why h = h

where_so : (b : Bool) (why : Reason) → NotKind why → NoneOfKind (if b then Some why else None)
where_so true why h = h
where_so false why h = tt

-- ---- numbers and texts

pub Short_never_kind : (n : ℕ) → NeverKind (Short n)
Short_never_kind n bytes lim offset reason h = elim h.1 [
  | inl past ↦ same_reason reason PastUnit past.1 refl
  | inr cut ↦ same_reason reason Truncated cut.2 refl
]

unended_not : (m lim : ℕ) → NotKind (unended m lim)
unended_not m lim = by (m == lim)
  where
    by : (v : Bool) → NotKind (if v then PastUnit else Truncated)
    by true = refl
    by false = refl

unmarked_not : (m lim : ℕ) → NotKind (unmarked m lim)
unmarked_not m lim = by (nat_le 16 m)
  where
    by : (v : Bool) → NotKind (if v then LebTooLong else unended m lim)
    by true = refl
    by false = unended_not m lim

text_never_kind : NeverKind text.Break
text_never_kind bytes lim offset reason h = same_reason reason _ h.2 (unended_not (min (length bytes) lim) lim)

groups_never_kind : NeverKind groups.Break
groups_never_kind bytes lim offset reason h = same_reason reason _ h.2 (unmarked_not (min (length bytes) lim) lim)

uleb_never_kind : NeverKind uleb.Break
uleb_never_kind = judged_never_kind (viewed uleb_groups UlebHolds groups) above_u64 groups_never_kind (λ u. unless (nat_lt u.value (2 ^ 64)) LebTooBig refl)

sleb_never_kind : NeverKind sleb.Break
sleb_never_kind = judged_never_kind (viewed sleb_groups SlebHolds groups) outside_i64 groups_never_kind (λ s. unless (nat_lt (extent s.value) (2 ^ 63)) LebTooBig refl)

pub initial_length_never_kind : (order : Order) (start : ℕ) → NeverKind (initial_length order start).Break
initial_length_never_kind order start =
    judged_never_kind (length_field order) (too_far start)
    (whole_never_kind (seen as_initial (judged (fixed order 4) reserved then λ x. optional (x == 0xffffffff) (fixed order 8)))
    (then_never_kind (judged (fixed order 4) reserved) (λ x. optional (x == 0xffffffff) (fixed order 8))
    (judged_never_kind (fixed order 4) reserved (Short_never_kind 4) (λ x. where_so (nat_le 0xfffffff0 x && nat_lt x 0xffffffff) ReservedLength refl))
    (λ x. optional_never_kind (x == 0xffffffff) (fixed order 8) (Short_never_kind 8))))
    (λ x. unless (nat_lt (start + length_size x.0 + x.1) (2 ^ 63)) LengthTooBig refl)

-- ---- values

constant_never_kind : (c : Option Signed) → NeverKind (constant c).Break
constant_never_kind None = refused_never_kind Value BadIndirect refl
constant_never_kind (Some c) = nothing_never_kind

shaped_never_kind : (k : Ctx) (c : Option Signed) (s : Shape) → NeverKind (shaped k c s).Break
unfolding shaped
shaped_never_kind k c (shapes.Fixed n) = Short_never_kind n
shaped_never_kind k c shapes.Uleb = uleb_never_kind
shaped_never_kind k c shapes.Sleb = sleb_never_kind
shaped_never_kind k c (shapes.Counted n) = then_never_kind (fixed k.order n) content (Short_never_kind n) Short_never_kind
shaped_never_kind k c shapes.CountedUleb = then_never_kind uleb (λ u. content u.value) uleb_never_kind (λ u. Short_never_kind u.value)
shaped_never_kind k c shapes.Text = text_never_kind
shaped_never_kind k c shapes.Present = nothing_never_kind
shaped_never_kind k c shapes.Implicit = constant_never_kind c
shaped_never_kind k c shapes.Indirect = refused_never_kind Value BadIndirect refl

shaped_if_never_kind : (k : Ctx) (c : Option Signed) (s : Option Shape) → NeverKind (shaped_if k c s).Break
shaped_if_never_kind k c None = refused_never_kind Value UnknownForm refl
shaped_if_never_kind k c (Some s) = shaped_never_kind k c s

indirection_never_kind : (k : Ctx) (c : Option Signed) (form : ℕ) (b : Bool) → NeverKind (by_indirection k c form b).Break
indirection_never_kind k c form true =
    then_never_kind (judged uleb bad_inner) (λ u. formed k None u.value) (judged_never_kind uleb bad_inner uleb_never_kind (λ u. where_so (u.value == 0x16 || u.value == 0x21) BadIndirect refl))
    (λ u. shaped_if_never_kind k None (shape u.value k.address_size k.format))
indirection_never_kind k c form false = shaped_if_never_kind k c (shape form k.address_size k.format)

attribute_never_kind : (k : Ctx) (form : ℕ) (c : Option Signed) → NeverKind (attribute k form c).Break
unfolding attribute
attribute_never_kind k form c = whole_never_kind (by_indirection k c form (form == 0x16)) (indirection_never_kind k c form (form == 0x16))

-- ---- tables

pair_is_none : (x : Unsigned × Unsigned) → NoneOfKind (half x)
pair_is_none x = by (is_null x.0) (is_null x.1)
  where
    by : (v w : Bool) → NoneOfKind (if v then (if w then None else Some HalfPair) else (if w then Some HalfPair else None))
    by true w = unless w HalfPair refl
    by false w = where_so w HalfPair refl

pairs_never_kind : NeverKind pairs.Break
pairs_never_kind = repeated_never_kind (λ before. judged (judged (uleb then λ _. uleb) half) (too_many (length before))) is_end (λ x. optional (x.1.value == 0x21) sleb)
    (λ before. judged_never_kind (judged (uleb then λ _. uleb) half) (too_many (length before))
    (judged_never_kind (uleb then λ _. uleb) half (then_never_kind uleb (λ _. uleb) uleb_never_kind (λ _. uleb_never_kind)) pair_is_none)
    (λ x. unless (is_end x || nat_lt (length before) 1024) TooManyPairs refl))
    (λ x. optional_never_kind (x.1.value == 0x21) sleb sleb_never_kind)

described_never_kind : NeverKind described.Break
described_never_kind =
    then_never_kind uleb (λ _. judged (fixed Little 1) bad_flag then λ _. pairs) uleb_never_kind λ _.
    then_never_kind (judged (fixed Little 1) bad_flag) (λ _. pairs) (judged_never_kind (fixed Little 1) bad_flag (Short_never_kind 1) (λ x. unless (nat_lt x 2) BadChildren refl)) λ _.
    pairs_never_kind

table_never_kind : NeverKind table.Break
unfolding table
table_never_kind = repeated_never_kind (λ before. judged uleb (repeats before)) is_null (λ _. described)
    (λ before. judged_never_kind uleb (repeats before) uleb_never_kind (λ code. where_so (is_among code.value before) DuplicateCode refl))
    (λ _. described_never_kind)

pub table_is_none : (abbreviations : List ℕ) (offset at : ℕ) (reason : Reason) → TableBreaks abbreviations offset at reason → NotKind reason
table_is_none abbreviations offset at reason (inl past) = same_reason reason AbbrevOffset past.2 refl
table_is_none abbreviations offset at reason (inr inside) = table_never_kind _ (unbounded abbreviations) inside.1.0 reason inside.1.2

-- ---- entries

values_never_kind : (k : Ctx) (ps : List Pair) → NeverKind (values k ps).Break
values_never_kind k [] = nothing_never_kind
values_never_kind k (p ∷ ps) = then_never_kind (attribute k p.form.value p.constant) (λ _. values k ps) (attribute_never_kind k p.form.value p.constant) (λ _. values_never_kind k ps)

undeclared_is_none : (d : Option _) → NoneOfKind (unless_declared d)
undeclared_is_none None = refl
undeclared_is_none (Some d) = tt

root_is_none : (t : Table) (code : Unsigned) → NoneOfKind (bad_root t code)
root_is_none t code = by (is_null code)
  where
    by : (v : Bool) → NoneOfKind (if v then Some NoRoot else unless_declared (declared t code.value))
    by true = refl
    by false = undeclared_is_none (declared t code.value)

child_is_none : (t : Table) (room : Bool) (code : Unsigned) → NoneOfKind (bad_child t room code)
child_is_none t room code = by (is_null code) room
  where
    by : (v w : Bool) → NoneOfKind (if v then None else (if w then unless_declared (declared t code.value) else Some TooDeep))
    by true w = tt
    by false true = undeclared_is_none (declared t code.value)
    by false false = refl

body_never_kind : (k : Ctx) (t : Table) (kids : Part (Forest × Unsigned)) → NeverKind kids.Break → (code : Unsigned) → NeverKind (body k t kids code).Break
body_never_kind k t kids it code = then_never_kind (values k (declared_pairs (declared t code.value))) (λ _. optional (declares_children (declared t code.value)) kids)
    (values_never_kind k (declared_pairs (declared t code.value))) (λ _. optional_never_kind (declares_children (declared t code.value)) kids it)

children_never_kind : (k : Ctx) (t : Table) (room : ℕ) → NeverKind (children k t room).Break
unfolding children
children_never_kind k t zero = repeated_never_kind (λ _. judged uleb (bad_child t false)) is_null (λ _. refused TooDeep)
    (λ _. judged_never_kind uleb (bad_child t false) uleb_never_kind (child_is_none t false)) (λ _. refused_never_kind Body TooDeep refl)
children_never_kind k t (suc room) = repeated_never_kind (λ _. judged uleb (bad_child t true)) is_null (body k t (children k t room))
    (λ _. judged_never_kind uleb (bad_child t true) uleb_never_kind (child_is_none t true)) (body_never_kind k t (children k t room) (children_never_kind k t room))

tree_never_kind : (k : Ctx) (t : Table) (room : ℕ) → NeverKind (tree k t room).Break
tree_never_kind k t room = then_never_kind (judged uleb (bad_root t)) (body k t (children k t room)) (judged_never_kind uleb (bad_root t) uleb_never_kind (root_is_none t))
    (body_never_kind k t (children k t room) (children_never_kind k t room))

-- ---- padding

more_never_kind : NeverKind MoreBreaks
more_never_kind bytes lim offset reason h = judged_never_kind uleb not_null uleb_never_kind (λ u. unless (is_null u) SecondRoot refl) bytes lim offset reason h.1

padding_never_kind : NeverKind PaddingBreaks
padding_never_kind bytes lim offset reason h = After_never_kind (nulls h.0) MoreBreaks more_never_kind bytes lim offset reason h.2

pub entries_never_kind : (k : Ctx) (t : Table) → NeverKind (EntriesBreak k t)
entries_never_kind k t bytes lim offset reason (inl one) = tree_never_kind k t (nesting - 1) bytes lim offset reason one
entries_never_kind k t bytes lim offset reason (inr two) = After_never_kind ((unit_tree k t).spell two.0) PaddingBreaks padding_never_kind bytes lim offset reason two.2

-- ---- the fields of a header behind its version and unit type

numbers_never_kind : (order : Order) (ns : List ℕ) → NeverKind (numbers order ns).Break
numbers_never_kind order [] = nothing_never_kind
numbers_never_kind order (n ∷ ns) = then_never_kind (fixed order n) (λ _. numbers order ns) (Short_never_kind n) (λ _. numbers_never_kind order ns)

address_size_never_kind : (order : Order) → NeverKind (judged (fixed order 1) bad_address_size).Break
address_size_never_kind order = judged_never_kind (fixed order 1) bad_address_size (Short_never_kind 1) (λ x. unless (nat_lt 0 x && nat_lt x 9) BadAddressSize refl)

abbrev pub behind_type : Order → Format → ℕ → Part (ℕ × (ℕ × List ℕ))
behind_type order format kind = judged (fixed order 1) bad_address_size then λ _. fixed order (offset_size format) then λ _. numbers order (added_sizes format kind)

pub behind_type_never_kind : (order : Order) (format : Format) (kind : ℕ) → NeverKind (behind_type order format kind).Break
behind_type_never_kind order format kind =
    then_never_kind (judged (fixed order 1) bad_address_size) (λ _. fixed order (offset_size format) then λ _. numbers order (added_sizes format kind)) (address_size_never_kind order) λ _.
    then_never_kind (fixed order (offset_size format)) (λ _. numbers order (added_sizes format kind)) (Short_never_kind (offset_size format)) λ _.
    numbers_never_kind order (added_sizes format kind)

pub four_never_kind : (order : Order) (format : Format) → NeverKind (four_part order format).Break
four_never_kind order format = then_never_kind (fixed order (offset_size format)) (λ _. judged (fixed order 1) bad_address_size) (Short_never_kind (offset_size format)) (λ _. address_size_never_kind order)
