-- A break stands within the bytes, or just behind them: so a fault's offset is at most their length.
use Rattle.std.proofs.Common.{◌≡◌, Bool, true, false, ℕ, zero, suc, ◌+◌, ◌-◌, ◌≤◌, List, [], ◌∷◌, ◌++◌, length, Option, sym, ap, arith, inl, inr, length-append, length-drop}
use Rattle.std.specs.Prelude.{◌==◌}
use Rattle.dw_leb.specs.declared.errors.Reason.{Reason}
use Rattle.dw_leb.specs.declared.errors.Reason.TheVariants.{TooDeep}
use Rattle.dw_leb.specs.declared.errors.SectionId.TheVariants.{Info}
use Rattle.dw_leb.specs.declared.order.Order.{Order}
use Rattle.dw_leb.specs.declared.order.Format.{Format}
use Rattle.dw_leb.specs.Part.{Breaks, Part, After, ◌then◌, judged, nothing, refused, optional}
use Rattle.dw_leb.specs.Repeat.{BreaksBehind, item_bytes, repeated}
use Rattle.dw_leb.specs.Number.{Short, Unsigned, Signed, uleb, fixed, offset_size, length_field, length_limit}
use Rattle.dw_leb.specs.Field.{IsField}
use Rattle.dw_leb.specs.DecideNumber.{uleb_field, initial_length_field}
use Rattle.dw_form.specs.declared.shape.Ctx.{Ctx}
use Rattle.dw_form.specs.Form.{attribute}
use Rattle.dw_abbrev.specs.Table.{Pair, Table, is_null, declared}
use Rattle.dw_tree.specs.Tree.{Forest, Body, values, declared_pairs, declares_children, bad_root, bad_child, body, children, tree, nesting, nulls, not_null, MoreBreaks, PaddingBreaks, unit_tree}
use Rattle.dw_header.specs.declared.versions.Versions.{Versions}
use Rattle.dw_header.specs.Header.{Header, added_sizes, numbers, bad_version_under, bad_type, bad_address_size, five_part, four_part, fields_behind, fields_under, context_of}
use Rattle.dw_header.specs.HeaderPlace.{HeaderBreaksUnder, HeaderAtUnder, header_size}
use Rattle.dw_header.specs.HeaderFound.{head_room, head_rest}
use Rattle.dw_unit.specs.Unit.{EntriesBreak, FailsUnder, UnitBreaksUnder, left_behind}

abbrev pub Inside : Breaks → Type 0
Inside P = (bytes : List ℕ) (lim offset : ℕ) (reason : Reason) → P bytes lim offset reason → offset ≤ length bytes

-- ---- the combinators

pub After_inside : (s : List ℕ) (P : Breaks) → Inside P → Inside (After s P)
After_inside s P it bytes lim offset reason h =
    omega (arith, h.sum, it h.rest (lim - length s) h.own reason h.breaks, ap length h.split, length-append s h.rest)

pub field_inside : {X : Type 0} (P : Part X) → IsField P → Inside P.Break
field_inside P it bytes lim offset reason h = omega (arith, it bytes lim offset reason h)

pub then_inside : {A B : Type 0} (P : Part A) (Q : A → Part B) → Inside P.Break → ((a : A) → Inside (Q a).Break)
    → Inside (P then Q).Break
then_inside P Q first second bytes lim offset reason (inl one) = first bytes lim offset reason one
then_inside P Q first second bytes lim offset reason (inr two) =
    After_inside (P.spell two.0) (Q two.0).Break (second two.0) bytes lim offset reason two.2

pub judged_inside : {X : Type 0} (P : Part X) (meaning : X → Option Reason) → Inside P.Break
    → Inside (judged P meaning).Break
judged_inside P meaning it bytes lim offset reason (inl one) = it bytes lim offset reason one
judged_inside P meaning it bytes lim offset reason (inr two) = omega (arith, two.here)

pub nothing_inside : Inside nothing.Break
nothing_inside bytes lim offset reason h = absurd h

pub refused_inside : (X : Type 0) (why : Reason) → Inside (refused {X = X} why).Break
refused_inside X why bytes lim offset reason h = omega (arith, h.0)

pub optional_inside : {A : Type 0} (b : Bool) (P : Part A) → Inside P.Break → Inside (optional b P).Break
optional_inside true P it = it
optional_inside false P it = nothing_inside

pub Short_inside : (n : ℕ) → Inside (Short n)
Short_inside n bytes lim offset reason h = omega (arith, h.0)

module _ {H B : Type 0} (head : List (H × B) → Part H) (ends : H → Bool) (body : H → Part B) where
  behind_inside : ((before : List (H × B)) → Inside (head before).Break) → ((h : H) → Inside (body h).Break)
      → (before xs : List (H × B)) → Inside (BreaksBehind head ends body before xs)
  behind_inside sh sb before [] bytes lim offset reason (inl one) = sh before bytes lim offset reason one
  behind_inside sh sb before [] bytes lim offset reason (inr two) =
      After_inside ((head before).spell two.0) (body two.0).Break (sb two.0) bytes lim offset reason two.3
  behind_inside sh sb before (x ∷ xs) bytes lim offset reason h =
      After_inside (item_bytes head ends body before x) (BreaksBehind head ends body (before ++ x ∷ []) xs)
      (behind_inside sh sb (before ++ x ∷ []) xs) bytes lim offset reason h.1

  pub repeated_inside : ((before : List (H × B)) → Inside (head before).Break) → ((h : H) → Inside (body h).Break)
      → Inside (repeated head ends body).Break
  repeated_inside sh sb bytes lim offset reason h = behind_inside sh sb [] h.0 bytes lim offset reason h.1

-- ---- headers

numbers_inside : (order : Order) (ns : List ℕ) → Inside (numbers order ns).Break
numbers_inside order [] = nothing_inside
numbers_inside order (n ∷ ns) =
    then_inside (fixed order n) (λ _. numbers order ns) (Short_inside n) (λ _. numbers_inside order ns)

abbrev fields4 : Order → Format → ℕ → Part (ℕ × List ℕ)
fields4 order format kind = fixed order (offset_size format) then λ _. numbers order (added_sizes format kind)

abbrev fields3 : Order → Format → ℕ → Part (ℕ × (ℕ × List ℕ))
fields3 order format kind = judged (fixed order 1) bad_address_size then λ _. fields4 order format kind

five_inside : (order : Order) (format : Format) → Inside (five_part order format).Break
five_inside order format =
    then_inside (judged (fixed order 1) bad_type) (fields3 order format)
    (judged_inside (fixed order 1) bad_type (Short_inside 1)) λ kind.
    then_inside (judged (fixed order 1) bad_address_size) (λ _. fields4 order format kind)
    (judged_inside (fixed order 1) bad_address_size (Short_inside 1)) λ _.
    then_inside (fixed order (offset_size format)) (λ _. numbers order (added_sizes format kind))
    (Short_inside (offset_size format)) λ _.
    numbers_inside order (added_sizes format kind)

four_inside : (order : Order) (format : Format) → Inside (four_part order format).Break
four_inside order format =
    then_inside (fixed order (offset_size format)) (λ _. judged (fixed order 1) bad_address_size)
    (Short_inside (offset_size format)) λ _.
    judged_inside (fixed order 1) bad_address_size (Short_inside 1)

version_inside : (order : Order) (format : Format) (four : Bool) → Inside (fields_behind order format four).Break
version_inside order format true = four_inside order format
version_inside order format false = five_inside order format

pub fields_inside : (versions : Versions) (order : Order) (format : Format)
    → Inside (fields_under versions order format).Break
fields_inside versions order format =
    then_inside (judged (fixed order 2) (bad_version_under versions))
    (λ version. fields_behind order format (version == 4))
    (judged_inside (fixed order 2) (bad_version_under versions) (Short_inside 2)) λ version.
    version_inside order format (version == 4)

pub header_inside : (versions : Versions) (order : Order) (bytes : List ℕ) (offset : ℕ) (reason : Reason)
    → HeaderBreaksUnder versions order bytes offset reason → offset ≤ length bytes
header_inside versions order bytes offset reason (inl one) =
    omega (arith, initial_length_field order 0 bytes length_limit offset reason one)
header_inside versions order bytes offset reason (inr (format, n, rest, own, fits, split, sum, breaks)) =
    omega (
      arith,
      sum,
      fields_inside versions order format rest n own reason breaks,
      ap length split,
      length-append ((length_field order).spell (format, n)) rest,
    )

-- ---- entries

pub attribute_inside : (k : Ctx) (form : ℕ) (c : Option Signed) → Inside (attribute k form c).Break
unfolding attribute
attribute_inside k form c bytes lim offset reason h = omega (arith, h.0)

values_inside : (k : Ctx) (ps : List Pair) → Inside (values k ps).Break
values_inside k [] = nothing_inside
values_inside k (p ∷ ps) =
    then_inside (attribute k p.form.value p.constant) (λ _. values k ps) (attribute_inside k p.form.value p.constant)
    (λ _. values_inside k ps)

body_inside : (k : Ctx) (t : Table) (kids : Part (Forest × Unsigned)) → Inside kids.Break → (code : Unsigned)
    → Inside (body k t kids code).Break
body_inside k t kids it code =
    then_inside (values k (declared_pairs (declared t code.value)))
    (λ _. optional (declares_children (declared t code.value)) kids)
    (values_inside k (declared_pairs (declared t code.value)))
    (λ _. optional_inside (declares_children (declared t code.value)) kids it)

code_inside : (meaning : Unsigned → Option Reason) → Inside (judged uleb meaning).Break
code_inside meaning = judged_inside uleb meaning (field_inside uleb uleb_field)

children_inside : (k : Ctx) (t : Table) (room : ℕ) → Inside (children k t room).Break
unfolding children
children_inside k t zero =
    repeated_inside (λ _. judged uleb (bad_child t false)) is_null (λ _. refused TooDeep)
    (λ _. code_inside (bad_child t false)) (λ _. refused_inside Body TooDeep)
children_inside k t (suc room) =
    repeated_inside (λ _. judged uleb (bad_child t true)) is_null (body k t (children k t room))
    (λ _. code_inside (bad_child t true)) (body_inside k t (children k t room) (children_inside k t room))

pub tree_inside : (k : Ctx) (t : Table) (room : ℕ) → Inside (tree k t room).Break
tree_inside k t room =
    then_inside (judged uleb (bad_root t)) (body k t (children k t room)) (code_inside (bad_root t))
    (body_inside k t (children k t room) (children_inside k t room))

more_inside : Inside MoreBreaks
more_inside bytes lim offset reason h = code_inside not_null bytes lim offset reason h.1

pub entries_inside : (k : Ctx) (t : Table) → Inside (EntriesBreak k t)
entries_inside k t bytes lim offset reason (inl one) = tree_inside k t (nesting - 1) bytes lim offset reason one
entries_inside k t bytes lim offset reason (inr two) =
    After_inside ((unit_tree k t).spell two.0) PaddingBreaks
    (λ b l o r h. After_inside (nulls h.0) MoreBreaks more_inside b l o r h.2) bytes lim offset reason two.2

-- ---- units

behind_header : (versions : Versions) (order : Order) (bytes : List ℕ) (h : Header) (n : ℕ)
    → HeaderAtUnder versions order bytes h n → (k : Ctx) (t : Table) (rest : List ℕ) → (lim own offset : ℕ)
    (reason : Reason)
    → length bytes ≡ header_size h + length rest → offset ≡ header_size h + own → EntriesBreak k t rest lim own reason
    → offset ≤ length bytes
behind_header versions order bytes h n stands k t rest lim own offset reason split sum breaks =
    omega (arith, sum, split, entries_inside k t rest lim own reason breaks)

rest_size : (versions : Versions) (order : Order) (bytes : List ℕ) (h : Header) (n : ℕ)
    → (stands : HeaderAtUnder versions order bytes h n) → length bytes ≡ header_size h + length stands.1
rest_size versions order bytes h n stands =
    omega (
      arith,
      head_room versions order bytes h n stands,
      ap length (sym (head_rest versions order bytes h n stands)),
      length-drop (header_size h) bytes,
    )

pub break_inside : (versions : Versions) (order : Order) (t : Table) (bytes : List ℕ) (offset : ℕ) (reason : Reason)
    → UnitBreaksUnder versions order t bytes offset reason → offset ≤ length bytes
break_inside versions order t bytes offset reason (inl one) = header_inside versions order bytes offset reason one
break_inside versions order t bytes offset reason (inr b) =
    behind_header versions order bytes b.header b.count b.stands (context_of b.header) b.table b.stands.1
    (left_behind b.header b.count) b.own offset reason (rest_size versions order bytes b.header b.count b.stands)
    b.sum b.breaks

pub unit_inside : (versions : Versions) (order : Order) (section bytes : List ℕ) (offset : ℕ) (reason : Reason)
    → FailsUnder versions order section bytes Info offset reason → offset ≤ length bytes
unit_inside versions order section bytes offset reason (inl one) = header_inside versions order bytes offset reason one
unit_inside versions order section bytes offset reason (inr b) =
    behind_header versions order bytes b.header b.count b.stands (context_of b.header) b.table b.stands.1
    (left_behind b.header b.count) b.own offset reason (rest_size versions order bytes b.header b.count b.stands)
    b.sum b.breaks
