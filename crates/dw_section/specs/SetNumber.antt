-- A section in which one number is another, and why a number isn't put.
use Rattle.std.specs.Prelude.{◌≡◌, ℕ, ℤ, zero, suc, ◌==◌, Bool, true, false, List, [], ◌∷◌, length, map, Option, Some, None, Result, Ok, Err, not, if◌then◌else◌}
use Rattle.dw_leb.specs.Constants.{DW_AT_sibling}
use Rattle.dw_form.specs.declared.shape.Ctx.{Ctx}
use Rattle.dw_form.specs.Form.{Value, Num, Wide, Uleb, Sleb, Block, Text, Present, Implicit, at_number}
use Rattle.dw_form.specs.declared.value.Value.{Value as TheValue}
use Rattle.dw_form.specs.Lent.{value_of}
use Rattle.dw_form.specs.Renumber.{renumbered}
use Rattle.dw_header.specs.Header.{context_of}
use Rattle.dw_header.specs.declared.versions.Versions.{Versions}
use Rattle.dw_leb.specs.declared.order.Order.{Order}
use Rattle.dw_tree.specs.Lent.{EntryAt, LentAttribute, attributes_of, first_named, entries_of, find_at}
use Rattle.dw_tree.specs.Put.{Edit}
use Rattle.dw_unit.specs.Unit.{WholeUnit, tree_of}
use Rattle.dw_unit.specs.Put.{put_in_unit}
use Rattle.dw_section.specs.declared.id.EntryId.{EntryId}
use Rattle.dw_section.specs.declared.resolve.RefKind.{RefKind}
use Rattle.dw_section.specs.declared.set_refusal.SetRefusal.{SetRefusal}
use Rattle.dw_section.specs.declared.set_refusal.SetRefusal.TheVariants.{NoEntry, NoAttribute, NotANumber, InTable, DoesNotFit, BadTarget}
use Rattle.dw_section.specs.Item.{Item, Known, Other, item_bytes, ItemFits}
use Rattle.dw_section.specs.Section.{WholeSection}
use Rattle.dw_section.specs.Reference.{Target, ref_forms, named}
use Rattle.dw_section.specs.Lookup.{unit_at, starts_from, start_of}
use Rattle.dw_section.specs.Sibling.{is_right_sibling}

-- ---- the edited section

abbrev pub put_in_item : Edit → Item → Item
put_in_item e (Known u) = Known (put_in_unit e u)
put_in_item e (Other bytes) = Other bytes

-- in the item of this number
abbrev pub put_at : ℕ → Edit → List Item → List Item
put_at i e [] = []
put_at zero e (x ∷ xs) = put_in_item e x ∷ xs
put_at (suc i) e (x ∷ xs) = x ∷ put_at i e xs

abbrev pub edit_of : EntryId → ℕ → ℤ → Edit
edit_of id name x = record { offset = id.offset; name = name; number = x }

-- the entry's first attribute of the name has the number; all else stays
abbrev pub edited : WholeSection → EntryId → ℕ → ℤ → WholeSection
edited s id name x =
    record { order = s.order; versions = s.versions; items = put_at id.item (edit_of id name x) s.items }

-- ---- why a number isn't put

abbrev pub or_misfit : Option Value → Result Value SetRefusal
or_misfit None = Err DoesNotFit
or_misfit (Some v) = Ok v

-- the value of a form with the number, or why there is none
abbrev pub new_value : Ctx → ℕ → ℤ → Value → Result Value SetRefusal
new_value k form x (Num y) = or_misfit (renumbered k form x (Num y))
new_value k form x (Uleb u) = or_misfit (renumbered k form x (Uleb u))
new_value k form x (Sleb s) = or_misfit (renumbered k form x (Sleb s))
new_value k form x (Implicit s) = Err InTable
new_value k form x (Wide y) = Err NotANumber
new_value k form x (Block width bytes) = Err NotANumber
new_value k form x (Text bytes) = Err NotANumber
new_value k form x Present = Err NotANumber

-- a reference that names nothing; a value of another form is none
abbrev pub names_nothing : Option RefKind → Target → Bool
names_nothing None t = false
names_nothing (Some kind) (Ok id) = false
names_nothing (Some kind) (Err why) = true

-- the value can't stand there: under DW_AT_sibling it isn't the right one, under another name it is a reference that
-- names nothing
abbrev pub is_bad_target : List Item → EntryId → WholeUnit → ℕ → EntryAt → ℕ → ℕ → Value → Bool
is_bad_target items id u start e name form v =
    if name == DW_AT_sibling then not (is_right_sibling start e form v)
    else names_nothing (at_number form ref_forms) (named items id.item u form v)

abbrev pub value_refusal : List Item → EntryId → WholeUnit → ℕ → EntryAt → LentAttribute → Result Value SetRefusal
    → Option SetRefusal
value_refusal items id u start e a (Err why) = Some why
value_refusal items id u start e a (Ok v) =
    if is_bad_target items id u start e a.name a.form v then Some BadTarget else None

abbrev pub attribute_refusal : List Item → EntryId → ℤ → WholeUnit → ℕ → EntryAt → Option LentAttribute
    → Option SetRefusal
attribute_refusal items id x u start e None = Some NoAttribute
attribute_refusal items id x u start e (Some a) =
    value_refusal items id u start e a (new_value (context_of u.header) a.form x a.attr.value)

abbrev pub entry_refusal : List Item → EntryId → ℕ → ℤ → WholeUnit → ℕ → Option EntryAt → Option SetRefusal
entry_refusal items id name x u start None = Some NoEntry
entry_refusal items id name x u start (Some e) =
    attribute_refusal items id x u start e (first_named name (attributes_of e))

abbrev pub unit_refusal : List Item → EntryId → ℕ → ℤ → Option ℕ → Option WholeUnit → Option SetRefusal
unit_refusal items id name x (Some start) (Some u) =
    entry_refusal items id name x u start (find_at id.offset (entries_of (tree_of u)))
unit_refusal items id name x None u = Some NoEntry
unit_refusal items id name x (Some start) None = Some NoEntry

-- the first reason that holds, in the order of their numbers
abbrev pub set_refusal : WholeSection → EntryId → ℕ → ℤ → Option SetRefusal
set_refusal s id name x = unit_refusal s.items id name x (start_of s.items id.item) (unit_at s.items id.item)

-- the program's answer
abbrev pub seen_value : Result TheValue SetRefusal → Result Value SetRefusal
seen_value (Ok v) = Ok (value_of v)
seen_value (Err why) = Err why

-- ---- what stays

-- where the entries of an item begin, counted from the item's first byte
abbrev pub entry_offsets : Item → List ℕ
entry_offsets (Known u) = map (λ (e : EntryAt). e.offset) (entries_of (tree_of u))
entry_offsets (Other bytes) = []

-- every item and every entry begins where it did
abbrev pub KeepsOffsets : List Item → List Item → Type 0
KeepsOffsets old new = (starts_from 0 new ≡ starts_from 0 old) × (map entry_offsets new ≡ map entry_offsets old)

pub record ItemKept (x y : Item) : Type 0 where
  pub size : length (item_bytes y) ≡ length (item_bytes x)
  pub offsets : entry_offsets y ≡ entry_offsets x
  pub fits : (versions : Versions) (order : Order) (start : ℕ) → ItemFits versions order start x
      → ItemFits versions order start y
