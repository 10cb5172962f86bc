-- How many texts of types a text needs, itself included.
use Rattle.std.specs.Prelude.{ℕ, zero, suc, ◌+◌, ◌-◌, nat_le, List, [], ◌∷◌, Option, Some, None, ◌==◌, if◌then◌else◌}
use Rattle.dw_leb.specs.Constants.{DW_TAG_formal_parameter}
use Rattle.dw_tree.specs.Lent.{EntryAt, children_of}
use Rattle.dw_section.specs.Item.{Item}
use Rattle.dw_section.specs.Lookup.{entry}
use Rattle.dw_section.specs.declared.id.EntryId.{EntryId}
use Rattle.dw_ctype.specs.declared.kind.Kind.{Kind}
use Rattle.dw_ctype.specs.declared.kind.Kind.TheVariants.{Named, Tagged, Marked, Qualified, Array, Function, Other}
use Rattle.dw_ctype.specs.declared.typed.Typed.{Typed}
use Rattle.dw_ctype.specs.declared.typed.Typed.TheVariants.{Missing, Bad, Entry}
use Rattle.dw_ctype.specs.Types.{tag, kind_of, type_of, subject}

-- those of the formal_parameters
abbrev pub parameter_visits : (EntryAt → ℕ) → List EntryAt → ℕ
parameter_visits count [] = 0
parameter_visits count (e ∷ es) =
    if tag e == DW_TAG_formal_parameter then count e + parameter_visits count es else parameter_visits count es

-- those of what the row of an entry'items kind names, where `visits` counts one level deeper
abbrev pub kind_visits : (Typed → ℕ) → List Item → ℕ → EntryAt → Kind → ℕ
kind_visits visits items i e Named = 0
kind_visits visits items i e (Tagged k) = 0
kind_visits visits items i e (Marked m) = visits (type_of items i e)
kind_visits visits items i e (Qualified q) = visits (type_of items i e)
kind_visits visits items i e Array = visits (type_of items i e)
kind_visits visits items i e Function =
    visits (type_of items i e) + parameter_visits (λ p. visits (type_of items i p)) (children_of e)
kind_visits visits items i e Other = 0

abbrev pub entry_visits : (Typed → ℕ) → List Item → ℕ → Option EntryAt → ℕ
entry_visits visits items i None = 0
entry_visits visits items i (Some e) = kind_visits visits items i e (kind_of e)

abbrev pub type_visits : (Typed → ℕ) → List Item → Typed → ℕ
type_visits visits items Missing = 0
type_visits visits items Bad = 0
type_visits visits items (Entry id) = entry_visits visits items id.item (entry items id)

-- each text counts one, down to so many levels
abbrev pub visits : List Item → ℕ → Typed → ℕ
visits items zero t = 1
visits items (suc depth) t = suc (type_visits (visits items depth) items t)

abbrev pub entry_text_visits : List Item → EntryId → EntryAt → ℕ
entry_text_visits items id e = visits items 64 (subject items id e)

-- what is left of a number where as much is taken, if there is as much
abbrev pub less : ℕ → ℕ → Option ℕ
less n left = if nat_le n left then Some (left - n) else None
