-- The entries and attributes that one call gives (sections 2.2 and 7.5.2).
use Rattle.std.specs.Prelude.{◌≡◌, ◌<◌, ℕ, ◌+◌, ◌-◌, ◌^◌, ◌==◌, if◌then◌else◌, List, [], ◌∷◌, ◌++◌, length, take, map, ◌⊎◌}
use Rattle.dw_tree.specs.Lent.{EntryAt, LentAttribute, attributes_of, from_offset}
use Rattle.rothelduf_c.specs.Seen.{seen_attr, seen_entry}
use Rattle.rothelduf_c.specs.declared.structs.CAttr.{CAttr}
use Rattle.rothelduf_c.specs.declared.structs.CEntry.{CEntry}
use Rattle.rothelduf_c.specs.declared.structs.CFilled.{CFilled}

-- the attributes of entries, one after the other
abbrev pub all_attributes : List EntryAt → List LentAttribute
all_attributes [] = []
all_attributes (e ∷ others) = attributes_of e ++ all_attributes others

-- an entry as C sees it, with the place behind its last attribute
abbrev pub placed : ℕ → EntryAt → CEntry
placed place e = record (seen_entry e) { attributes = place }

-- entries as C sees them, whose attributes stand one after the other from a place on
abbrev pub walked : ℕ → List EntryAt → List CEntry
walked at [] = []
walked at (e ∷ others) =
    placed (at + length (attributes_of e)) e ∷ walked (at + length (attributes_of e)) others

-- the entries from the one on that begins at an offset; all of them from 0 on, where none begins
abbrev pub entries_on : ℕ → List EntryAt → List EntryAt
entries_on from all = if from == 0 then all else from_offset from all

-- where the first of these begins; 2 ^ 64 - 1 of none
abbrev pub first_offset : List EntryAt → ℕ
first_offset [] = 2 ^ 64 - 1
first_offset (e ∷ others) = e.offset

-- there is nothing more, or no room for it
abbrev pub HasEnded : ℕ → ℕ → CFilled → List EntryAt → Type 0
HasEnded entry_room attribute_room f [] = Unit {0}
HasEnded entry_room attribute_room f (e ∷ others) =
    (f.entries ≡ entry_room) ⊎ (attribute_room < f.attributes + length (attributes_of e))

-- Of these entries the first ones are given with all their attributes, as many as there is room for, and is told
-- where the next one begins.
pub record IsWalked (entry_room attribute_room : ℕ) (all : List EntryAt) (entries : List CEntry)
    (attributes : List CAttr) (f : CFilled) : Type 0 where
  pub given : List EntryAt
  pub behind : List EntryAt
  pub split : all ≡ given ++ behind
  pub entry_count : f.entries ≡ length given
  pub attribute_count : f.attributes ≡ length (all_attributes given)
  pub entries_are : take f.entries entries ≡ walked 0 given
  pub attributes_are : take f.attributes attributes ≡ map seen_attr (all_attributes given)
  pub next_is : f.next ≡ first_offset behind
  pub ended : HasEnded entry_room attribute_room f behind
