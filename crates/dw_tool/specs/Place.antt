-- A unit in its section.
use Rattle.std.specs.Prelude.{◌≡◌, ℕ, Bool, true, false, List, Some, IsSome}
use Rattle.dw_unit.specs.Unit.{WholeUnit}
use Rattle.dw_section.specs.EntryOffsets.{AreEntryOffsets}
use Rattle.dw_section.specs.Item.{Item}
use Rattle.dw_section.specs.Lookup.{unit_at}
use Rattle.dw_tool.specs.declared.entries.Names.{Names}
use Rattle.dw_tool.specs.declared.entries.Names.TheVariants.{Entry, Text, Nothing}
use Rattle.dw_tool.specs.declared.entries.Origin.{Origin}
use Rattle.dw_tool.specs.declared.entries.Place.{Place}
use Rattle.dw_tool.specs.Show.{start_at}

-- the item of this number is a unit, and starts there
pub record IsPlace (place : Place) : Type 0 where
  pub known : IsSome (unit_at place.section.now.items place.item)
  pub start_is : place.start ≡ start_at place.section.now.items place.item

-- entries of the unit that is this item begin at the offsets that are marked
abbrev pub BeginIn : List Item → ℕ → List ℕ → Type 0
BeginIn items i words = (u : WholeUnit) → unit_at items i ≡ Some u → AreEntryOffsets u words

-- the entry is one of a unit, and entries of it begin at the offsets that are marked
pub record IsOrigin (origin : Origin) : Type 0 where
  pub unit : IsSome (unit_at origin.section.now.items origin.from.item)
  pub begins : BeginIn origin.section.now.items origin.from.item origin.begins.now

-- whether what a value names is an entry
abbrev pub is_entry : Names → Bool
is_entry Entry = true
is_entry Text = false
is_entry Nothing = false

-- whether it is a text
abbrev pub is_text : Names → Bool
is_text Entry = false
is_text Text = true
is_text Nothing = false
