-- The program's unit in its section as that of the definitions.
use Rattle.std.specs.Prelude.{◌≡◌, ◌+◌, ◌<◌, ◌^◌, length, Some}
use Rattle.dw_unit.specs.Unit.{UnitFits, bytes_of}
use Rattle.dw_section.specs.Lookup.{unit_at}
use Rattle.dw_strings.specs.TextView.{sections_of}
use Rattle.dw_check.specs.declared.place.Place.{Place}
use Rattle.dw_check.specs.Ends.{AreEnds}
use Rattle.dw_check.specs.Findings.{UnitIn}

abbrev pub unit_in : Place → UnitIn
unit_in p =
    record {
      items = p.section.now.items;
      strings = sections_of p.strings.now;
      number = p.item;
      start = p.start;
      unit = p.unit.now;
    }

-- the unit is this item of the section, has a spelling, and ends within 64 bits; the texts end there
pub record IsPlace (p : Place) : Type 0 where
  pub known : unit_at p.section.now.items p.item ≡ Some p.unit.now
  pub fits : UnitFits p.unit.now
  pub ends : p.start + length (bytes_of p.unit.now) < 2 ^ 64
  pub text_ends : AreEnds (sections_of p.strings.now) p.text_ends
