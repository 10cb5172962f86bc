-- A section in which one number is another, by the offset of its entry.
use Rattle.std.specs.Prelude.{ℕ, ℤ, Option, Some, None, Result, Ok, Err}
use Rattle.dw_section.specs.declared.id.EntryId.{EntryId}
use Rattle.dw_section.specs.declared.set_refusal.SetRefusal.{SetRefusal}
use Rattle.dw_section.specs.Lookup.{find}
use Rattle.dw_section.specs.Section.{WholeSection}
use Rattle.dw_section.specs.SetNumber.{edited, set_refusal}
use Rattle.dw_tool.specs.declared.status.Refused.{Refused}
use Rattle.dw_tool.specs.declared.status.Refused.TheVariants.{NoEntry}
use Rattle.dw_tool.specs.Status.{refused_set}

abbrev pub unless_refused : Option SetRefusal → WholeSection → Result WholeSection Refused
unless_refused None s = Ok s
unless_refused (Some why) s = Err (refused_set why)

abbrev pub set_in : WholeSection → ℕ → ℤ → Option EntryId → Result WholeSection Refused
set_in s name x None = Err NoEntry
set_in s name x (Some id) = unless_refused (set_refusal s id name x) (edited s id name x)

-- of the entry at the offset the first attribute of the name has the number; or why not
abbrev pub set_at : ℕ → ℕ → ℤ → WholeSection → Result WholeSection Refused
set_at offset name x s = set_in s name x (find s.items offset)
