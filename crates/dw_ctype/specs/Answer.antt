-- What is answered for an entry: the text of its type, or why none is given.
use Rattle.std.specs.Prelude.{◌≡◌, ◌<◌, ℕ, nat_le, List, length, Option, Some, None, Result, Ok, Err, if◌then◌else◌}
use Rattle.dw_tree.specs.Lent.{EntryAt}
use Rattle.dw_section.specs.Lookup.{entry}
use Rattle.dw_section.specs.declared.id.EntryId.{EntryId}
use Rattle.dw_ctype.specs.declared.fault.TypeError.{TypeError}
use Rattle.dw_ctype.specs.declared.fault.TypeError.TheVariants.{NoEntry, TypeTooBig, NoMemory}
use Rattle.dw_ctype.specs.declared.typed.Typed.{Typed}
use Rattle.dw_ctype.specs.Types.{Source, say, type_text}
use Rattle.dw_ctype.specs.Visits.{entry_text_visits, visits}

-- the text of a type with a name, if 1,024 visits are enough for it
abbrev pub answer_by : Source → Typed → List ℕ → Result (List ℕ) TypeError
answer_by s t name = if nat_le (visits s.items 64 t) 1024 then Ok (say s 64 t name) else Err TypeTooBig

abbrev pub answer_of : Source → EntryId → List ℕ → Option EntryAt → Result (List ℕ) TypeError
answer_of s id name None = Err NoEntry
answer_of s id name (Some e) =
    if nat_le (entry_text_visits s.items id e) 1024 then Ok (type_text s id e name) else Err TypeTooBig

-- the text of the type of an entry with a name, whatever memory there is
abbrev pub answer : Source → EntryId → List ℕ → Result (List ℕ) TypeError
answer s id name = answer_of s id name (entry s.items id)

-- why no text is appended where so many bytes have room: it is why none is given, or there is a longer one
abbrev pub IsRefusal : Result (List ℕ) TypeError → ℕ → TypeError → Type 0
IsRefusal (Err why) room error = error ≡ why
IsRefusal (Ok text) room error = (error ≡ NoMemory) × (room < length text)
