-- The program's sections of texts, and what it answers, as those of the definitions.
use Rattle.std.specs.Prelude.{ℕ, List, Result, Ok, Err}
use Rattle.std.specs.Borrow.{Bor}
use Rattle.dw_strings.specs.declared.fault.StrFault.{StrFault}
use Rattle.dw_strings.specs.declared.place.TextPlace.{TextPlace}
use Rattle.dw_strings.specs.declared.place.TextPlace.TheVariants as places
use Rattle.dw_strings.specs.declared.strings.Strings.{Strings}
use Rattle.dw_strings.specs.Text.{StringSections, Named, Place, Own, InStr, InLineStr, Placed}

abbrev pub sections_of : Strings → StringSections
sections_of s = record { str = s.str.now; line_str = s.line_str.now; str_offsets = s.str_offsets.now }

-- the text that is lent, or why there is none
abbrev pub seen : Result (Bor (List ℕ)) StrFault → Named
seen (Ok text) = Ok text.now
seen (Err why) = Err why

abbrev pub place_of : TextPlace → Place
place_of (places.Own text) = Own text.now
place_of (places.Str offset) = InStr offset
place_of (places.LineStr offset) = InLineStr offset

-- where it begins, or why there is none
abbrev pub seen_place : Result TextPlace StrFault → Placed
seen_place (Ok place) = Ok (place_of place)
seen_place (Err why) = Err why
