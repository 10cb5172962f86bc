-- Offsets at which entries of a unit begin, a bit for each offset.
use Rattle.std.specs.Prelude.{◌≡◌, ℕ, ◌/◌, ◌%◌, List, Bool, true, Ok, slice_index, ◌==◌}
use Rattle.std.specs.Int.{bit_at}
use Rattle.dw_unit.specs.Unit.{WholeUnit}
use Rattle.dw_section.specs.Reference.{in_unit}

abbrev pub is_marked : List ℕ → ℕ → Bool
is_marked words offset = bit_at (slice_index words (offset / 64)) (offset % 64) == 1

-- an entry of the unit begins at each offset that is marked
abbrev pub AreEntryOffsets : WholeUnit → List ℕ → Type 0
AreEntryOffsets u words =
    (item offset : ℕ) → is_marked words offset ≡ true
    → in_unit item u offset ≡ Ok (record { item = item; offset = offset })

-- no other offset than this one was added
abbrev pub Adds : ℕ → List ℕ → List ℕ → Type 0
Adds new old words = (offset : ℕ) → ¬ (offset ≡ new) → is_marked words offset ≡ true → is_marked old offset ≡ true
