-- How the code finds a LEB128 number: first its last byte, then its value; and how it reads fixed numbers and lengths.
use Rattle.std.specs.Prelude.{◌≡◌, ℕ, ◌+◌, ◌^◌, ◌%◌, min, Bool, List, [], ◌∷◌, length, take, drop, position, Option, Some, None, Result, Ok, Err, nat_lt, if◌then◌else◌}
use Rattle.byteorder.specs.Endian.{big_number, little_number, big_bytes, little_bytes}
use Rattle.dw_leb.specs.Part.{Reason, LebTooBig, PastUnit, Truncated, ReservedLength, LengthTooBig}
use Rattle.dw_leb.specs.Number.{Order, Little, Big, Format, Dwarf32, Dwarf64, Unsigned, Signed, unmarked, extent, length_size}
use Rattle.dw_leb.specs.ReadNumber.{undigits, signed_from, read_fixed}
use Rattle.dw_leb.specs.Reader.{answer}

-- a byte without bit 7, which is the last of a number
abbrev pub is_last : ℕ → Bool
is_last b = nat_lt b 128

-- the groups of seven bits
abbrev pub low_bits : List ℕ → List ℕ
low_bits [] = []
low_bits (b ∷ bytes) = b % 128 ∷ low_bits bytes

-- the number of these groups
abbrev pub number : List ℕ → ℕ
number bytes = undigits 128 (low_bits bytes)

-- the front up to the first last byte among the first 16 of m bytes, or why there is none
abbrev pub front_found : List ℕ → ℕ → ℕ → Option ℕ → Result (List ℕ) Reason
front_found bytes lim m None = Err (unmarked m lim)
front_found bytes lim m (Some i) = Ok (take (i + 1) bytes)

abbrev pub front_at : List ℕ → ℕ → Result (List ℕ) Reason
front_at bytes lim =
    let m = min (length bytes) lim in front_found bytes lim m (position is_last (take (min 16 m) bytes))

abbrev pub unsigned_scan : Result (List ℕ) Reason → Result Unsigned Reason
unsigned_scan (Err reason) = Err reason
unsigned_scan (Ok front) =
    if nat_lt (number front) (2 ^ 64) then Ok (record { value = number front; width = length front }) else Err LebTooBig

abbrev pub signed_scan : Result (List ℕ) Reason → Result Signed Reason
signed_scan (Err reason) = Err reason
signed_scan (Ok front) = let z = signed_from (length front) (number front) in
    if nat_lt (extent z) (2 ^ 63) then Ok (record { value = z; width = length front }) else Err LebTooBig

-- the front has the width that was found
abbrev pub HasWidth : List ℕ → Result ℕ Reason → Result (List ℕ) Reason → Type 0
HasWidth bytes (Ok width) front = front ≡ Ok (take width bytes)
HasWidth bytes (Err reason) front = front ≡ Err reason

-- ---- fixed numbers and lengths

-- the number in the first n bytes
abbrev pub fixed_number : Order → ℕ → List ℕ → ℕ
fixed_number Little n bytes = little_number n bytes
fixed_number Big n bytes = big_number n bytes

abbrev pub fixed_scan : Order → ℕ → List ℕ → ℕ → Result ℕ Reason
fixed_scan order n bytes lim =
    if nat_lt lim n then Err PastUnit
    else (if nat_lt (length bytes) n then Err Truncated else Ok (fixed_number order n bytes))

-- the n bytes of a number
abbrev pub fixed_cells : Order → ℕ → ℕ → List ℕ
fixed_cells Little n x = little_bytes n x
fixed_cells Big n x = big_bytes n x

-- a length at start, unless its end would pass 2 ^ 63 - 1
abbrev pub length_within : ℕ → Format → ℕ → Result (Format × ℕ) Reason
length_within start format n =
    if nat_lt (start + length_size format + n) (2 ^ 63) then Ok (format, n) else Err LengthTooBig

abbrev pub length_wide : ℕ → Result ℕ Reason → Result (Format × ℕ) Reason
length_wide start (Err reason) = Err reason
length_wide start (Ok n) = length_within start Dwarf64 n

abbrev pub length_of : Order → ℕ → List ℕ → Result ℕ Reason → Result (Format × ℕ) Reason
length_of order start bytes (Err reason) = Err reason
length_of order start bytes (Ok first) =
    if nat_lt first 0xffff_fff0 then length_within start Dwarf32 first
    else (if nat_lt first 0xffff_ffff then Err ReservedLength
    else length_wide start (answer (read_fixed order 8 (drop 4 bytes) 8)))

abbrev pub length_scan : Order → ℕ → List ℕ → Result (Format × ℕ) Reason
length_scan order start bytes = length_of order start bytes (answer (read_fixed order 4 bytes 12))
