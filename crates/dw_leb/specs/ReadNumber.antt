-- Numbers, texts and lengths read by a plain, slow reader.
use Rattle.std.specs.Prelude.{ℕ, suc, ◌+◌, ◌-◌, ◌*◌, ◌^◌, min, List, [], ◌∷◌, length, take, reverse, Option, Some, None, nat_lt, ◌==◌, if◌then◌else◌, ℤ, pos, negsuc}
use Rattle.dw_leb.specs.Part.{Truncated, PastUnit}
use Rattle.dw_leb.specs.Number.{Order, Little, Big, Format, Dwarf32, Dwarf64, unended, unmarked, Unsigned, Signed, above_u64, outside_i64, reserved, too_far}
use Rattle.dw_leb.specs.Reader.{Outcome, Found, Broken, Reader, made, checked, one_field, read_optional, ◌and_then◌}

-- the number of these digits in a base, the least first
abbrev pub undigits : ℕ → List ℕ → ℕ
undigits base [] = 0
undigits base (d ∷ ds) = d + base * undigits base ds

-- the bytes, the least significant first
abbrev pub ordered : Order → List ℕ → List ℕ
ordered Little bytes = bytes
ordered Big bytes = reverse bytes

-- n bytes, or why not
abbrev pub bytes_of : ℕ → Reader (List ℕ)
bytes_of n bytes lim =
    if nat_lt lim n then Broken 0 PastUnit
    else (if nat_lt (length bytes) n then Broken 0 Truncated else Found (take n bytes) n)

abbrev pub read_fixed : Order → ℕ → Reader ℕ
read_fixed order n = made (λ bytes. undigits 256 (ordered order bytes)) (bytes_of n)

-- the bytes before the first 0, or none
abbrev pub before_zero : List ℕ → Option (List ℕ)
before_zero [] = None
before_zero (b ∷ bytes) =
    if b == 0 then Some [] else elim (before_zero bytes) [ None ↦ None | Some front ↦ Some (b ∷ front) ]

abbrev pub text_outcome : ℕ → ℕ → Option (List ℕ) → Outcome (List ℕ)
text_outcome m lim None = Broken 0 (unended m lim)
text_outcome m lim (Some front) = Found front (length front + 1)

abbrev pub read_text : Reader (List ℕ)
read_text bytes lim = let m = min (length bytes) lim in text_outcome m lim (before_zero (take m bytes))

-- the groups up to the first byte below 128, or none
abbrev pub groups_of : List ℕ → Option (List ℕ)
groups_of [] = None
groups_of (b ∷ bytes) =
    if nat_lt b 128 then Some (b ∷ [])
    else elim (groups_of bytes) [ None ↦ None | Some front ↦ Some ((b - 128) ∷ front) ]

abbrev pub groups_outcome : ℕ → ℕ → Option (List ℕ) → Outcome (List ℕ)
groups_outcome m lim None = Broken 0 (unmarked m lim)
groups_outcome m lim (Some front) = Found front (length front)

abbrev pub read_groups : Reader (List ℕ)
read_groups bytes lim = let m = min (length bytes) lim in groups_outcome m lim (groups_of (take (min 16 m) bytes))

abbrev pub uleb_from : List ℕ → Unsigned
uleb_from ds = record { value = undigits 128 ds; width = length ds }

-- two's complement of so many groups
abbrev pub signed_from : ℕ → ℕ → ℤ
signed_from width n = if nat_lt (2 * n) (128 ^ width) then pos n else negsuc (128 ^ width - suc n)

abbrev pub sleb_from : List ℕ → Signed
sleb_from ds = record { value = signed_from (length ds) (undigits 128 ds); width = length ds }

abbrev pub read_uleb : Reader Unsigned
read_uleb = checked (made uleb_from read_groups) above_u64

abbrev pub read_sleb : Reader Signed
read_sleb = checked (made sleb_from read_groups) outside_i64

-- the format and the length that the first number tells, or the first and the second
abbrev pub initial_from : ℕ × Option ℕ → Format × ℕ
initial_from (n, None) = (Dwarf32, n)
initial_from (n, Some m) = (Dwarf64, m)

abbrev pub read_length_field : Order → Reader (Format × ℕ)
read_length_field order =
    one_field
    (made initial_from
    (checked (read_fixed order 4) reserved and_then λ x. read_optional (x == 0xffffffff) (read_fixed order 8)))

abbrev pub read_length : Order → ℕ → Reader (Format × ℕ)
read_length order start = checked (read_length_field order) (too_far start)
