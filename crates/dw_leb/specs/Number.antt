-- Numbers in bytes: fixed sizes, LEB128 with its written width (section 7.6), initial lengths (sections 7.2.2 and 7.4),
-- and lists of bytes. In a break, bytes is the rest of the input and lim the count of bytes that are left to the unit's
-- end.
use Rattle.std.specs.Prelude.{◌≡◌, ℕ, zero, suc, ◌+◌, ◌-◌, ◌*◌, ◌/◌, ◌%◌, ◌^◌, ◌<◌, ◌≤◌, min, ◌⊎◌, List, [], ◌∷◌, ◌++◌, length, take, reverse, Option, Some, None, nat_lt, nat_le, ◌==◌, if◌then◌else◌, ℤ, pos, negsuc, ◌&&◌}
use Rattle.std.specs.List.{AllByRecursion}
pub use Rattle.dw_leb.specs.declared.order.Order.{Order}
pub use Rattle.dw_leb.specs.declared.order.Order.TheVariants.{Little, Big}
pub use Rattle.dw_leb.specs.declared.order.Format.{Format}
pub use Rattle.dw_leb.specs.declared.order.Format.TheVariants.{Dwarf32, Dwarf64}
use Rattle.dw_leb.specs.Part.{Reason, Truncated, PastUnit, LebTooLong, LebTooBig, ReservedLength, LengthTooBig, Breaks, Part, ◌then◌, judged, whole, seen, viewed, optional}

-- the lowest n digits of x in a base, the least first
abbrev pub digits : ℕ → ℕ → ℕ → List ℕ
digits base zero x = []
digits base (suc n) x = x % base ∷ digits base n (x / base)

abbrev pub fixed_bytes : Order → ℕ → ℕ → List ℕ
fixed_bytes Little n x = digits 256 n x
fixed_bytes Big n x = reverse (digits 256 n x)

-- n bytes can't be taken: past the unit's end first, then past the input
abbrev pub Short : ℕ → Breaks
Short n bytes lim offset reason =
    (offset ≡ 0) × ((lim < n) × (reason ≡ PastUnit) ⊎ (n ≤ lim) × (length bytes < n) × (reason ≡ Truncated))

-- a number in n bytes
abbrev pub fixed : Order → ℕ → Part ℕ
fixed order n = record { spell = fixed_bytes order n; Fits = λ x. x < 256 ^ n; Break = Short n }

-- n bytes as they are
abbrev pub content : ℕ → Part (List ℕ)
content n = record { spell = λ bytes. bytes; Fits = λ bytes. length bytes ≡ n; Break = Short n }

-- the reason where m bytes were looked at and the end was not among them
abbrev pub unended : ℕ → ℕ → Reason
unended m lim = if m == lim then PastUnit else Truncated

-- bytes that are not 0, and a 0
abbrev pub text : Part (List ℕ)
text = record {
  spell = λ bytes. bytes ++ 0 ∷ [];
  Fits = AllByRecursion (λ b. 0 < b);
  Break = λ bytes lim offset reason. let m = min (length bytes) lim in
      (offset ≡ 0) × AllByRecursion (λ b. 0 < b) (take m bytes) × (reason ≡ unended m lim);
}

-- bit 7 set on all but the last
abbrev pub marked : List ℕ → List ℕ
marked [] = []
marked (d ∷ []) = d ∷ []
marked (d ∷ e ∷ ds) = (d + 128) ∷ marked (e ∷ ds)

-- the reason where none of the first 16 of m bytes ends a number
abbrev pub unmarked : ℕ → ℕ → Reason
unmarked m lim = if nat_le 16 m then LebTooLong else unended m lim

-- 1 to 16 groups of seven bits
abbrev pub groups : Part (List ℕ)
groups = record {
  spell = marked;
  Fits = λ ds. (0 < length ds) × (length ds ≤ 16) × AllByRecursion (λ d. d < 128) ds;
  Break = λ bytes lim offset reason. let m = min (length bytes) lim in
      (offset ≡ 0) × AllByRecursion (λ b. 128 ≤ b) (take (min 16 m) bytes) × (reason ≡ unmarked m lim);
}

-- an unsigned number with its written width
pub record Unsigned : Type 0 where
  pub value : ℕ
  pub width : ℕ

-- a signed number with its written width
pub record Signed : Type 0 where
  pub value : ℤ
  pub width : ℕ

-- the base-128 digits of the value, which the width holds
abbrev pub uleb_groups : Unsigned → List ℕ
uleb_groups u = digits 128 u.width u.value

-- so many groups hold the value
abbrev pub UlebHolds : Unsigned → Type 0
UlebHolds u = u.value < 128 ^ u.width

-- refused above 2 ^ 64 - 1
abbrev pub above_u64 : Unsigned → Option Reason
above_u64 u = if nat_lt u.value (2 ^ 64) then None else Some LebTooBig

-- ULEB128: a value of at most 64 bits
abbrev pub uleb : Part Unsigned
uleb = judged (viewed uleb_groups UlebHolds groups) above_u64

-- what has an unsigned spelling: 1 to 16 bytes that hold the value, and a value of at most 64 bits
pub record UlebFits (u : Unsigned) : Type 0 where
  pub some : 1 ≤ u.width
  pub most : u.width ≤ 16
  pub held : u.value < 128 ^ u.width
  pub range : u.value < 2 ^ 64

-- the number itself, and of a negative one its distance from -1 (negsuc n is -n - 1), so that both ends of a range in
-- two's complement are one bound
abbrev pub extent : ℤ → ℕ
extent (pos n) = n
extent (negsuc n) = n

-- the value in two's complement of so many groups: modulo 128 ^ width
abbrev pub residue : ℕ → ℤ → ℕ
residue width (pos n) = n
residue width (negsuc n) = 128 ^ width - suc n

-- the base-128 digits of the value in two's complement
abbrev pub sleb_groups : Signed → List ℕ
sleb_groups s = digits 128 s.width (residue s.width s.value)

-- -64 * 128 ^ (width - 1) ≤ value < 64 * 128 ^ (width - 1)
abbrev pub SlebHolds : Signed → Type 0
SlebHolds s = 2 * extent s.value < 128 ^ s.width

-- refused outside of -2 ^ 63 to 2 ^ 63 - 1
abbrev pub outside_i64 : Signed → Option Reason
outside_i64 s = if nat_lt (extent s.value) (2 ^ 63) then None else Some LebTooBig

-- SLEB128: the same groups in two's complement
abbrev pub sleb : Part Signed
sleb = judged (viewed sleb_groups SlebHolds groups) outside_i64

-- what has a signed spelling
pub record SlebFits (s : Signed) : Type 0 where
  pub some : 1 ≤ s.width
  pub most : s.width ≤ 16
  pub held : 2 * extent s.value < 128 ^ s.width
  pub range : extent s.value < 2 ^ 63

-- how many bytes an initial length has, and a section offset
abbrev pub length_size : Format → ℕ
length_size Dwarf32 = 4
length_size Dwarf64 = 12

abbrev pub offset_size : Format → ℕ
offset_size Dwarf32 = 4
offset_size Dwarf64 = 8

-- refused from 0xfffffff0 to 0xfffffffe
abbrev pub reserved : ℕ → Option Reason
reserved x = if nat_le 0xfffffff0 x && nat_lt x 0xffffffff then Some ReservedLength else None

-- a length of the 32-bit format is its own four bytes; one of the 64-bit format follows four bytes ff
abbrev pub as_initial : Format × ℕ → Option (ℕ × Option ℕ)
as_initial (Dwarf32, n) = Some (n, None)
as_initial (Dwarf64, n) = Some (0xffffffff, Some n)

-- refused where a unit whose length field begins at start ends past 2 ^ 63 - 1
abbrev pub too_far : ℕ → Format × ℕ → Option Reason
too_far start x = if nat_lt (start + length_size x.0 + x.1) (2 ^ 63) then None else Some LengthTooBig

-- The spelling of an initial length: the format, and the count of bytes after the field. One field, its ff ff ff ff
-- included.
abbrev pub length_field : Order → Part (Format × ℕ)
length_field order =
    whole (seen as_initial (judged (fixed order 4) reserved then λ x. optional (x == 0xffffffff) (fixed order 8)))

-- the initial length of a unit that begins at start: so spelled, and with the unit's end where it may be
abbrev pub initial_length : Order → ℕ → Part (Format × ℕ)
initial_length order start = judged (length_field order) (too_far start)

-- The lim under which an initial length is read: its largest size. What is read alone has no end of its own, and no
-- field of the length reaches past this, so that it breaks for Truncated and never for PastUnit.
abbrev pub length_limit : ℕ
length_limit = 12

-- the lengths that each format can spell
abbrev pub FitsLength : Format → ℕ → Type 0
FitsLength Dwarf32 n = n < 0xffff_fff0
FitsLength Dwarf64 n = n < 2 ^ 64
