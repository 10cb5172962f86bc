-- Headers with their initial lengths, where they stand, and where they break (section 7.5.1).
use Rattle.std.specs.Prelude.{◌≡◌, ℕ, ◌+◌, ◌≤◌, List, ◌++◌, length, ◌⊎◌}
use Rattle.dw_leb.specs.declared.errors.Fault.{Fault}
use Rattle.dw_leb.specs.declared.errors.Reason.{Reason}
use Rattle.dw_leb.specs.declared.errors.SectionId.TheVariants.{Info}
use Rattle.dw_leb.specs.declared.order.Order.{Order}
use Rattle.dw_leb.specs.declared.order.Format.{Format}
use Rattle.dw_leb.specs.Number.{length_field, initial_length, length_limit, length_size}
use Rattle.dw_header.specs.declared.versions.Versions.{Versions}
use Rattle.dw_header.specs.declared.versions.Versions.TheVariants.{Five}
use Rattle.dw_header.specs.Header.{Header, Fields, fields, fields_under, fields_of}

-- the one spelling of a header with its unit_length
abbrev pub header_bytes : Header → ℕ → List ℕ
header_bytes h n = (length_field h.order).spell (h.format, n) ++ (fields h.order h.format).spell (fields_of h)

-- the bytes of a header, its length field included
abbrev pub header_size : Header → ℕ
header_size h = length_size h.format + length ((fields h.order h.format).spell (fields_of h))

-- ---- where the versions that are accepted are told

-- A header is spelled at the front: an initial length n, and the fields within it.
pub record SpelledHeaderUnder (versions : Versions) (order : Order) (bytes : List ℕ) (format : Format) (n : ℕ)
    (x : Fields) (rest : List ℕ) : Type 0 where
  pub length_fits : (initial_length order 0).Fits (format, n)
  pub fields_fit : (fields_under versions order format).Fits x
  pub split : bytes ≡ (length_field order).spell (format, n) ++ ((fields order format).spell x ++ rest)
  pub within : length ((fields order format).spell x) ≤ n

-- the header breaks in its initial length, or behind it in its fields, with lim the length read
abbrev pub HeaderBreaksUnder : Versions → Order → List ℕ → ℕ → Reason → Type 0
HeaderBreaksUnder versions order bytes offset reason = (initial_length order 0).Break bytes length_limit offset reason
    ⊎ ((format : Format) × (n : ℕ) × (rest : List ℕ) × (own : ℕ) × (initial_length order 0).Fits (format, n)
    × (bytes ≡ (length_field order).spell (format, n) ++ rest)
    × (offset ≡ length ((length_field order).spell (format, n)) + own)
    × (fields_under versions order format).Break rest n own reason)

-- a header in this order, and its unit_length, stand at the front of the bytes
abbrev pub HeaderAtUnder : Versions → Order → List ℕ → Header → ℕ → Type 0
HeaderAtUnder versions order bytes h n =
    (h.order ≡ order) × (rest : List ℕ) × SpelledHeaderUnder versions order bytes h.format n (fields_of h) rest

-- the fault of a header that can't be read
abbrev pub HeaderFaultUnder : Versions → Order → List ℕ → Fault → Type 0
HeaderFaultUnder versions order bytes f = (f.section ≡ Info) × HeaderBreaksUnder versions order bytes f.offset f.reason

-- ---- where version 5 alone is accepted

abbrev pub SpelledHeader : Order → List ℕ → Format → ℕ → Fields → List ℕ → Type 0
SpelledHeader = SpelledHeaderUnder Five

abbrev pub HeaderBreaks : Order → List ℕ → ℕ → Reason → Type 0
HeaderBreaks = HeaderBreaksUnder Five

abbrev pub HeaderAt : Order → List ℕ → Header → ℕ → Type 0
HeaderAt = HeaderAtUnder Five

abbrev pub HeaderFault : Order → List ℕ → Fault → Type 0
HeaderFault = HeaderFaultUnder Five
