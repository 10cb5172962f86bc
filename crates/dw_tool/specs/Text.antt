-- The texts of numbers, names and bytes.
use Rattle.std.specs.Prelude.{ℕ, ◌/◌, ◌%◌, ◌^◌, ◌==◌, ◌||◌, ◌&&◌, nat_le, Bool, false, List, [], ◌∷◌, ◌++◌, length, unwrap_or, codes, decimal, if◌then◌else◌}
use Rattle.std.specs.Fmt.{digits, digit_glyph}
use Rattle.dw_tool.specs.Names.{attribute_names, name_in, tag_names}

-- the number in lower-case hexadecimal digits, with no leading zeros
abbrev pub hexadecimal : ℕ → List ℕ
hexadecimal number = codes "0x" ++ digits 16 false number

-- a number behind its label
abbrev pub labelled : List ℕ → ℕ → List ℕ
labelled label number = label ++ hexadecimal number

abbrev pub labelled_decimal : List ℕ → ℕ → List ℕ
labelled_decimal label number = label ++ decimal number

-- the byte in two lower-case hexadecimal digits
abbrev pub two_digits : ℕ → List ℕ
two_digits byte = digit_glyph false (byte / 16) ∷ digit_glyph false (byte % 16) ∷ []

-- the number in four of them
abbrev pub four_digits : ℕ → List ℕ
four_digits number =
    digit_glyph false (number / 16 ^ 3 % 16) ∷ digit_glyph false (number / 16 ^ 2 % 16)
    ∷ digit_glyph false (number / 16 % 16) ∷ digit_glyph false (number % 16) ∷ []

-- the number in eight of them
abbrev pub eight_digits : ℕ → List ℕ
eight_digits number =
    two_digits (number / 16 ^ 6)
    ++ (two_digits (number / 16 ^ 4 % 256) ++ (two_digits (number / 256 % 256) ++ two_digits (number % 256)))

-- a tag, and an attribute, by its name or else its number
abbrev pub tag_text : ℕ → List ℕ
tag_text tag = codes "DW_TAG_" ++ unwrap_or (name_in tag_names tag) (hexadecimal tag)

abbrev pub attribute_text : ℕ → List ℕ
attribute_text attribute =
    codes "DW_AT_" ++ unwrap_or (name_in attribute_names attribute) (hexadecimal attribute)

-- a text for each byte, one after the other
abbrev pub each : (ℕ → List ℕ) → List ℕ → List ℕ
each text [] = []
each text (byte ∷ rest) = text byte ++ each text rest

abbrev pub is_quote_or_backslash : ℕ → Bool
is_quote_or_backslash byte = byte == 34 || byte == 92

abbrev pub is_printable : ℕ → Bool
is_printable byte = nat_le 0x20 byte && nat_le byte 0x7e

abbrev pub escaped : ℕ → List ℕ
escaped byte = if is_quote_or_backslash byte then 92 ∷ byte ∷ []
    else (if is_printable byte then byte ∷ [] else codes "\\x" ++ two_digits byte)

-- the bytes between double quotes
abbrev pub quoted : List ℕ → List ℕ
quoted bytes = codes "\"" ++ (each escaped bytes ++ codes "\"")

-- the digits of the bytes after a space, where there are any
abbrev pub spaced_digits : List ℕ → List ℕ
spaced_digits bytes = if length bytes == 0 then [] else codes " " ++ each two_digits bytes

-- how many bytes there are, and then their digits
abbrev pub block : List ℕ → List ℕ
block bytes = codes "[" ++ (decimal (length bytes) ++ (codes "]" ++ spaced_digits bytes))
