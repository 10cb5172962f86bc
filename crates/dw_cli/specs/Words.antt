-- Words of the command line: the numbers that they spell, and the attributes that they name.
use Rattle.std.specs.Prelude.{ℕ, ◌^◌, ◌&&◌, Bool, length, drop, Option, Some, None, nat_lt, ℤ, pos, neg_ℤ, codes, if◌then◌else◌, option_map, ◌==◌, ◌++◌}
use Rattle.std.specs.List.{list_all, starts_with}
use Rattle.std.specs.Option.{option_and_then}
use Rattle.std.specs.Char.{is_digit}
use Rattle.std.specs.Str.Parse.{digits_value}
use Rattle.clap.specs.Words.{Text}
use Rattle.dw_tool.specs.Names.{attribute_names, number_named}
use Rattle.dw_cli.specs.declared.word.Argument.{Argument}
use Rattle.dw_cli.specs.declared.word.Argument.TheVariants.{Offset, Attribute, Value}
use Rattle.dw_cli.specs.declared.word.BadWord.{BadWord}

-- one digit of the base or more, and nothing else
abbrev pub is_numeral : ℕ → Text → Bool
is_numeral base digits = nat_lt 0 (length digits) && list_all (λ c. is_digit c base) digits

-- the number that the digits spell in the base, or none where they aren't digits
abbrev pub number_in : ℕ → Text → Option ℕ
number_in base digits = if is_numeral base digits then Some (digits_value base digits) else None

-- the word begins with this text
abbrev pub begins_with : Text → Text → Bool
begins_with front word = starts_with (λ a b. a == b) word front

-- decimal digits, or `0x` and hexadecimal digits of either case
abbrev pub number_of : Text → Option ℕ
number_of word = if begins_with (codes "0x") word then number_in 16 (drop 2 word) else number_in 10 word

-- the number, if it is below the limit
abbrev pub below : ℕ → ℕ → Option ℕ
below limit number = if nat_lt number limit then Some number else None

-- OFFSET: a number below 2^64
abbrev pub offset_in : Text → Option ℕ
offset_in word = option_and_then (below (2 ^ 64)) (number_of word)

-- VALUE: a number below 2^127, which a flag makes negative
abbrev pub value_in : Bool → Text → Option ℤ
value_in minus word =
    option_map (λ n. if minus then neg_ℤ (pos n) else pos n) (option_and_then (below (2 ^ 127)) (number_of word))

-- ATTR: the name of an attribute as it is printed, or a number below 2^64
abbrev pub attribute_in : Text → Option ℕ
attribute_in word =
    if begins_with (codes "DW_AT_") word then number_named attribute_names (drop 6 word) else offset_in word

-- ---- what the user is told of a word that is none of these

-- the name of an argument in the program's usage
abbrev pub argument_name : Argument → Text
argument_name Offset = codes "OFFSET"
argument_name Attribute = codes "ATTR"
argument_name Value = codes "VALUE"

-- which words the argument may be
abbrev pub wanted : Argument → Text
wanted Offset = codes "a number below 2^64 is wanted, in decimal or in hexadecimal after 0x"
wanted Attribute =
    codes "a name like DW_AT_name is wanted, or a number below 2^64, in decimal or in hexadecimal after 0x"
wanted Value = codes "a number below 2^127 is wanted, in decimal or in hexadecimal after 0x"

-- the message, with the end of its last line
abbrev pub bad_word_text : BadWord → Text
bad_word_text bad =
    codes "error: invalid value '"
    ++ (bad.word.now ++ (codes "' for '<" ++ (argument_name bad.argument ++ (codes ">': " ++ (wanted bad.argument
    ++ codes "\n\nFor more information, try '--help'.\n")))))
