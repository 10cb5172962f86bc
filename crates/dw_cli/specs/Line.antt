-- The command line: what the program takes, and what a line says.
use Rattle.std.specs.Prelude.{◌≡◌, ◌≢◌, ◌⊎◌, ℕ, ℤ, Bool, true, List, [], ◌∷◌, Option, Some, None, is_some, option_map, codes, false, if◌then◌else◌, Result, Ok, Err, IsErrAnd}
use Rattle.std.specs.IoError.{error_kind}
use Rattle.std.specs.declared.io.Error.{Error as IoError}
use Rattle.std.specs.Option.{option_and_then, option_map_or}
use Rattle.std.specs.Borrow.{Bor}
use Rattle.std.specs.Str.{bytes_eq}
use Rattle.clap.specs.Words.{App, Row, Rule, Text, first_of, new_app, new_rule, subcommand_of, with_rule, with_subcommand}
use Rattle.clap.specs.Faults.{fault_of}
use Rattle.clap.specs.Kinds.{IsAmong, Kinds}
use Rattle.clap.specs.Values.{kind_of}
use Rattle.clap.specs.Simple.{on_top}
use Rattle.clap.specs.declared.builder.action.ArgAction.TheVariants.{Set, SetTrue}
use Rattle.clap.specs.declared.error.Error.{Error}
use Rattle.clap.specs.declared.error.kind.ErrorKind.{ErrorKind as Kind}
use Rattle.clap.specs.declared.error.kind.ErrorKind.TheVariants.{DisplayHelp, DisplayVersion, OutOfMemory, ValueValidation}
use Rattle.dw_leb.specs.declared.order.Order.{Order}
use Rattle.dw_leb.specs.declared.order.Order.TheVariants.{Little, Big}
use Rattle.dw_header.specs.declared.versions.Versions.{Versions}
use Rattle.dw_header.specs.declared.versions.Versions.TheVariants.{Five, FourAndFive}
use Rattle.dw_tool.specs.declared.command.Command.{Command}
use Rattle.dw_tool.specs.declared.command.Command.TheVariants as command
use Rattle.dw_tool.specs.declared.failure.Failure.{Failure}
use Rattle.dw_tool.specs.declared.failure.Failure.TheVariants as failure
use Rattle.dw_tool.specs.Failure.{FailsAs}
use Rattle.dw_cli.specs.declared.outcome.Line.{Line}
use Rattle.dw_cli.specs.declared.outcome.LineError.{LineError}
use Rattle.dw_cli.specs.declared.outcome.LineError.TheVariants as outcome
use Rattle.dw_cli.specs.declared.word.Argument.{Argument}
use Rattle.dw_cli.specs.declared.word.Argument.TheVariants.{Offset, Attribute, Value}
use Rattle.dw_cli.specs.declared.word.BadWord.{BadWord}
use Rattle.dw_cli.specs.Words.{attribute_in, offset_in, value_in}

-- ---- what the program takes

-- an option that has to be there, with a path
abbrev pub path_option : Text → Rule
path_option name = record (new_rule name) {
  long = Some name;
  action = Some Set;
  required = true;
  value_names = 1;
}

-- an option that may be there, with a path
abbrev pub optional_path : Text → Rule
optional_path name = record (new_rule name) {
  long = Some name;
  action = Some Set;
  value_names = 1;
}

-- a word that has to be there, behind the subcommand
abbrev pub word : Text → Rule
word name = record (new_rule name) { action = Some Set; required = true; value_names = 1 }

-- an option without a value, that may be there
abbrev pub flag : Text → Rule
flag name = record (new_rule name) { long = Some name; action = Some SetTrue }

-- the files of the sections with entries
abbrev pub with_entry_sections : App → App
with_entry_sections app = with_rule (with_rule app (path_option (codes "info"))) (path_option (codes "abbrev"))

-- the files of the sections with texts
abbrev pub with_text_sections : App → App
with_text_sections app = with_rule (with_rule app (optional_path (codes "str"))) (optional_path (codes "line-str"))

abbrev pub with_both_flags : App → App
with_both_flags app = with_rule (with_rule app (flag (codes "big"))) (flag (codes "v4"))

-- a subcommand, with the options that each has
abbrev pub subcommand : Text → App
subcommand name =
    with_both_flags
    (with_rule (with_text_sections (with_entry_sections (new_app name))) (optional_path (codes "str-offsets")))

-- `find`, with the name that is looked for
abbrev pub finder : App
finder = with_rule (subcommand (codes "find")) (word (codes "name"))

-- `type`, with the offset of an entry
abbrev pub type_finder : App
type_finder = with_rule (subcommand (codes "type")) (word (codes "offset"))

-- an entry, an attribute of it and the number that it gets
abbrev pub with_edit : App → App
with_edit app =
    with_rule (with_rule (with_rule app (word (codes "offset"))) (word (codes "attribute"))) (word (codes "value"))

-- `set`, with the number's sign as a flag
abbrev pub setter : App
setter = with_edit (with_rule (subcommand (codes "set")) (flag (codes "minus")))

-- the program without its subcommands: one of them has to be there
abbrev pub bare_program : App
bare_program = on_top (λ s. record s {
  no_binary_name = true;
  subcommand_required = true;
}) (new_app (codes "dwarf"))

-- the subcommands that write text of the entries
abbrev pub showing_program : App
showing_program = with_subcommand (with_subcommand bare_program (subcommand (codes "show")).top) finder.top

-- and those that write what is derived from them
abbrev pub asking_program : App
asking_program = with_subcommand (with_subcommand showing_program type_finder.top) (subcommand (codes "check")).top

-- and those that write bytes
abbrev pub program : App
program = with_subcommand (with_subcommand asking_program setter.top) (subcommand (codes "copy")).top

-- ---- what a line says

-- a flag that was given has the value `true`
abbrev pub is_set : Option Text → Bool
is_set flag = option_map_or (λ value. bytes_eq value (codes "true")) flag false

-- what the words of these arguments spell and name, where they do
abbrev pub offset_given : List Row → Option ℕ
offset_given rows = option_and_then offset_in (first_of (codes "offset") rows)

abbrev pub attribute_given : List Row → Option ℕ
attribute_given rows = option_and_then attribute_in (first_of (codes "attribute") rows)

-- `--minus` makes the value negative
abbrev pub value_read : List Row → Text → Option ℤ
value_read rows = value_in (is_set (first_of (codes "minus") rows))

abbrev pub value_given : List Row → Option ℤ
value_given rows = option_and_then (value_read rows) (first_of (codes "value") rows)

-- the subcommand of this name, with what its matches give it
abbrev pub IsCommand : Text → List Row → Command → Type 0
IsCommand name rows command.Show = name ≡ codes "show"
IsCommand name rows (command.Find wanted) = (name ≡ codes "find") × (first_of (codes "name") rows ≡ Some wanted.now)
IsCommand name rows (command.TypeOf offset) = (name ≡ codes "type") × (offset_given rows ≡ Some offset)
IsCommand name rows command.Check = name ≡ codes "check"
IsCommand name rows (command.SetNumber offset attribute value) =
    (name ≡ codes "set") × (offset_given rows ≡ Some offset) × (attribute_given rows ≡ Some attribute)
    × (value_given rows ≡ Some value)
IsCommand name rows command.Copy = name ≡ codes "copy"

-- this word was given for an argument that reads words so, and it isn't one of those
abbrev pub IsOutside : {X : Type 0} → (Text → Option X) → Text → List Row → Text → Type 0
IsOutside read id rows word = (first_of id rows ≡ Some word) × (read word ≡ None)

abbrev pub IsBadWord : {X : Type 0} → Argument → (Text → Option X) → Text → List Row → BadWord → Type 0
IsBadWord argument read id rows bad = (bad.argument ≡ argument) × IsOutside read id rows bad.word.now

-- The subcommand of this name has the argument, and this word of it is the first that is no word of the grammar, in the
-- order OFFSET, ATTR, VALUE.
abbrev pub IsBadAt : Argument → Text → List Row → Text → Type 0
IsBadAt Offset name rows word =
    ((name ≡ codes "type") ⊎ (name ≡ codes "set")) × IsOutside offset_in (codes "offset") rows word
IsBadAt Attribute name rows word =
    (name ≡ codes "set") × (is_some (offset_given rows) ≡ true) × IsOutside attribute_in (codes "attribute") rows word
IsBadAt Value name rows word =
    (name ≡ codes "set") × (is_some (offset_given rows) ≡ true) × (is_some (attribute_given rows) ≡ true)
    × IsOutside (value_read rows) (codes "value") rows word

-- the names of the subcommands
abbrev pub names : List Text
names = codes "show" ∷ codes "find" ∷ codes "type" ∷ codes "check" ∷ codes "set" ∷ codes "copy" ∷ []

abbrev pub IsOneOf : List Text → Text → Type 0
IsOneOf [] name = ⊥
IsOneOf (known ∷ rest) name = (name ≡ known) ⊎ IsOneOf rest name

-- `--big` was given
abbrev pub order_by : Option Text → Order
order_by flag = if is_set flag then Big else Little

-- `--v4` was given
abbrev pub versions_by : Option Text → Versions
versions_by flag = if is_set flag then FourAndFive else Five

-- the path of an option that may be there
abbrev pub option_now : Option (Bor Text) → Option Text
option_now path = option_map (λ text. text.now) path

-- the line is what the matches of a subcommand say
pub record SaysBy (matches : Option (Text × List Row)) (line : Line) : Type 0 where
  pub name : Text
  pub rows : List Row
  pub matched : matches ≡ Some (name, rows)
  pub command : IsCommand name rows line.command
  pub info : first_of (codes "info") rows ≡ Some line.info.now
  pub abbreviations : first_of (codes "abbrev") rows ≡ Some line.abbrev.now
  pub str : option_now line.str ≡ first_of (codes "str") rows
  pub line_str : option_now line.line_str ≡ first_of (codes "line-str") rows
  pub str_offsets : option_now line.str_offsets ≡ first_of (codes "str-offsets") rows
  pub order : line.order ≡ order_by (first_of (codes "big") rows)
  pub versions : line.versions ≡ versions_by (first_of (codes "v4") rows)

-- the line is what the exact matches of the words say
abbrev pub Says : List Text → Line → Type 0
Says words line = SaysBy (subcommand_of program words) line

-- the matches of a subcommand have this word, and it is no word of the grammar
pub record IsBadBy (matches : Option (Text × List Row)) (bad : BadWord) : Type 0 where
  pub name : Text
  pub rows : List Row
  pub matched : matches ≡ Some (name, rows)
  pub outside : IsBadAt bad.argument name rows bad.word.now

-- the argument was given
abbrev pub IsGiven : List Row → Text → Type 0
IsGiven rows id = is_some (first_of id rows) ≡ true

-- the options that have to be there have values
pub record HasPaths (rows : List Row) : Type 0 where
  pub info : IsGiven rows (codes "info")
  pub abbreviations : IsGiven rows (codes "abbrev")

-- the subcommand of this name has the words that it wants
pub record HasWords (name : Text) (rows : List Row) : Type 0 where
  pub find : name ≡ codes "find" → IsGiven rows (codes "name")
  pub type_of : name ≡ codes "type" → IsGiven rows (codes "offset")
  pub set : name ≡ codes "set"
      → IsGiven rows (codes "offset") × IsGiven rows (codes "attribute") × IsGiven rows (codes "value")

-- one of the subcommands was met, with the options and the words that it wants
pub record Meets (matches : Option (Text × List Row)) : Type 0 where
  pub name : Text
  pub rows : List Row
  pub matched : matches ≡ Some (name, rows)
  pub known : IsOneOf names name
  pub paths : HasPaths rows
  pub words : HasWords name rows

-- why the words aren't taken: the kinds of the first step that fails, none where they are taken
abbrev pub refusals : List Text → Kinds
refusals words = fault_of program words

-- Why the words are no line. The parser's own reason is told where it doesn't take them, and it isn't want of memory.
-- Where it takes them, one of them is no word of the grammar.
abbrev pub IsLineError : List Text → LineError → Type 0
IsLineError words (outcome.Parse e) = IsAmong (kind_of e) (refusals words) × (kind_of e ≢ OutOfMemory)
IsLineError words (outcome.BadWord bad) = (refusals words ≡ []) × IsBadBy (subcommand_of program words) bad
IsLineError words outcome.Memory = Unit {0}

-- a parser's error as one of a line
abbrev pub Converts : Error → LineError → Type 0
Converts e (outcome.Parse f) = (f ≡ e) × (kind_of e ≢ OutOfMemory)
Converts e (outcome.BadWord bad) = ⊥
Converts e outcome.Memory = kind_of e ≡ OutOfMemory

-- a mistake of the user, want of memory aside
abbrev pub IsMistake : LineError → Type 0
IsMistake (outcome.Parse e) = kind_of e ≡ ValueValidation
IsMistake (outcome.BadWord bad) = ⊥
IsMistake outcome.Memory = Unit {0}

-- ---- how the program ends with words that aren't taken

-- help was asked for, and this is its text
abbrev pub IsHelp : Kind → Type 0
IsHelp kind = (kind ≡ DisplayHelp) ⊎ (kind ≡ DisplayVersion)

-- after help: 0, and help that couldn't be printed is a failure of standard output
abbrev pub EndsHelp : Result (Unit {0}) IoError → Result ℕ Failure → Type 0
EndsHelp (Ok printed) ended = ended ≡ Ok 0
EndsHelp (Err e) ended = IsErrAnd ended (FailsAs (error_kind e) failure.Output)

-- The exit status, or why the program gives up, by whether the parser's text was printed: after a mistake 2 in any
-- case.
abbrev pub Ends : LineError → Result (Unit {0}) IoError → Result ℕ Failure → Type 0
Ends (outcome.Parse e) printed ended = (IsHelp (kind_of e) → EndsHelp printed ended)
    × ((kind_of e ≢ DisplayHelp) → (kind_of e ≢ DisplayVersion) → ended ≡ Ok 2)
Ends (outcome.BadWord bad) printed ended = ended ≡ Ok 2
Ends outcome.Memory printed ended = ended ≡ Err failure.Memory
