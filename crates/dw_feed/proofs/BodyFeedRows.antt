-- Worked rows: bodies of units in pieces. Places with what was taken, what is wanted and what is held, and the answers of the plain
-- feed to pieces and to the end of the input.
use Rattle.std.specs.Prelude.{◌≡◌, ℕ, zero, suc, List, [], ◌∷◌, ◌++◌, length, Some}
use Rattle.std.proofs.Common.{refl}
use Rattle.dw_leb.specs.declared.errors.Reason.{Reason}
use Rattle.dw_leb.specs.declared.errors.Reason.TheVariants.{Truncated, PastUnit, UnknownCode}
use Rattle.dw_leb.specs.declared.errors.SectionId.TheVariants.{Info}
use Rattle.dw_leb.specs.Reader.{Broken}
use Rattle.dw_form.specs.Form.{shape, shaped, attribute, Num, Text, Present}
use Rattle.dw_form.specs.ReadForm.{read_attribute}
use Rattle.dw_abbrev.specs.Table.{Table}
use Rattle.dw_header.specs.declared.kind.Kind.TheVariants.{Four}
use Rattle.dw_tree.specs.Tree.{Tree, nesting, leaf}
use Rattle.dw_tree.specs.Spelling.{tree_bytes}
use Rattle.dw_unit.specs.Unit.{WholeUnit}
use Rattle.dw_feed.specs.declared.progress.Progress.{Progress}
use Rattle.dw_feed.specs.declared.progress.Progress.TheVariants as answers
use Rattle.dw_feed.specs.BodyFeed.{PartialUnit, Reading, started, part, before, stream}
use Rattle.dw_feed.specs.FeedInvariant.{next, wanted}
use Rattle.dw_feed.specs.HeldCounts.{held_by}
use Rattle.dw_feed.specs.EveryCut.{answers_to, call, end_plainly}
use Rattle.dw_feed.proofs.Samples.{first_table, base_types, one_declared, pair, flag_pairs, narrow, plain, headed, header, header_is, older_header_is, with_code, with_value, with_text, with_block, root_and_child}

-- ---- a root with a child

abbrev with_a_child : PartialUnit
with_a_child = started header 0x0e base_types

abbrev behind_a : PartialUnit
behind_a = with_text (0x61 ∷ []) (with_code 1 with_a_child)

its_stream : stream behind_a ≡ header_is 0x0e ++ (0x01 ∷ 0x61 ∷ [])
unfolding shape shaped attribute tree_bytes
its_stream = refl

it_waits_for_the_zero : wanted behind_a (part behind_a) ≡ 2
unfolding shape shaped attribute tree_bytes
it_waits_for_the_zero = refl

it_is_cut : next behind_a (part behind_a) ≡ Broken 0 Truncated
unfolding shape shaped attribute tree_bytes read_attribute
it_is_cut = refl

it_holds_the_a : held_by behind_a ≡ record { pending = 0; nested = 1; entries = 1; values = 0; pool = 1 }
it_holds_the_a = refl

abbrev in_the_child : PartialUnit
in_the_child = with_code 2 (with_value (Text (0x61 ∷ [])) (with_code 1 with_a_child))

its_stream_in_the_child : stream in_the_child ≡ header_is 0x0e ++ (0x01 ∷ 0x61 ∷ 0x00 ∷ 0x02 ∷ [])
unfolding shape shaped attribute tree_bytes
its_stream_in_the_child = refl

it_holds_two : held_by in_the_child ≡ record { pending = 0; nested = 2; entries = 2; values = 1; pool = 1 }
it_holds_two = refl

-- ---- missing null

abbrev missing_null : PartialUnit
missing_null = with_value (Num 4) (with_code 2 (with_value (Text (0x61 ∷ [])) (with_code 1 (started header 0x0d base_types))))

past_the_unit_at_once : next missing_null [] ≡ Broken 0 PastUnit
unfolding shape shaped attribute tree_bytes nesting
past_the_unit_at_once = refl

with_no_byte_more : wanted missing_null [] ≡ 0
unfolding shape shaped attribute tree_bytes nesting
with_no_byte_more = refl

at_seventeen : length (before missing_null) ≡ 17
unfolding shape shaped attribute tree_bytes
at_seventeen = refl

-- ---- the first table

an_unknown_code : next (started header 0xff first_table) (0x02 ∷ []) ≡ Broken 0 UnknownCode
unfolding tree_bytes
an_unknown_code = refl

it_stands_with_its_byte : wanted (started header 0xff first_table) (0x02 ∷ []) ≡ 1
unfolding tree_bytes
it_stands_with_its_byte = refl

no_body : next (started header 8 first_table) [] ≡ Broken 0 PastUnit
unfolding tree_bytes
no_body = refl

it_stands_at_once : wanted (started header 8 first_table) [] ≡ 0
unfolding tree_bytes
it_stands_at_once = refl

the_last_byte_is_missing : next (with_code 1 (started header 0x0b first_table)) (0x61 ∷ []) ≡ Broken 0 Truncated
unfolding shape shaped attribute tree_bytes read_attribute
the_last_byte_is_missing = refl

at_thirteen : length (before (with_code 1 (started header 0x0b first_table))) ≡ 13
unfolding shape shaped attribute tree_bytes
at_thirteen = refl

-- ---- an announced block: it is past the unit at the last byte of its length

abbrev announced : PartialUnit
announced = with_code 1 (started header 14 (one_declared (pair 0x1c 4 ∷ [])))

announced_too_long : next announced (0xff ∷ 0xff ∷ 0xff ∷ 0xff ∷ 0x00 ∷ []) ≡ Broken 0 PastUnit
unfolding shape shaped attribute tree_bytes read_attribute
announced_too_long = refl

after_four : wanted announced (0xff ∷ 0xff ∷ 0xff ∷ 0xff ∷ 0x00 ∷ []) ≡ 4
unfolding shape shaped attribute tree_bytes read_attribute
after_four = refl

not_after_three : wanted announced (0xff ∷ 0xff ∷ 0xff ∷ []) ≡ 4
unfolding shape shaped attribute tree_bytes read_attribute
not_after_three = refl

-- a block that is there in part: its length field is in the stream, and not in the pool
abbrev in_a_block : PartialUnit
in_a_block = with_block 4 1 (0x07 ∷ []) (with_code 1 (started header 15 (one_declared (pair 0x1c 4 ∷ []))))

its_length_is_in_the_stream : stream in_a_block ≡ header_is 15 ++ (0x01 ∷ 0x02 ∷ 0x00 ∷ 0x00 ∷ 0x00 ∷ 0x07 ∷ [])
unfolding shape shaped attribute tree_bytes
its_length_is_in_the_stream = refl

it_wants_one_more : wanted in_a_block (part in_a_block) ≡ 6
unfolding shape shaped attribute tree_bytes read_attribute
it_wants_one_more = refl

its_length_is_not_held : held_by in_a_block ≡ record { pending = 0; nested = 1; entries = 1; values = 0; pool = 1 }
its_length_is_not_held = refl

-- ---- a number that passes the unit's end, before any byte of it

abbrev too_wide : PartialUnit
too_wide = with_code 1 (started header 12 (one_declared (pair 0x0b 6 ∷ [])))

too_wide_at_once : next too_wide [] ≡ Broken 0 PastUnit
unfolding shape shaped attribute tree_bytes read_attribute
too_wide_at_once = refl

no_byte_of_it : wanted too_wide [] ≡ 0
unfolding shape shaped attribute tree_bytes read_attribute
no_byte_of_it = refl

-- ---- flags: values that take no byte come with the field before them

abbrev flags_in : ℕ → PartialUnit → PartialUnit
flags_in zero g = g
flags_in (suc n) g = flags_in n (with_value Present g)

abbrev flagged : ℕ → PartialUnit
flagged n = flags_in n (with_code 1 (started header 10 (one_declared (flag_pairs n))))

it_holds_the_flags : held_by (flagged 16) ≡ record { pending = 0; nested = 0; entries = 1; values = 16; pool = 0 }
it_holds_the_flags = refl

-- ---- the plain feed over pieces: how many bytes were taken, and the answer

abbrev fault : ℕ → Reason → Progress WholeUnit
fault offset reason = answers.Fault (record { section = Info; offset = offset; reason = reason })

abbrev fed : ℕ → Table → List (List ℕ) → List (ℕ × Progress WholeUnit)
fed n t pieces = answers_to 40 (Reading (started header n t)) pieces

abbrev unit_is : Table → Tree → Progress WholeUnit
unit_is t root = answers.Done (record { header = header; table = t; root = root; padding = [] })

in_three_pieces : fed 0x0e base_types ((0x01 ∷ 0x61 ∷ 0x00 ∷ 0x02 ∷ []) ∷ [] ∷ (0x04 ∷ 0x00 ∷ 0xff ∷ []) ∷ (0x01 ∷ []) ∷ []) ≡ (4, answers.More) ∷ (0, answers.More) ∷ (2, unit_is base_types root_and_child) ∷ (0, answers.Spent) ∷ []
unfolding shape shaped attribute tree_bytes read_attribute nesting
in_three_pieces = refl

byte_by_byte : fed 0x0e base_types ((0x01 ∷ []) ∷ (0x61 ∷ []) ∷ (0x00 ∷ []) ∷ (0x02 ∷ []) ∷ (0x04 ∷ []) ∷ (0x00 ∷ []) ∷ []) ≡ (1, answers.More) ∷ (1, answers.More) ∷ (1, answers.More) ∷ (1, answers.More) ∷ (1, answers.More) ∷ (1, unit_is base_types root_and_child) ∷ []
unfolding shape shaped attribute tree_bytes read_attribute nesting
byte_by_byte = refl

a_null_is_missing : fed 0x0d base_types ((0x01 ∷ 0x61 ∷ 0x00 ∷ 0x02 ∷ 0x04 ∷ []) ∷ []) ≡ (5, fault 17 PastUnit) ∷ []
unfolding shape shaped attribute tree_bytes read_attribute nesting
a_null_is_missing = refl

its_code_is_unknown : fed 0xff first_table ((0x02 ∷ 0x00 ∷ []) ∷ (0x00 ∷ []) ∷ []) ≡ (1, fault 12 UnknownCode) ∷ (0, fault 12 UnknownCode) ∷ []
unfolding shape shaped attribute tree_bytes read_attribute nesting
its_code_is_unknown = refl

its_block_is_too_long : fed 14 (one_declared (pair 0x1c 4 ∷ [])) ((0x01 ∷ 0xff ∷ 0xff ∷ 0xff ∷ 0xff ∷ 0x00 ∷ []) ∷ []) ≡ (5, fault 13 PastUnit) ∷ []
unfolding shape shaped attribute tree_bytes read_attribute nesting
its_block_is_too_long = refl

its_number_is_too_wide : fed 12 (one_declared (pair 0x0b 6 ∷ [])) ((0x01 ∷ 0x00 ∷ []) ∷ []) ≡ (1, fault 13 PastUnit) ∷ []
unfolding shape shaped attribute tree_bytes read_attribute nesting
its_number_is_too_wide = refl

it_has_no_body : fed 8 first_table ([] ∷ []) ≡ (0, fault 12 PastUnit) ∷ []
unfolding shape shaped attribute tree_bytes read_attribute nesting
it_has_no_body = refl

its_last_byte_is_missing : fed 0x0b first_table ((0x01 ∷ 0x61 ∷ []) ∷ []) ≡ (2, answers.More) ∷ []
unfolding shape shaped attribute tree_bytes read_attribute nesting
its_last_byte_is_missing = refl

its_flags_take_no_byte : fed 10 (one_declared (flag_pairs 16)) ((0x01 ∷ []) ∷ []) ≡ (1, answers.More) ∷ []
unfolding shape shaped attribute tree_bytes read_attribute nesting
its_flags_take_no_byte = refl

it_holds_1024_flags : held_by (flagged 1024) ≡ record { pending = 0; nested = 0; entries = 1; values = 1024; pool = 0 }
it_holds_1024_flags = refl

its_1024_flags_take_no_byte : answers_to 1030 (Reading (started header 10 (one_declared (flag_pairs 1024)))) ((0x01 ∷ []) ∷ []) ≡ (1, answers.More) ∷ []
unfolding shape shaped attribute tree_bytes read_attribute nesting
its_1024_flags_take_no_byte = refl

its_end_is_cut : end_plainly (call 40 (Reading (started header 0x0b first_table)) (0x01 ∷ 0x61 ∷ [])).new ≡ Some (record { section = Info; offset = 13; reason = Truncated })
unfolding shape shaped attribute tree_bytes read_attribute nesting
its_end_is_cut = refl

the_end_before_any_byte : end_plainly (Reading (started header 8 first_table)) ≡ Some (record { section = Info; offset = 12; reason = PastUnit })
unfolding shape shaped attribute tree_bytes read_attribute nesting
the_end_before_any_byte = refl

-- ---- a unit of version 4

abbrev older : PartialUnit
older = started (headed Four) 10 first_table

what_was_taken_of_the_older : stream (with_text (0x61 ∷ []) (with_code 1 older)) ≡ older_header_is 10 ++ (0x01 ∷ 0x61 ∷ [])
unfolding shape shaped attribute tree_bytes
what_was_taken_of_the_older = refl

the_older_byte_by_byte : answers_to 40 (Reading older) ((0x01 ∷ []) ∷ (0x61 ∷ []) ∷ (0x00 ∷ 0x01 ∷ []) ∷ []) ≡ (1, answers.More) ∷ (1, answers.More) ∷ (1, answers.Done (record { header = headed Four; table = first_table; root = leaf (narrow 1) (plain (Text (0x61 ∷ [])) ∷ []); padding = [] })) ∷ []
unfolding shape shaped attribute tree_bytes read_attribute nesting
the_older_byte_by_byte = refl

an_older_code_is_unknown : answers_to 40 (Reading (started (headed Four) 10 first_table)) ((0x02 ∷ 0x00 ∷ []) ∷ []) ≡ (1, fault 11 UnknownCode) ∷ []
unfolding shape shaped attribute tree_bytes read_attribute nesting
an_older_code_is_unknown = refl
