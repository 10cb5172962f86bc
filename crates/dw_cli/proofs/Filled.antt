-- Where a parse succeeds, each row of the subcommand's matches has a value.
use Rattle.std.proofs.Common.{◌≡◌, ◌∙◌, ℕ, zero, suc, ◌<◌, ◌&&◌, ◌||◌, Bool, true, false, not, cond, List, [], ◌∷◌, ◌++◌, length, drop, Option, Some, None, is_some, refl, sym, arith, true≢false, length-append}
use Rattle.std.specs.Prelude.{find, fold, slice_get, encode_utf8, codes}
use Rattle.std.specs.Option.{option_map_or}
use Rattle.std.specs.Str.{bytes_eq, chars}
use Rattle.clap.specs.Lexer.{long_of, short_of}
use Rattle.clap.specs.Walk as w
use Rattle.clap.specs.Walk.{Held, Names, Outcome, Row, Rule, Step, Text, Waiting, Walk, arg_by_id, arg_by_index, arg_by_long, arg_by_short, at_row, attached_value, bundle_met, bundle_step, finished, first_of, is_pending, long_met, long_or_other, nothing_held, option_met, plain_word, positional_held, reacted, settled, settled_rows, short_met, short_or_plain, subcommand_met, subcommand_or_other, takes_several, takes_values, used, used_by_id, walk, walk_from, walked, with_default, with_values, without, word_met, after_flag, after_step, flag_met, has_row, option_word, to_positional, default_rows, rows_after}
use Rattle.clap.specs.Kinds.{Kinds, check_kinds, or_else}
use Rattle.clap.specs.Takes.{is_given}
use Rattle.clap.specs.Words.{App, with_rule}
use Rattle.clap.specs.Faults.{bundle_step_fault, defaults_fault, check_fault, level_fault, flag_word_fault, flags_fault, long_fault, option_fault, other_fault, positional_fault, react_fault, settle_fault, short_fault, step_fault, turn_fault, use_fault, walk_fault, word_fault}
use Rattle.clap.specs.Simple.{Shape, built_leaf, filled, help_rule, inherited, marked_built, with_index, with_leaf_noted}
use Rattle.clap.specs.declared.error.kind.ErrorKind.TheVariants as kind
use Rattle.dw_cli.specs.Line.{HasPaths, IsGiven, flag, optional_path, path_option, word, program, setter, subcommand}
use Rattle.clap.specs.declared.parser.matches.ValueSource.{ValueSource}
use Rattle.clap.specs.declared.builder.value_parser.Reading.{Reading}

-- each row has a value
abbrev pub Full : List Row → Type 0
Full [] = Unit {0}
Full (r ∷ rs) = (0 < length r.values) × Full rs

-- ---- changes of rows

full-append : (a b : List Row) → Full a → Full b → Full (a ++ b)
full-append [] b h k = k
full-append (r ∷ rs) b h k = (h.0, full-append rs b h.1 k)

full-at_row : (id : Text) (change : Row → List Row) (missing rows : List Row) → ((r : Row) → 0 < length r.values → Full (change r)) → Full missing → Full rows
    → Full (at_row id change missing rows)
full-at_row id change missing [] each m h = m
full-at_row id change missing (r ∷ rs) each m h = go (bytes_eq r.id id) (full-at_row id change missing rs each m h.1)
  where
    go : (t : Bool) → Full (at_row id change missing rs) → Full (cond t (change r ++ rs) (r ∷ at_row id change missing rs))
    go true later = full-append (change r) rs (each r h.0) h.1
    go false later = (h.0, later)

full-without : (id : Text) (rows : List Row) → Full rows → Full (without id rows)
full-without id rows h = full-at_row id (λ _. []) [] rows (λ r k. tt) tt h

full-with : (id : Text) (how : Reading) (s : ValueSource) (values : List Text) (rows : List Row) → 0 < length values → Full rows → Full (with_values id how s values rows)
full-with id how s values rows some h =
    let new : Row = record { id = id; values = values; count = None; source = Some s; reading = how } in
    full-at_row id (w.more_values s values) (new ∷ []) rows (λ r k. (more r k, tt)) (some, tt) h
  where
    more : (r : Row) → 0 < length r.values → 0 < length (r.values ++ values)
    more r k = omega (arith, length-append r.values values)

-- ---- arguments that leave no row empty

abbrev pub Good : Rule → Type 0
Good a = (again : Bool) (values : List Text) (rows : List Row) → use_fault again a values rows ≡ [] → Full rows → Full (used a values rows)

abbrev pub AllGood : List Rule → Type 0
AllGood [] = Unit {0}
AllGood (a ∷ rest) = Good a × AllGood rest

abbrev GoodIfSome : Option Rule → Type 0
GoodIfSome None = Unit {0}
GoodIfSome (Some a) = Good a

good_found : (p : Rule → Bool) (c : List Rule) → AllGood c → GoodIfSome (find p c)
good_found p [] good = tt
good_found p (a ∷ rest) good = go (p a) (good_found p rest good.1)
  where
    go : (t : Bool) → GoodIfSome (find p rest) → GoodIfSome (cond t (Some a) (find p rest))
    go true later = good.0
    go false later = later

pub first_none : (a b : Kinds) → or_else a b ≡ [] → a ≡ []
first_none [] b e = refl
first_none (k ∷ ks) b e = e

pub second_none : (a b : Kinds) → or_else a b ≡ [] → b ≡ []
second_none [] b e = e
second_none (k ∷ ks) b e = cc

module _ (c : List Rule) (good : AllGood c) (again : Bool) where
  by_id : (o : Option Rule) (values : List Text) (rows : List Row) → GoodIfSome o → option_map_or (λ a. use_fault again a values rows) o [] ≡ [] → Full rows
      → Full (used_by_id o values rows)
  by_id None values rows g e h = h
  by_id (Some a) values rows g e h = g again values rows e h

  full-settled_rows : (pending : Option (Text × List Text)) (rows : List Row)
      → option_map_or (λ p. option_map_or (λ a. use_fault again a p.1 rows) (arg_by_id c p.0) []) pending [] ≡ [] → Full rows → Full (settled_rows c pending rows)
  full-settled_rows None rows e h = h
  full-settled_rows (Some p) rows e h = by_id (arg_by_id c p.0) p.1 rows (good_found _ c good) e h

  full-settled : (h : Held) → settle_fault c again h ≡ [] → Full h.rows → Full (settled c h).rows
  full-settled h e f = full-settled_rows h.pending h.rows e f

  full-reacted : (a : Rule) (values : List Text) (h : Held) → Good a → react_fault c again a values h ≡ [] → Full h.rows → Full (reacted c a values h).rows
  full-reacted a values h g e f =
      g again values (settled c h).rows (second_none (settle_fault c again h) (use_fault again a values (settled c h).rows) e)
      (full-settled h (first_none (settle_fault c again h) (use_fault again a values (settled c h).rows) e) f)

  full-option_met : (a : Rule) (v : Option Text) (h : Held) → Good a → option_fault c again a v h ≡ [] → Full h.rows → Full (option_met c a v h).0.rows
  full-option_met a (Some v) h g e f = full-reacted a (v ∷ []) h g e f
  full-option_met a None h g e f = full-settled h e f

  full-long_met : (o : Option Rule) (v : Option Text) (h : Held) → GoodIfSome o → long_fault c again o v h ≡ [] → Full h.rows → Full (long_met c o v h).0.rows
  full-long_met None v h g e f = f
  full-long_met (Some a) v h g e f = go (takes_values a) refl v e
    where
      go : (t : Bool) → takes_values a ≡ t → (v : Option Text) → long_fault c again (Some a) v h ≡ [] → Full (long_met c (Some a) v h).0.rows
      go true is v e = rw is (full-option_met a v h g (rw is at e) f)
      go false is (Some v) e = rw is f
      go false is None e = rw is (full-reacted a [] h g (rw is at e) f)

  -- ---- bundles

  full-step : (o : Option ℕ) (flags : Text) (skip : ℕ) (so_far : Outcome) (h : Held) (more : Text → ℕ → Outcome → Held → Held × Outcome) (more_fault : Text → ℕ → Held → Kinds)
      → ((text : Text) (n : ℕ) (out : Outcome) (g : Held) → more_fault text n g ≡ [] → Full g.rows → Full (more text n out g).0.rows)
      → bundle_step_fault c again o flags skip h more_fault ≡ [] → Full h.rows → Full (bundle_step c o flags skip so_far h more).0.rows
  full-step None flags skip so_far h more more_fault step e f = f
  full-step (Some x) flags (suc skip) so_far h more more_fault step e f = step (drop (length (encode_utf8 x)) flags) skip so_far h e f
  full-step (Some x) flags zero so_far h more more_fault step e f = by (arg_by_short c x) (good_found _ c good) e
    where
      rest : Text
      rest = drop (length (encode_utf8 x)) flags

      by : (o : Option Rule) → GoodIfSome o → short_fault c again o rest h (more_fault rest 0) ≡ [] → Full (short_met c o rest h (more rest 0 w.done)).0.rows
      by None g e = f
      by (Some a) g e = go (takes_values a) refl
        where
          go : (t : Bool) → takes_values a ≡ t → Full (short_met c (Some a) rest h (more rest 0 w.done)).0.rows
          go true is = rw is (full-option_met a (attached_value rest) h g (rw is at e) f)
          go false is =
              let both : or_else (react_fault c again a [] h) (more_fault rest 0 (reacted c a [] h)) ≡ [] = rw is at e in
              rw is (step rest 0 w.done (reacted c a [] h) (second_none (react_fault c again a [] h) (more_fault rest 0 (reacted c a [] h)) both)
              (full-reacted a [] h g (first_none (react_fault c again a [] h) (more_fault rest 0 (reacted c a [] h)) both) f))

  full-bundle : (k : ℕ) (flags : Text) (skip : ℕ) (so_far : Outcome) (h : Held) → flags_fault c again k flags skip h ≡ [] → Full h.rows
      → Full (bundle_met c k flags skip so_far h).0.rows
  unfolding bundle_met flags_fault
  full-bundle zero flags skip so_far h e f = f
  full-bundle (suc k) flags skip so_far h e f =
      full-step (slice_get (chars flags) 0) flags skip so_far h (bundle_met c k) (flags_fault c again k) (λ text n out g. full-bundle k text n out g) e f

  -- ---- words

  full-option_word : (o : Option Rule) (id word : Text) (h : Held) → Full h.rows → Full (option_word o id word h).0.rows
  full-option_word None id word h f = f
  full-option_word (Some a) id word h f = f

  full-plain_word : (waiting : Waiting) (word : Text) (h : Held) → Full h.rows → Full (plain_word c waiting word h).0.rows
  full-plain_word w.idle word h f = f
  full-plain_word (w.option id) word h f = full-option_word (arg_by_id c id) id word h f
  full-plain_word w.positional word h f = f

  full-after_flag : (waiting : Waiting) (word : Text) (h : Held) (out : Outcome) → Full h.rows → Full (after_flag c waiting word h out).0.rows
  full-after_flag waiting word h w.done f = f
  full-after_flag waiting word h (w.waits id) f = f
  full-after_flag waiting word h w.plain f = full-plain_word waiting word h f
  full-after_flag waiting word h w.refused f = full-plain_word waiting word h f

  full-short_or_plain : (waiting : Waiting) (word : Text) (o : Option Text) (h : Held)
      → option_map_or (λ flags. flags_fault c again (length flags) flags h.skip (record h { skip = 0 })) o [] ≡ [] → Full h.rows → Full (short_or_plain c waiting word o h).0.rows
  full-short_or_plain waiting word None h e f = full-plain_word waiting word h f
  full-short_or_plain waiting word (Some flags) h e f =
      full-after_flag waiting word _ _ (full-bundle (length flags) flags h.skip w.plain (record h { skip = 0 }) e f)

  full-long_or_other : (waiting : Waiting) (word : Text) (o : Option (Text × Option Text)) (h : Held) → flag_word_fault c again o word h ≡ [] → Full h.rows
      → Full (long_or_other c waiting word o h).0.rows
  full-long_or_other waiting word (Some p) h e f = full-after_flag waiting word _ _ (full-long_met (arg_by_long c p.0) p.1 h (good_found _ c good) e f)
  full-long_or_other waiting word None h e f = full-short_or_plain waiting word (short_of word) h e f

module _ (s : Shape) (good : AllGood s.rules) (names : Names) where
  full-other : (o : Option Text) (waiting : Waiting) (position : ℕ) (word : Text) (h : Held) → other_fault s o word h ≡ [] → Full h.rows
      → Full (subcommand_or_other s.rules o waiting position word h).0.rows
  full-other (Some name) waiting position word h e f = f
  full-other None waiting position word h e f = go (bytes_eq word (45 ∷ 45 ∷ [])) refl
    where
      go : (t : Bool) → bytes_eq word (45 ∷ 45 ∷ []) ≡ t → Full (subcommand_or_other s.rules None waiting position word h).0.rows
      go true is = rw is f
      go false is = rw is (full-long_or_other s.rules good s.args_override_self waiting word (long_of word) h (rw is at e) f)

  full-word : (is_trailing : Bool) (waiting : Waiting) (position : ℕ) (word : Text) (h : Held) → word_fault s names is_trailing waiting word h ≡ [] → Full h.rows
      → Full (word_met s.rules names is_trailing waiting position word h).0.rows
  full-word true waiting position word h e f = f
  full-word false waiting position word h e f = full-other (subcommand_met names waiting word) waiting position word h e f

  full-positional : (a : Rule) (word : Text) (h : Held) → positional_fault s.rules s.args_override_self a h ≡ [] → Full h.rows → Full (positional_held s.rules a word h).rows
  full-positional a word h e f = go (is_pending a h.pending && takes_several a) refl
    where
      go : (t : Bool) → (is_pending a h.pending && takes_several a) ≡ t → Full (positional_held s.rules a word h).rows
      go true is = rw is f
      go false is = rw is (full-settled s.rules good s.args_override_self h (rw is at e) f)

  full-to_positional : (o : Option Rule) (word : Text) (v : Walk) (h : Held) (other : Kinds)
      → option_map_or (λ a. positional_fault s.rules s.args_override_self a h) o other ≡ [] → Full h.rows → Full (to_positional s.rules o word v h).held.rows
  full-to_positional None word v h other e f = f
  full-to_positional (Some a) word v h other e f = full-positional a word h e f

  full-after_step : (word : Text) (v : Walk) (h : Held) (step : Step) → step_fault s v.position h step ≡ [] → Full h.rows → Full (after_step s.rules word v h step).held.rows
  full-after_step word v h (w.next waiting) e f = f
  full-after_step word v h (w.trailing position) e f = f
  full-after_step word v h (w.subcommand name) e f = f
  full-after_step word v h w.value e f = full-to_positional (arg_by_index s.rules v.position) word v h _ e f

  full-walked : (v : Walk) (word : Text) → turn_fault s names v word ≡ [] → Full v.held.rows → Full (walked s.rules names v word).held.rows
  unfolding walked
  full-walked v word e f = go v.stopped e
    where
      met : Held × Step
      met = word_met s.rules names v.is_trailing v.waiting v.position word v.held

      first : Kinds
      first = word_fault s names v.is_trailing v.waiting word v.held

      second : Kinds
      second = step_fault s v.position met.0 met.1

      go : (o : Option (Text × List Text)) → cond (is_some o) [] (or_else first second) ≡ [] → Full (w.walked_from s.rules names o v word).held.rows
      go (Some p) both = f
      go None both =
          full-after_step word v met.0 met.1 (second_none first second both)
          (full-word v.is_trailing v.waiting v.position word v.held (first_none first second both) f)

  full-walk : (v : Walk) (words : List Text) → walk_fault s names v words ≡ [] → Full v.held.rows → Full (fold (walked s.rules names) v words).held.rows
  unfolding walk_fault
  full-walk v [] e f = f
  full-walk v (word ∷ rest) e f =
      let now = walked s.rules names v word in
      full-walk now rest (second_none (turn_fault s names v word) (walk_fault s names now rest) e)
      (full-walked v word (first_none (turn_fault s names v word) (walk_fault s names now rest) e) f)

-- ---- after the walk

full-default_rows : (id : Text) (how : Reading) (values : List Text) (rows : List Row) → Full rows → Full (default_rows id how values rows)
full-default_rows id how [] rows f = f
full-default_rows id how (v ∷ vs) rows f = full-with id how _ (v ∷ vs) rows (omega arith) f

full-with_default : (rows : List Row) (a : Rule) → Full rows → Full (with_default rows a)
full-with_default rows a f = go (has_row a.id rows)
  where
    go : (t : Bool) → Full (cond t rows (default_rows a.id (w.reading_by a) a.defaults rows))
    go true = f
    go false = full-default_rows a.id _ a.defaults rows f

full-defaults : (rows : List Row) (c : List Rule) → Full rows → Full (fold with_default rows c)
full-defaults rows [] f = f
full-defaults rows (a ∷ rest) f = full-defaults (with_default rows a) rest (full-with_default rows a f)

-- the first value of a row that is found
value_found : (p : Row → Bool) (rows : List Row) (r : Row) → Full rows → find p rows ≡ Some r → 0 < length r.values
value_found p [] r f e = cc
value_found p (x ∷ rest) r f e = go (p x) refl (value_found p rest r f.1)
  where
    go : (t : Bool) → p x ≡ t → (find p rest ≡ Some r → 0 < length r.values) → 0 < length r.values
    go true is later = let same : Some x ≡ Some r = rw is at e in let one : x ≡ r = cc in rw (← one) f.0
    go false is later = later (rw is at e)

-- ---- a subcommand

-- the argument was given, and has a value
given_value : (id : Text) (rows : List Row) → Full rows → is_given id rows ≡ true → is_some (first_of id rows) ≡ true
given_value id rows f given = go (find (λ r. bytes_eq r.id id) rows) refl
  where
    value_first : (values : List Text) → 0 < length values → is_some (slice_get values 0) ≡ true
    value_first [] lt = absurd (omega arith)
    value_first (v ∷ vs) lt = refl

    go : (o : Option Row) → find (λ r. bytes_eq r.id id) rows ≡ o → is_some (first_of id rows) ≡ true
    go None is = let none : is_given id rows ≡ false = rw is refl in absurd (true≢false (sym given ∙ none))
    go (Some r) is = rw is (value_first r.values (value_found _ rows r f is))

-- an argument that is wanted and not given is a fault
none_wanted : (t : Bool) → check_kinds false false t ≡ [] → t ≡ false
none_wanted true e = cc
none_wanted false e = refl

left_false : (a b : Bool) → (a || b) ≡ false → a ≡ false
left_false true b e = e
left_false false b e = refl

right_false : (a b : Bool) → (a || b) ≡ false → b ≡ false
right_false true b e = cc
right_false false b e = e

not_false : (a : Bool) → not a ≡ false → a ≡ true
not_false true e = refl
not_false false e = cc

-- a level without a fault gave each argument that it wants, with a value
module _ (s : Shape) (good : AllGood s.rules) (words : List Text) (whole : level_fault s [] nothing_held words false [] ≡ []) where
  abbrev pub end : Held
  end = (walk s.rules [] nothing_held words).held

  abbrev rest : Kinds
  rest = or_else [] (or_else (settle_fault s.rules s.args_override_self end) (or_else (defaults_fault (settled s.rules end).rows s.rules) (check_fault s (finished s.rules end) false)))

  after : or_else (settle_fault s.rules s.args_override_self end) (or_else (defaults_fault (settled s.rules end).rows s.rules) (check_fault s (finished s.rules end) false)) ≡ []
  after = second_none (walk_fault s [] (walk_from nothing_held) words) rest whole

  pub all_full : Full (finished s.rules end)
  all_full = full-defaults (settled s.rules end).rows s.rules
      (full-settled s.rules good s.args_override_self end (first_none (settle_fault s.rules s.args_override_self end) _ after)
      (full-walk s good [] (walk_from nothing_held) words (first_none (walk_fault s [] (walk_from nothing_held) words) rest whole) tt))

  pub checked : check_fault s (finished s.rules end) false ≡ []
  checked = second_none (defaults_fault (settled s.rules end).rows s.rules) _ (second_none (settle_fault s.rules s.args_override_self end) _ after)

-- ---- the program's subcommands

-- a subcommand as the parser builds it
abbrev pub built_as : App → Shape
built_as app = built_leaf (inherited (with_leaf_noted (marked_built program.top)) app.top)

good_path : (name : Text) (i : ℕ) → Good (with_index i (filled (path_option name)))
good_path name i again [] rows e f = let bad : kind.InvalidValue ∷ [] ≡ [] = e in cc
good_path name i again (v ∷ vs) rows e f = full-with name _ _ (v ∷ vs) (without name rows) (omega arith) (full-without name rows f)

good_optional : (name : Text) (i : ℕ) → Good (with_index i (filled (optional_path name)))
good_optional name i again [] rows e f = let bad : kind.InvalidValue ∷ [] ≡ [] = e in cc
good_optional name i again (v ∷ vs) rows e f = full-with name _ _ (v ∷ vs) (without name rows) (omega arith) (full-without name rows f)

good_word : (name : Text) (i : ℕ) → Good (with_index i (filled (word name)))
good_word name i again [] rows e f = let bad : kind.InvalidValue ∷ [] ≡ [] = e in cc
good_word name i again (v ∷ vs) rows e f = full-with name _ _ (v ∷ vs) (without name rows) (omega arith) (full-without name rows f)

good_flag : (name : Text) (i : ℕ) → Good (with_index i (filled (flag name)))
good_flag name i again [] rows e f = full-with name _ _ (codes "true" ∷ []) (without name rows) (omega arith) (full-without name rows f)
good_flag name i again (v ∷ vs) rows e f = full-with name _ _ (v ∷ vs) (without name rows) (omega arith) (full-without name rows f)

good_help : (i : ℕ) → Good (with_index i (filled help_rule))
good_help i again [] rows e f = f
good_help i again (v ∷ vs) rows e f = f

-- the options that each subcommand has, before its own arguments
after_options : (own : List Rule) → AllGood own
    → AllGood (with_index 1 (filled (path_option (codes "info"))) ∷ with_index 1 (filled (path_option (codes "abbrev"))) ∷
    with_index 1 (filled (optional_path (codes "str"))) ∷ with_index 1 (filled (optional_path (codes "line-str"))) ∷
    with_index 1 (filled (optional_path (codes "str-offsets"))) ∷ with_index 1 (filled (flag (codes "big"))) ∷ with_index 1 (filled (flag (codes "v4"))) ∷ own)
after_options own good = (
  good_path (codes "info") 1,
  (
    good_path (codes "abbrev") 1,
    (
      good_optional (codes "str") 1,
      (
        good_optional (codes "line-str") 1,
        (good_optional (codes "str-offsets") 1, (good_flag (codes "big") 1, (good_flag (codes "v4") 1, good))),
      ),
    ),
  ),
)

-- the arguments that are wanted were given: none of them is missing
module _ (words : List Text) (s : Shape) (good : AllGood s.rules) (whole : level_fault s [] nothing_held words false [] ≡ []) where
  abbrev rows : List Row
  rows = rows_after s.rules [] words

  is_there : (id : Text) → not (is_given id rows) ≡ false → IsGiven rows id
  is_there id given = given_value id rows (all_full s good words whole) (not_false _ given)

  paths_there : (others : Bool) → (not (is_given (codes "info") rows) || (not (is_given (codes "abbrev") rows) || others)) ≡ false
      → HasPaths rows × (others ≡ false)
  paths_there others none =
      let later = right_false (not (is_given (codes "info") rows)) _ none in (
        record {
          info = is_there (codes "info") (left_false (not (is_given (codes "info") rows)) _ none);
          abbreviations = is_there (codes "abbrev") (left_false (not (is_given (codes "abbrev") rows)) _ later);
        },
        right_false (not (is_given (codes "abbrev") rows)) _ later,
      )

  word_there : (id : Text) (others : Bool) → (not (is_given id rows) || others) ≡ false → IsGiven rows id × (others ≡ false)
  word_there id others none = (is_there id (left_false (not (is_given id rows)) _ none), right_false (not (is_given id rows)) _ none)

-- what the rows of a subcommand have on words that it takes
abbrev pub Gives : Shape → (List Row → Type 0) → Type 0
Gives s Has = (words : List Text) → level_fault s [] nothing_held words false [] ≡ [] → Has (rows_after s.rules [] words)

-- a subcommand without arguments of its own
pub plain_has : (name : Text) → Gives (built_as (subcommand name)) HasPaths
plain_has name words whole =
    let s : Shape = built_as (subcommand name) in
    let good : AllGood s.rules = after_options (with_index 1 (filled help_rule) ∷ []) (good_help 1, tt) in
    (paths_there words s good whole _ (none_wanted _ (checked s good words whole))).0

-- a subcommand with one word
pub word_has : (name id : Text) → Gives (built_as (with_rule (subcommand name) (word id))) (λ rows. HasPaths rows × IsGiven rows id)
word_has name id words whole =
    let s : Shape = built_as (with_rule (subcommand name) (word id)) in
    let good : AllGood s.rules = after_options (with_index 1 (filled (word id)) ∷ with_index 2 (filled help_rule) ∷ []) (good_word id 1, (good_help 2, tt)) in
    let paths = paths_there words s good whole _ (none_wanted _ (checked s good words whole)) in
    (paths.0, (word_there words s good whole id _ paths.1).0)

-- `set`, with its flag and its three words
pub setter_has : Gives (built_as setter) (λ rows. HasPaths rows × (IsGiven rows (codes "offset") × IsGiven rows (codes "attribute") × IsGiven rows (codes "value")))
setter_has words whole =
    let s : Shape = built_as setter in
    let own : List Rule =
    with_index 1 (filled (flag (codes "minus"))) ∷ with_index 1 (filled (word (codes "offset"))) ∷ with_index 2 (filled (word (codes "attribute"))) ∷
    with_index 3 (filled (word (codes "value"))) ∷ with_index 4 (filled help_rule) ∷ [] in
    let good_words : AllGood (drop 1 own) = (good_word (codes "offset") 1, (good_word (codes "attribute") 2, (good_word (codes "value") 3, (good_help 4, tt)))) in
    let good : AllGood s.rules = after_options own (good_flag (codes "minus") 1, good_words) in
    let paths = paths_there words s good whole _ (none_wanted _ (checked s good words whole)) in
    let offset = word_there words s good whole (codes "offset") _ paths.1 in
    let attribute = word_there words s good whole (codes "attribute") _ offset.1 in
    (paths.0, (offset.0, attribute.0, (word_there words s good whole (codes "value") _ attribute.1).0))
