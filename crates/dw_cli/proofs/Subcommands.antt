-- Which subcommand a line meets.
use Rattle.std.proofs.Common.{◌≡◌, ◌∙◌, Bool, true, false, List, [], ◌∷◌, ◌++◌, Option, Some, None, is_some, refl, sym, ap, inl, inr, true≢false}
use Rattle.std.specs.Prelude.{codes, find, option_map}
use Rattle.std.specs.Option.{option_map_or}
use Rattle.clap.specs.Words.{Row, Shape, Text, subcommand_of}
use Rattle.clap.specs.Kinds.{Kinds}
use Rattle.clap.specs.Walk.{Names, answers_to, nothing_held, stop_after, walk_from}
use Rattle.clap.specs.Faults.{entered_fault, level_fault, walk_fault}
use Rattle.clap.specs.Simple.{argument_words, built, built_leaf, entered, help_shape, label_of, names_of, rows_at}
use Rattle.std.specs.Str.{bytes_eq}
use Rattle.std.proofs.lemmas.Slice.Eq.{bytes_eq-Decides}
use Rattle.dw_cli.proofs.Helpless.{IsNotHelp, walk_stops}
use Rattle.dw_cli.specs.Line.{HasPaths, HasWords, IsOneOf, Meets, finder, names, program, refusals, setter, subcommand, type_finder}
use Rattle.dw_cli.proofs.Filled.{Gives, built_as, first_none, plain_has, second_none, setter_has, word_has}

-- the subcommand is one of the program's, and has its paths and words on words that it takes
abbrev Serves : Shape → Type 0
Serves s = IsOneOf names s.name × Gives s (λ rows. HasPaths rows × HasWords s.name rows)

abbrev AllServe : List Shape → Type 0
AllServe [] = Unit {0}
AllServe (s ∷ rest) = Serves s × AllServe rest

-- why the words after a subcommand aren't taken
abbrev faults_of : List Shape → Text × List Text → Kinds
faults_of subs p = option_map_or (λ s. level_fault s [] nothing_held p.1 false []) (find (λ s. answers_to p.0 (label_of s)) subs) []

-- the help as the parser builds it
abbrev built_help : Shape
built_help = built_leaf help_shape

is_help : (word : Text) → answers_to word (label_of built_help) ≡ true → bytes_eq word (codes "help") ≡ true
is_help word e = go (bytes_eq (codes "help") word) refl
  where
    go : (t : Bool) → bytes_eq (codes "help") word ≡ t → bytes_eq word (codes "help") ≡ true
    go true is =
        let same : codes "help" ≡ word = (bytes_eq-Decides (codes "help") word).0 is in
        (bytes_eq-Decides word (codes "help")).1 (sym same)
    go false is = let bad : false ≡ true = rw is at e in cc

-- one of the commands answers, and it is not the help that the parser adds
one_of : (subs : List Shape) (p : Text × List Text) (found : Option (Text × List Row))
    → found ≡ option_map (λ x. rows_at x p.1) (find (λ x. answers_to p.0 (label_of x)) (subs ++ built_help ∷ []))
    → is_some found ≡ true → faults_of (subs ++ built_help ∷ []) p ≡ [] → IsNotHelp (Some p) → AllServe subs → Meets found
one_of [] p found is some taken helpless serve = go (answers_to p.0 (label_of built_help)) refl
  where
    go : (t : Bool) → answers_to p.0 (label_of built_help) ≡ t → Meets found
    go true h = absurd (true≢false (sym (is_help p.0 h) ∙ helpless))
    go false h = let none : found ≡ None = is ∙ rw h refl in absurd (true≢false (sym some ∙ ap is_some none))
one_of (s ∷ rest) p found is some taken helpless serve =
    go (answers_to p.0 (label_of s)) refl (λ later fine. one_of rest p found later some fine helpless serve.1)
  where
    go : (t : Bool) → answers_to p.0 (label_of s) ≡ t
        → (found ≡ option_map (λ x. rows_at x p.1) (find (λ x. answers_to p.0 (label_of x)) (rest ++ built_help ∷ []))
        → faults_of (rest ++ built_help ∷ []) p ≡ [] → Meets found)
        → Meets found
    go true e later =
        let has = serve.0.1 p.1 (rw e at taken) in
        record { name = s.name; rows = (rows_at s p.1).1; matched = is ∙ rw e refl; known = serve.0.0; paths = has.0; words = has.1 }
    go false e later = later (rw e at is) (rw e at taken)

-- a name is another one
differs : (name other : Text) → bytes_eq name other ≡ false → name ≡ other → ⊥
differs name other e is = true≢false (sym ((bytes_eq-Decides name other).1 is) ∙ e)

serves_show : Serves (built_as (subcommand (codes "show")))
serves_show = (
  inl refl,
  λ words whole. (
    plain_has (codes "show") words whole,
    record {
      find = λ is. absurd (differs (codes "show") (codes "find") refl is);
      type_of = λ is. absurd (differs (codes "show") (codes "type") refl is);
      set = λ is. absurd (differs (codes "show") (codes "set") refl is);
    },
  ),
)

serves_find : Serves (built_as finder)
serves_find = (
  inr (inl refl),
  λ words whole. let has = word_has (codes "find") (codes "name") words whole in (
    has.0,
    record {
      find = λ is. has.1;
      type_of = λ is. absurd (differs (codes "find") (codes "type") refl is);
      set = λ is. absurd (differs (codes "find") (codes "set") refl is);
    },
  ),
)

serves_type : Serves (built_as type_finder)
serves_type = (
  inr (inr (inl refl)),
  λ words whole. let has = word_has (codes "type") (codes "offset") words whole in (
    has.0,
    record {
      find = λ is. absurd (differs (codes "type") (codes "find") refl is);
      type_of = λ is. has.1;
      set = λ is. absurd (differs (codes "type") (codes "set") refl is);
    },
  ),
)

serves_check : Serves (built_as (subcommand (codes "check")))
serves_check = (
  inr (inr (inr (inl refl))),
  λ words whole. (
    plain_has (codes "check") words whole,
    record {
      find = λ is. absurd (differs (codes "check") (codes "find") refl is);
      type_of = λ is. absurd (differs (codes "check") (codes "type") refl is);
      set = λ is. absurd (differs (codes "check") (codes "set") refl is);
    },
  ),
)

serves_set : Serves (built_as setter)
serves_set = (
  inr (inr (inr (inr (inl refl)))),
  λ words whole. let has = setter_has words whole in (
    has.0,
    record {
      find = λ is. absurd (differs (codes "set") (codes "find") refl is);
      type_of = λ is. absurd (differs (codes "set") (codes "type") refl is);
      set = λ is. has.1;
    },
  ),
)

serves_copy : Serves (built_as (subcommand (codes "copy")))
serves_copy = (
  inr (inr (inr (inr (inr (inl refl))))),
  λ words whole. (
    plain_has (codes "copy") words whole,
    record {
      find = λ is. absurd (differs (codes "copy") (codes "find") refl is);
      type_of = λ is. absurd (differs (codes "copy") (codes "type") refl is);
      set = λ is. absurd (differs (codes "copy") (codes "set") refl is);
    },
  ),
)

entered_one : (stop : Option (Text × List Text)) (found : Option (Text × List Row)) → found ≡ entered (built program) stop
    → is_some found ≡ true → entered_fault (built program) stop ≡ [] → IsNotHelp stop → Meets found
entered_one None found is some taken helpless = absurd (true≢false (sym some ∙ ap is_some is))
entered_one (Some p) found is some taken helpless =
    one_of (built_as (subcommand (codes "show")) ∷ built_as finder ∷ built_as type_finder ∷ built_as (subcommand (codes "check")) ∷
    built_as setter ∷ built_as (subcommand (codes "copy")) ∷ []) p found is some taken helpless
    (serves_show, (serves_find, (serves_type, (serves_check, (serves_set, (serves_copy, tt))))))

-- a subcommand that was met is one of the program's, and has its paths
pub meets : (words : List Text) (found : Option (Text × List Row)) → found ≡ subcommand_of program words → is_some found ≡ true → refusals words ≡ [] → Meets found
meets words found is some taken =
    let top : Shape = (built program).top in
    let names : Names = names_of (built program) in
    let after : List Text = argument_words program words in
    let stop : Option (Text × List Text) = stop_after top.rules names after in
    let walked_well : walk_fault top names (walk_from nothing_held) after ≡ [] = first_none (walk_fault top names (walk_from nothing_held) after) _ taken in
    entered_one stop found is some
    (first_none (entered_fault (built program) stop) _ (second_none (walk_fault top names (walk_from nothing_held) after) _ taken))
    (walk_stops top names refl (walk_from nothing_held) after walked_well tt)
