-- Where a parse succeeds, the subcommand that it met is not `help`.
use Rattle.std.proofs.Common.{◌≡◌, ℕ, Bool, true, false, cond, List, [], ◌∷◌, Option, Some, None, is_some, refl}
use Rattle.std.specs.Prelude.{codes, fold}
use Rattle.std.specs.Str.{bytes_eq}
use Rattle.clap.specs.Lexer.{long_of, short_of}
use Rattle.clap.specs.Walk as w
use Rattle.clap.specs.Walk.{Held, Names, Outcome, Rule, Step, Text, Waiting, Walk, after_flag, after_step, arg_by_index, long_or_other, plain_word, short_or_plain, subcommand_met, subcommand_or_other, to_positional, walked, word_met}
use Rattle.clap.specs.Kinds.{Kinds, or_else}
use Rattle.clap.specs.Faults.{other_fault, step_fault, turn_fault, walk_fault, word_fault}
use Rattle.clap.specs.Simple.{Shape}
use Rattle.clap.specs.declared.error.kind.ErrorKind.TheVariants as kind
use Rattle.dw_cli.proofs.Filled.{first_none, second_none}

abbrev pub IsNotHelp : Option (Text × List Text) → Type 0
IsNotHelp None = Unit {0}
IsNotHelp (Some p) = bytes_eq p.0 (codes "help") ≡ false

abbrev MeetsNoHelp : Step → Type 0
MeetsNoHelp (w.next waiting) = Unit {0}
MeetsNoHelp (w.trailing position) = Unit {0}
MeetsNoHelp (w.subcommand name) = bytes_eq name (codes "help") ≡ false
MeetsNoHelp w.value = Unit {0}

module _ (c : List Rule) where
  plain_meets : (waiting : Waiting) (word : Text) (h : Held) → MeetsNoHelp (plain_word c waiting word h).1
  plain_meets w.idle word h = tt
  plain_meets (w.option id) word h = tt
  plain_meets w.positional word h = tt

  flag_meets : (waiting : Waiting) (word : Text) (h : Held) (out : Outcome) → MeetsNoHelp (after_flag c waiting word h out).1
  flag_meets waiting word h w.done = tt
  flag_meets waiting word h (w.waits id) = tt
  flag_meets waiting word h w.plain = plain_meets waiting word h
  flag_meets waiting word h w.refused = plain_meets waiting word h

  short_meets : (waiting : Waiting) (word : Text) (o : Option Text) (h : Held) → MeetsNoHelp (short_or_plain c waiting word o h).1
  short_meets waiting word None h = plain_meets waiting word h
  short_meets waiting word (Some flags) h = flag_meets waiting word _ _

  long_meets : (waiting : Waiting) (word : Text) (o : Option (Text × Option Text)) (h : Held) → MeetsNoHelp (long_or_other c waiting word o h).1
  long_meets waiting word (Some p) h = flag_meets waiting word _ _
  long_meets waiting word None h = short_meets waiting word (short_of word) h

  positional_stops : (o : Option Rule) (word : Text) (v : Walk) (h : Held) → IsNotHelp v.stopped → IsNotHelp (to_positional c o word v h).stopped
  positional_stops None word v h k = k
  positional_stops (Some a) word v h k = tt

  step_stops : (word : Text) (v : Walk) (h : Held) (step : Step) → MeetsNoHelp step → IsNotHelp v.stopped → IsNotHelp (after_step c word v h step).stopped
  step_stops word v h (w.next waiting) m k = k
  step_stops word v h (w.trailing position) m k = k
  step_stops word v h (w.subcommand name) m k = m
  step_stops word v h w.value m k = positional_stops (arg_by_index c v.position) word v h k

module _ (s : Shape) (names : Names) (takes_help : s.disable_help_subcommand ≡ false) where
  other_meets : (o : Option Text) (waiting : Waiting) (position : ℕ) (word : Text) (h : Held) → other_fault s o word h ≡ []
      → MeetsNoHelp (subcommand_or_other s.rules o waiting position word h).1
  other_meets (Some name) waiting position word h e = go (bytes_eq name (codes "help")) refl
    where
      go : (t : Bool) → bytes_eq name (codes "help") ≡ t → bytes_eq name (codes "help") ≡ false
      go true is = let bad : kind.DisplayHelp ∷ kind.InvalidSubcommand ∷ [] ≡ [] = rw (is, takes_help) at e in cc
      go false is = is
  other_meets None waiting position word h e = go (bytes_eq word (45 ∷ 45 ∷ []))
    where
      go : (t : Bool) → MeetsNoHelp (cond t (h, w.trailing position) (long_or_other s.rules waiting word (long_of word) h)).1
      go true = tt
      go false = long_meets s.rules waiting word (long_of word) h

  word_meets : (is_trailing : Bool) (waiting : Waiting) (position : ℕ) (word : Text) (h : Held) → word_fault s names is_trailing waiting word h ≡ []
      → MeetsNoHelp (word_met s.rules names is_trailing waiting position word h).1
  word_meets true waiting position word h e = tt
  word_meets false waiting position word h e = other_meets (subcommand_met names waiting word) waiting position word h e

  walked_stops : (v : Walk) (word : Text) → turn_fault s names v word ≡ [] → IsNotHelp v.stopped → IsNotHelp (walked s.rules names v word).stopped
  unfolding walked
  walked_stops v word e k = go v.stopped e k
    where
      met : Held × Step
      met = word_met s.rules names v.is_trailing v.waiting v.position word v.held

      first : Kinds
      first = word_fault s names v.is_trailing v.waiting word v.held

      second : Kinds
      second = step_fault s v.position met.0 met.1

      go : (o : Option (Text × List Text)) → cond (is_some o) [] (or_else first second) ≡ [] → IsNotHelp o → IsNotHelp (w.walked_from s.rules names o v word).stopped
      go (Some p) both m = m
      go None both m =
          step_stops s.rules word v met.0 met.1 (word_meets v.is_trailing v.waiting v.position word v.held (first_none first second both)) k

  pub walk_stops : (v : Walk) (words : List Text) → walk_fault s names v words ≡ [] → IsNotHelp v.stopped → IsNotHelp (fold (walked s.rules names) v words).stopped
  unfolding walk_fault
  walk_stops v [] e k = k
  walk_stops v (word ∷ rest) e k =
      let now = walked s.rules names v word in
      walk_stops now rest (second_none (turn_fault s names v word) (walk_fault s names now rest) e)
      (walked_stops v word (first_none (turn_fault s names v word) (walk_fault s names now rest) e) k)
